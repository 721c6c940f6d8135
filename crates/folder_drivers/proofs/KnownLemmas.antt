-- What is known of a folder, but for whether its lock is held.
use Rattle.std.proofs.Common.{ap, sym, ◌∙◌, ◌≡◌}
use Rattle.folder_core.specs.Known.{KnownFolder}

-- what is known is as before, but that the lock is held so
pub held_so : (known new_known : KnownFolder) → new_known ≡ known
    → new_known ≡ record known { held = new_known.held }
held_so known new_known is =
    is ∙ (λ i. record known { held = sym (ap (λ (k : KnownFolder). k.held) is) i })
