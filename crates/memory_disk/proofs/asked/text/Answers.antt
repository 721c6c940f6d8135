use Rattle.std.proofs.Common.{◌≡◌, ◌∙◌, true, List, ℕ, subst, sym}
use Rattle.std.specs.Str.{is_utf8}
use Rattle.std.proofs.lemmas.Str.{is_utf8-from_IsUtf8}
use Rattle.memory_disk.proofs.asked.text.Goals as goal

pub returns-clause-text : goal.returns-clause-text
returns-clause-text c =
    subst (λ (l : List ℕ). is_utf8 l ≡ true)
    (sym (c.in_ok-bytes.ensures ∙ c.as_bytes.ensures.value))
    (is_utf8-from_IsUtf8 c.args.path.now c.utf8.path)
