use Rattle.std.proofs.Common.{◌≡◌, map, take}
use Rattle.mail_base.specs.Series.{plain_texts}
use Rattle.threads.proofs.message.copy_names.Given as goal

abbrev pub invariant-loop-name : goal.invariant-loop-name
invariant-loop-name l = plain_texts l.copies ≡ map (λ n. n.items) (take l.name-index l.name-items)
