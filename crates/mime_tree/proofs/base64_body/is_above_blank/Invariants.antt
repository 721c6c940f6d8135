use Rattle.std.proofs.Common.{◌≡◌, nat_lt, take}
use Rattle.std.specs.List.{list_all}
use Rattle.mime_tree.proofs.base64_body.is_above_blank.Given as goal

abbrev pub invariant-loop-b : goal.invariant-loop-b
invariant-loop-b l = l.all ≡ list_all (λ b. nat_lt 32 b) (take l.b-index l.text)
