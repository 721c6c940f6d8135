use Rattle.std.proofs.Common.{◌≡◌, ◌++◌, length, map}
use Rattle.mail_base.specs.Series.{plain_texts}
use Rattle.mime_tree.specs.declared.part.Part.{Part}
use Rattle.mime_tree.proofs.kinds.kind_list.Given as goal

abbrev pub invariant-loop-left : goal.invariant-loop-left
invariant-loop-left l =
    plain_texts l.names ++ map (λ (p : Part). p.content.items) l.left
    ≡ map (λ (p : Part). p.content.items) l.parts.items

abbrev pub decreases-loop-left : goal.decreases-loop-left
decreases-loop-left l = length l.left
