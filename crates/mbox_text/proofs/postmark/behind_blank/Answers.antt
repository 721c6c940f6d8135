use Rattle.std.proofs.Common.{◌≡◌, ◌+◌, ◌-◌, List, ℕ, length, length-drop, take, take_all, drop, ap}
use Rattle.std.proofs.Common.{sym, ◌∙◌, arith}
use Rattle.folder_core.specs.Mbox.{first_some, stamp, stamp_behind}
use Rattle.mbox_text.proofs.PostmarkLemmas.{stamp_behind-Some, stamp_behind-None}
use Rattle.mbox_text.proofs.postmark.behind_blank.Goals as goal

pub returns-in-Some-clause-blank : goal.returns-in-Some-clause-blank
returns-in-Some-clause-blank c =
    let text = c.args.text.now in
    let behind = c.in-Some.at + 1 in
    let whole : take (length text - behind) (drop behind text) ≡ drop behind text =
    take_all _ _ (omega (arith, length-drop behind text)) in
    stamp_behind-Some text c.in-Some.at c.in-Some.ensures
    ∙ ap (λ (rest : List ℕ). first_some (stamp rest) (stamp_behind rest)) (sym whole)

pub returns-in-None-clause-blank : goal.returns-in-None-clause-blank
returns-in-None-clause-blank c =
    stamp_behind-None c.args.text.now c.in-None.ensures
