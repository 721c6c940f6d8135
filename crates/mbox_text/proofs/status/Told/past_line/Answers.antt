use Rattle.std.proofs.Common.{◌≡◌, ◌+◌, ◌-◌, length, take, drop, sym, ◌∙◌, arith, take_all}
use Rattle.std.proofs.Common.{length-drop}
use Rattle.std.specs.Prelude.{codes}
use Rattle.mbox_text.specs.Status.{is_status, is_x_status}
use Rattle.mbox_text.proofs.StatusLemmas.{GoOn-field, GoOn-continued, told_by-line}
use Rattle.mbox_text.proofs.status.Told.past_line.Goals as goal

pub returns-in-Some-clause-told : goal.returns-in-Some-clause-told
returns-in-Some-clause-told c = λ lines.
    let line = c.args.line.now in
    let told = c.args.self in
    let named = c.named in
    let k = c.in-Some.at in
    let place = sym c.colon_of.ensures.value ∙ c.in-Some.is in
    let text : take (length line - (k + 1)) (drop (k + 1) line) ≡ drop (k + 1) line =
    take_all _ _ (omega (arith, length-drop (k + 1) line)) in
    told_by-line told c.past_field.result.0 named.result line _ lines c.past_field.ensures.field
    c.past_field.ensures.flags
    (GoOn-field (codes "Status") line _ k lines (is_status told.field) _ place text
    named.ensures.status)
    (GoOn-field (codes "X-Status") line _ k lines (is_x_status told.field) _ place text
    named.ensures.x_status)

pub returns-in-None-clause-told : goal.returns-in-None-clause-told
returns-in-None-clause-told c = λ lines.
    let line = c.args.line.now in
    let told = c.args.self in
    let with = c.past_field-in-None in
    let place = sym c.colon_of.ensures.value ∙ c.in-None.is in
    let more = sym c.is_continuation.ensures ∙ c.if-is_continuation.true in
    told_by-line told with.result.0 told.field line line lines with.ensures.field with.ensures.flags
    (GoOn-continued (codes "Status") line lines (is_status told.field) place more)
    (GoOn-continued (codes "X-Status") line lines (is_x_status told.field) place more)
