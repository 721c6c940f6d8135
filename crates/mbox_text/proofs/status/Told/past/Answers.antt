use Rattle.std.proofs.Common.{◌≡◌, ◌∙◌, Bool, true, false, refl, sym}
use Rattle.std.specs.Prelude.{not}
use Rattle.mbox_text.specs.Status.{drops}
use Rattle.mbox_text.proofs.StatusLemmas.{told_by-passed, without_status-passed}
use Rattle.mbox_text.proofs.status.Told.past.Goals as goal

stays_by : (t : Bool) → not t ≡ true → t ≡ false
stays_by true e = sym e
stays_by false e = refl

pub returns-then-not-may_be_status-clause-told : goal.returns-then-not-may_be_status-clause-told
returns-then-not-may_be_status-clause-told c = λ lines.
    told_by-passed c.args.self c.args.line.now lines
    (stays_by _ (sym c.stays.ensures ∙ c.if-stays.true))
    (sym c.may_be_status.ensures ∙ c.if-not-may_be_status.true)

pub returns-then-not-may_be_status-clause-stays : goal.returns-then-not-may_be_status-clause-stays
returns-then-not-may_be_status-clause-stays c = λ lines.
    without_status-passed (drops c.args.self) c.args.line.now lines
    (stays_by _ (sym c.stays.ensures ∙ c.if-stays.true))
    (sym c.may_be_status.ensures ∙ c.if-not-may_be_status.true)
