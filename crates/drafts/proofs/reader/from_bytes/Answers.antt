use Rattle.std.proofs.Common.{ℕ, sym, subst}
use Rattle.drafts.specs.Fronts.{StopsAt}
use Rattle.drafts.proofs.DraftLemmas.{draft_spelled, draft_stops}
use Rattle.drafts.proofs.reader.from_bytes.Goals as goal

pub returns-in-Ok-clause-ok : goal.returns-in-Ok-clause-ok
returns-in-Ok-clause-ok c =
    let spelled = draft_spelled c.args.bytes.now _ c.in-Ok.ensures in spelled.whole

pub returns-in-Err-Left-clause-cause : goal.returns-in-Err-Left-clause-cause
returns-in-Err-Left-clause-cause c =
    let P : ℕ → Type 0 = StopsAt c.args.bytes.now in
    let read = rw c.in-Err-Left.field-0-is at c.in-Err-Left.ensures in
    subst P (sym c.saturating_sub.ensures)
    (draft_stops c.args.bytes.now c.in-Err-Left.left read)
