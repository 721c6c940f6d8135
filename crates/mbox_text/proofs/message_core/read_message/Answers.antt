use Rattle.std.proofs.Common.{◌≡◌, ◌∙◌, [], ◌∷◌, false, sym, ap}
use Rattle.std.specs.Prelude.{if◌then◌else◌}
use Rattle.mail_base.specs.Lines.{header_block, is_empty_line}
use Rattle.mbox_text.specs.MessageCore.{kept_from}
use Rattle.mbox_text.specs.Status.{drops, told_by}
use Rattle.mbox_text.proofs.MessageLemmas.{core_goes, core_stays, kept_past}
use Rattle.mbox_text.proofs.message_core.read_message.Goals as goal
use Rattle.mbox_text.proofs.message_core.read_message.Goals.{then-stays+in_ok-append-2}
use Rattle.mbox_text.proofs.message_core.read_message.Goals.{else-stays}

pub loop-line-preserved : goal.loop-line-preserved
loop-line-preserved c =
    let at = c.loop-line in
    let line = c.in-Some.line.now in
    let lines = c.next-in-loop-line.new.self in
    let next = c.past-stays.result.0 in
    let step : at.lines ≡ line ∷ lines = c.in-Some.ensures.steps in
    let some : is_empty_line line ≡ false =
    sym c.is_empty_line.ensures ∙ c.if-is_empty_line.false in
    let kept =
    kept_past (drops at.told) (drops next) c.past-stays.result.1 line lines at.lines step some
    (c.past-stays.ensures.stays (header_block lines)) in
    let block : header_block at.lines ≡ line ∷ header_block lines =
    ap header_block step ∙ ap (λ t. if t then [] else line ∷ header_block lines) some in
    record {
      core = elim c.if-stays.branch [
        | then-stays+in_ok-append-2 w ↦ core_stays at.core.items c.if-stays.core.items at.last.now
            c.if-stays.last.now
            line (kept_from (drops next) lines) (kept_from (drops at.told) at.lines)
            (kept ∙ ap
            (λ t. if t then line ∷ kept_from (drops next) lines
            else kept_from (drops next) lines) w.if-stays.true)
            (ap (λ k. k.items) w.core-is ∙ w.in_ok-append-2.ensures.ok) (ap (λ l. l.now) w.last-is)
        | else-stays w ↦ core_goes at.core.items c.if-stays.core.items at.last.now
            c.if-stays.last.now
            (kept_from (drops next) lines) (kept_from (drops at.told) at.lines)
            (kept ∙ ap
            (λ t. if t then line ∷ kept_from (drops next) lines
            else kept_from (drops next) lines) w.if-stays.false)
            (ap (λ k. k.items) w.core-is) (ap (λ l. l.now) w.last-is)
      ] ∙ at.invariant.core;
      told = c.past-stays.ensures.told (header_block lines) ∙ ap (told_by at.told) (sym block)
          ∙ at.invariant.told;
      left = c.as_bytes-left-in-Some.ensures;
    }
