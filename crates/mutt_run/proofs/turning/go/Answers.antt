use Rattle.std.proofs.Common.{◌∙◌, [], Err, ap, arith, inr, refl, sym}
use Rattle.std.proofs.lemmas.List.{length-map}
use Rattle.session.proofs.GivenLemmas.{given_then, keeps_on}
use Rattle.mutt_run.proofs.KeysLemmas.{counts_from, counts_turned, ends_broken, ends_works}
use Rattle.mutt_run.proofs.KeysLemmas.{ends_over, presses_works}
use Rattle.mutt_run.proofs.ScreensLemmas.{ended_broken}
use Rattle.mutt_run.proofs.TurnLemmas.{begins_so, runs_out}
use Rattle.mutt_run.proofs.turning.go.Goals as goal

pub returns-in_default-clause-ended : goal.returns-in_default-clause-ended
returns-in_default-clause-ended g c = λ given is first start begins.
    runs_out given first _ [] _ (c.pushed.ensures.pushes.on given is first begins.waits) start _
    (begins_so begins)

pub returns-in_default-clause-pressed : goal.returns-in_default-clause-pressed
returns-in_default-clause-pressed g c =
    ends_broken _ _ _ _ _ _ _ (presses_works _ _ _ _ c.pushed.ensures.pushes.adds) _ _ (inr refl)

pub returns-in-Ok-Go-clause-ended : goal.returns-in-Ok-Go-clause-ended
returns-in-Ok-Go-clause-ended g c = λ given is first start begins.
    let before = given_then c.press_all.ensures.kept is in
    c.press_all.ensures.ended given is first start
    (c.in-Ok-Go.ensures.answered given before.first first [] _
    (c.pushed.ensures.pushes.on given before first begins.waits)
    (c.in-Ok.ensures.whole.to given before first begins.waits)
    (c.len-told.ensures ∙ sym (length-map c.args.trace.now.notes.items (λ l. l.items))) start
    (begins_so begins))

pub returns-in-Ok-Go-clause-pressed : goal.returns-in-Ok-Go-clause-pressed
returns-in-Ok-Go-clause-pressed g c =
    ends_works _ _ _ _ _ _ _ _ _ c.pushed.ensures.pushes.adds c.press_all.ensures.pressed

pub returns-in-Ok-Go-clause-told : goal.returns-in-Ok-Go-clause-told
returns-in-Ok-Go-clause-told g c = λ given is first start begins before h.
    let here = given_then c.press_all.ensures.kept is in
    c.press_all.ensures.told given is first start
    (c.in-Ok-Go.ensures.answered given here.first first [] _
    (c.pushed.ensures.pushes.on given here first begins.waits)
    (c.in-Ok.ensures.whole.to given here first begins.waits)
    (c.len-told.ensures ∙ sym (length-map c.args.trace.now.notes.items (λ l. l.items))) start
    (begins_so begins)) before
    (c.pushed.ensures.pushes.told given here first begins.waits before h)

pub returns-in-Ok-Go-clause-faults : goal.returns-in-Ok-Go-clause-faults
returns-in-Ok-Go-clause-faults g c = counts_from c.tell_and_show.ensures.later.0
    c.tell_and_show.ensures.later.1 c.press_all.ensures.faults

pub returns-in-Ok-Quit-clause-ended : goal.returns-in-Ok-Quit-clause-ended
returns-in-Ok-Quit-clause-ended g c = λ given is first start begins.
    c.in-Ok-Quit.ensures.answered given is.first first [] _
    (c.pushed.ensures.pushes.on given is first begins.waits)
    (c.in-Ok.ensures.whole.to given is first begins.waits)
    (c.len-told.ensures ∙ sym (length-map c.args.trace.now.notes.items (λ l. l.items))) start
    (begins_so begins)

pub returns-in-Ok-Quit-clause-pressed : goal.returns-in-Ok-Quit-clause-pressed
returns-in-Ok-Quit-clause-pressed g c =
    ends_over _ _ _ _ _ _ _ (presses_works _ _ _ _ c.pushed.ensures.pushes.adds) _
    (rw c.in-Ok-Quit.field-0-is at c.in-Ok-Quit.ensures.to)

pub returns-in-Err-clause-ended : goal.returns-in-Err-clause-ended
returns-in-Err-clause-ended g c = λ given is first start begins.
    ended_broken _ _ c.in-Err.ensures.to
    (c.in-Err.ensures.answered given is.first first [] _
    (c.pushed.ensures.pushes.on given is first begins.waits)
    (c.in-Ok.ensures.whole.to given is first begins.waits)
    (c.len-told.ensures ∙ sym (length-map c.args.trace.now.notes.items (λ l. l.items))) start
    (begins_so begins))

pub returns-in-Err-clause-pressed : goal.returns-in-Err-clause-pressed
returns-in-Err-clause-pressed g c =
    ends_broken _ _ _ _ _ _ _ (presses_works _ _ _ _ c.pushed.ensures.pushes.adds) _ _
    c.in-Err.ensures.to

pub returns-in-Err-clause-faults : goal.returns-in-Err-clause-faults
returns-in-Err-clause-faults g c =
    counts_turned _ _ _ _ _ _ _ _ _ c.in-Err.ensures.to
    (λ is. c.in-Err.ensures.cause (ap Err is)) (omega arith) (omega arith)
    c.tell_and_show.ensures.later.1

pub returns-in_default-clause-told : goal.returns-in_default-clause-told
returns-in_default-clause-told g c = λ given is first start begins.
    c.pushed.ensures.pushes.told given is first begins.waits

pub returns-in_default-clause-met : goal.returns-in_default-clause-met
returns-in_default-clause-met g c = c.pushed.ensures.pushes.met

pub returns-in_default-clause-kept : goal.returns-in_default-clause-kept
returns-in_default-clause-kept g c = c.pushed.ensures.pushes.given

pub returns-in-Ok-Quit-clause-told : goal.returns-in-Ok-Quit-clause-told
returns-in-Ok-Quit-clause-told g c = λ given is first start begins.
    c.pushed.ensures.pushes.told given is first begins.waits

pub returns-in-Ok-Quit-clause-met : goal.returns-in-Ok-Quit-clause-met
returns-in-Ok-Quit-clause-met g c = c.pushed.ensures.pushes.met

pub returns-in-Ok-Quit-clause-kept : goal.returns-in-Ok-Quit-clause-kept
returns-in-Ok-Quit-clause-kept g c = c.pushed.ensures.pushes.given

pub returns-in-Err-clause-told : goal.returns-in-Err-clause-told
returns-in-Err-clause-told g c = λ given is first start begins.
    c.pushed.ensures.pushes.told given is first begins.waits

pub returns-in-Err-clause-met : goal.returns-in-Err-clause-met
returns-in-Err-clause-met g c = c.pushed.ensures.pushes.met

pub returns-in-Err-clause-kept : goal.returns-in-Err-clause-kept
returns-in-Err-clause-kept g c = c.pushed.ensures.pushes.given

pub returns-in-Ok-Go-clause-met : goal.returns-in-Ok-Go-clause-met
returns-in-Ok-Go-clause-met g c = λ all. c.press_all.ensures.met
    (c.pushed.ensures.pushes.met all)

pub returns-in-Ok-Go-clause-kept : goal.returns-in-Ok-Go-clause-kept
returns-in-Ok-Go-clause-kept g c = keeps_on c.pushed.ensures.pushes.given
    c.press_all.ensures.kept

pub press_all-requires-clause-known : goal.press_all-requires-clause-known
press_all-requires-clause-known g c = c.pushed.ensures.pushes.known

pub tell_and_show-requires-clause-fits : goal.tell_and_show-requires-clause-fits
tell_and_show-requires-clause-fits g c = c.in-Ok.ensures.whole.fits

pub tell_and_show-requires-clause-next : goal.tell_and_show-requires-clause-next
tell_and_show-requires-clause-next g c = c.in-Ok.ensures.whole.next_is

pub press_all-requires-clause-fits : goal.press_all-requires-clause-fits
press_all-requires-clause-fits g c = c.in-Ok.ensures.whole.fits
