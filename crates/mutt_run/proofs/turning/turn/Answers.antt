use Rattle.std.proofs.Common.{◌∙◌, sym}
use Rattle.std.proofs.Math.Facts.{to_z-of_z}
use Rattle.std.proofs.lemmas.List.{length-map}
use Rattle.session.proofs.GivenLemmas.{given_then, keeps_on}
use Rattle.mutt_run.proofs.KeysLemmas.{turns_key}
use Rattle.mutt_run.proofs.TurnLemmas.{goes_so, runs_out, so_still}
use Rattle.mutt_run.proofs.turning.turn.Goals as goal

pub returns-in-Err-clause-turned : goal.returns-in-Err-clause-turned
returns-in-Err-clause-turned g c = λ given is first start goes.
    let here = given_then c.key.ensures.presses.given is in
    runs_out given first _ _ _
    (c.key.ensures.presses.on c.check.ensures.checks.room given is first goes.goes.screens
    (c.check.ensures.checks.taken given here first goes.goes.screens goes.goes.stands)) start _
    (so_still c.check.ensures.checks.notes (goes_so goes))

pub returns-in-Err-clause-pressed : goal.returns-in-Err-clause-pressed
returns-in-Err-clause-pressed g c =
    turns_key _ _ _ _ _ _ (to_z-of_z c.ranges.moment) c.check.ensures.checks.adds
    (c.key.ensures.presses.pressed c.check.ensures.checks.room)

pub returns-in-Ok-clause-turned : goal.returns-in-Ok-clause-turned
returns-in-Ok-clause-turned g c = λ given is first start goes.
    let here = given_then c.key.ensures.presses.given is in
    let taken = c.check.ensures.checks.taken given here first goes.goes.screens goes.goes.stands in
    c.tell_and_show.ensures.answered given is.first first goes.goes.screens _
    (c.key.ensures.presses.on c.check.ensures.checks.room given is first goes.goes.screens taken)
    (c.in-Ok.ensures.whole.to given is first goes.goes.screens taken)
    (c.len-told.ensures ∙ sym (length-map c.check.new.trace.notes.items (λ l. l.items))) start
    (so_still c.check.ensures.checks.notes (goes_so goes))

pub returns-in-Ok-clause-pressed : goal.returns-in-Ok-clause-pressed
returns-in-Ok-clause-pressed g c =
    turns_key _ _ _ _ _ _ (to_z-of_z c.ranges.moment) c.check.ensures.checks.adds
    (c.key.ensures.presses.pressed c.check.ensures.checks.room)

pub returns-in-Err-clause-told : goal.returns-in-Err-clause-told
returns-in-Err-clause-told g c = λ given is first screens stands before h.
    let here = given_then c.key.ensures.presses.given is in
    c.key.ensures.presses.told given is first screens
    (c.check.ensures.checks.taken given here first screens stands) before
    (c.check.ensures.checks.told given here first stands.state_is before h)

pub returns-in-Err-clause-met : goal.returns-in-Err-clause-met
returns-in-Err-clause-met g c = λ all.
    c.key.ensures.presses.met (c.check.ensures.checks.met all)

pub returns-in-Err-clause-kept : goal.returns-in-Err-clause-kept
returns-in-Err-clause-kept g c = keeps_on c.check.ensures.kept
    c.key.ensures.presses.given

pub returns-in-Err-clause-known : goal.returns-in-Err-clause-known
returns-in-Err-clause-known g c = c.key.ensures.presses.known

pub returns-in-Ok-clause-told : goal.returns-in-Ok-clause-told
returns-in-Ok-clause-told g c = λ given is first screens stands before h.
    let here = given_then c.key.ensures.presses.given is in
    c.key.ensures.presses.told given is first screens
    (c.check.ensures.checks.taken given here first screens stands) before
    (c.check.ensures.checks.told given here first stands.state_is before h)

pub returns-in-Ok-clause-met : goal.returns-in-Ok-clause-met
returns-in-Ok-clause-met g c = λ all.
    c.key.ensures.presses.met (c.check.ensures.checks.met all)

pub returns-in-Ok-clause-kept : goal.returns-in-Ok-clause-kept
returns-in-Ok-clause-kept g c = keeps_on c.check.ensures.kept
    c.key.ensures.presses.given

pub returns-in-Ok-clause-known : goal.returns-in-Ok-clause-known
returns-in-Ok-clause-known g c = c.key.ensures.presses.known

pub tell_and_show-requires-clause-fits : goal.tell_and_show-requires-clause-fits
tell_and_show-requires-clause-fits g c = c.in-Ok.ensures.whole.fits

pub tell_and_show-requires-clause-next : goal.tell_and_show-requires-clause-next
tell_and_show-requires-clause-next g c = c.in-Ok.ensures.whole.next_is
