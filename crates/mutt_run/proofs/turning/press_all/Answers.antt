use Rattle.std.proofs.Common.{Err, arith, ap, length, refl}
use Rattle.std.proofs.Common.{FitsSigned, w64}
use Rattle.std.proofs.lemmas.Int.{ints as signed_arith}
use Rattle.std.proofs.lemmas.Int.{to_z-of_z}
use Rattle.keymap.specs.Reader.{PlainReader}
use Rattle.session_events.specs.Events.{plain_events}
use Rattle.session.proofs.GivenLemmas.{given_then, keeps_same, keeps_still}
use Rattle.mutt_run.proofs.KeysLemmas.{counted_key, counts_turned, ended_keys, ends_broken}
use Rattle.mutt_run.proofs.KeysLemmas.{keeps_over}
use Rattle.mutt_run.proofs.KeysLemmas.{ends_done, ends_fault, ends_limit, ends_over, presses_end}
use Rattle.mutt_run.proofs.KeysLemmas.{presses_key, presses_new, presses_stop, pressed_on}
use Rattle.mutt_run.proofs.KeysLemmas.{stays_same}
use Rattle.mutt_run.proofs.ScreensLemmas.{ended_broken, out_broken, out_same}
use Rattle.session.proofs.StepsLemmas.{told_same}
use Rattle.mutt_run.proofs.turning.press_all.Goals as goal

pub loop-turn-init : goal.loop-turn-init
loop-turn-init g c = record {
  goes = λ given is first start h. h;
  presses = presses_new _ _ _ _ c.new-reader.ensures;
  count = omega (arith, ap (λ (r : PlainReader). length r.pending) c.new-reader.ensures);
  idle = c.requires.idle;
  fits = c.requires.fits;
  told = λ given is first start goes before h. h;
  known = c.requires.known;
  met = λ all. all;
  kept = keeps_still _ _ refl (keeps_same _);
  keys = omega arith;
  out = omega arith;
  errs = omega arith;
}

pub loop-turn-preserved : goal.loop-turn-preserved
loop-turn-preserved g c = record {
  goes = λ given is first start h. c.in-Ok-Go.ensures.turned given is first start
      (out_same (ap plain_events c.reserve.ensures.items) (c.loop-turn.invariant.goes given
      (given_then c.turn.ensures.kept is) first start h));
  presses = presses_key _ _ _ _ _ _ _ _ c.loop-turn.invariant.presses _ c.next_key.ensures.ahead
      _ _ _ _ (rw c.in-Ok-Some.field-0-is at c.in-Ok-Some.ensures.key) c.now-moment.ensures.gives
      (pressed_on _ _ _ _ _ _
      (ap plain_events c.reserve.ensures.items) (let fits : FitsSigned w64 c.now-moment.result =
      omega (arith, signed_arith, c.now-moment.ensures.range) in simp to_z-of_z)
      c.turn.ensures.pressed);
  count = counted_key _ _ _ _ _ _ (rw c.in-Ok-Some.field-0-is at c.in-Ok-Some.ensures.key)
      c.loop-turn.invariant.count;
  idle = rw c.in-Ok-Go.field-0-is at c.in-Ok-Go.ensures.to;
  fits = c.in-Ok-Go.ensures.fits;
  told = λ given is first start goes before h.
      let here = given_then c.turn.ensures.kept is in
      let stood = out_same (ap plain_events c.reserve.ensures.items)
      (c.loop-turn.invariant.goes given here first start goes) in
      c.turn.ensures.told given is first stood.goes.screens stood.goes.stands before
      (told_same (ap plain_events c.reserve.ensures.items)
      (c.loop-turn.invariant.told given here first start goes before h));
  known = c.turn.ensures.known;
  met = λ all. c.turn.ensures.met (stays_same _ _ _ (ap plain_events c.reserve.ensures.items)
      (c.loop-turn.invariant.met all));
  kept = keeps_over c.turn.ensures.kept c.loop-turn.invariant.kept refl refl;
  keys = omega (arith, c.loop-turn.invariant.keys, c.next_key.ensures.later);
  out = omega (arith, c.loop-turn.invariant.out, c.turn.ensures.later.0);
  errs = omega (arith, c.loop-turn.invariant.errs, c.turn.ensures.later.1);
}

pub returns-then-is_err-clause-ended : goal.returns-then-is_err-clause-ended
returns-then-is_err-clause-ended g c = λ given is first start h.
    out_broken (ap plain_events c.reserve.ensures.items)
    (c.loop-turn.invariant.goes given is first start h)

pub returns-then-is_err-clause-told : goal.returns-then-is_err-clause-told
returns-then-is_err-clause-told g c = λ given is first start goes before h.
    told_same (ap plain_events c.reserve.ensures.items)
    (c.loop-turn.invariant.told given is first start goes before h)

pub returns-in-Ok-None-clause-ended : goal.returns-in-Ok-None-clause-ended
returns-in-Ok-None-clause-ended g c = λ given is first start h.
    out_same (ap plain_events c.reserve.ensures.items)
    (c.loop-turn.invariant.goes given is first start h)

pub returns-in-Ok-None-clause-pressed : goal.returns-in-Ok-None-clause-pressed
returns-in-Ok-None-clause-pressed g c =
    let ended = rw c.in-Ok-None.field-0-is at c.in-Ok-None.ensures.key in
    ends_done _ _ _ _ _ _ _ (presses_end _ _ _ _ _ _ _ _ c.loop-turn.invariant.presses _
    c.next_key.ensures.ahead _ (ap plain_events c.reserve.ensures.items) ended) _
    c.loop-turn.invariant.idle (ended_keys _ _ _ _ ended)

pub returns-in-Ok-None-clause-told : goal.returns-in-Ok-None-clause-told
returns-in-Ok-None-clause-told g c = λ given is first start goes before h.
    told_same (ap plain_events c.reserve.ensures.items)
    (c.loop-turn.invariant.told given is first start goes before h)

pub returns-in-Err-ReadFault-clause-pressed : goal.returns-in-Err-ReadFault-clause-pressed
returns-in-Err-ReadFault-clause-pressed g c =
    ends_fault _ _ _ _ _ _ _ (presses_stop _ _ _ _ _ _ _ _ c.loop-turn.invariant.presses _
    c.next_key.ensures.ahead _ (ap plain_events c.reserve.ensures.items) _
    c.in-Err-ReadFault.ensures.stops) _ c.loop-turn.invariant.idle
    (rw c.in-Err-ReadFault.field-0-is at c.in-Err-ReadFault.ensures.stops.cause)

pub returns-in-Err-ReadFault-clause-told : goal.returns-in-Err-ReadFault-clause-told
returns-in-Err-ReadFault-clause-told g c = λ given is first start goes before h.
    told_same (ap plain_events c.reserve.ensures.items)
    (c.loop-turn.invariant.told given is first start goes before h)

pub returns-in-Err-TooManyKeys-clause-ended : goal.returns-in-Err-TooManyKeys-clause-ended
returns-in-Err-TooManyKeys-clause-ended g c = λ given is first start h.
    out_same (ap plain_events c.reserve.ensures.items)
    (c.loop-turn.invariant.goes given is first start h)

pub returns-in-Err-TooManyKeys-clause-pressed : goal.returns-in-Err-TooManyKeys-clause-pressed
returns-in-Err-TooManyKeys-clause-pressed g c =
    ends_limit _ _ _ _ _ _ _ (presses_stop _ _ _ _ _ _ _ _ c.loop-turn.invariant.presses _
    c.next_key.ensures.ahead _ (ap plain_events c.reserve.ensures.items) _
    c.in-Err-TooManyKeys.ensures.stops) _ c.loop-turn.invariant.idle
    (rw c.in-Err-TooManyKeys.field-0-is at c.in-Err-TooManyKeys.ensures.stops.cause)

pub returns-in-Err-TooManyKeys-clause-told : goal.returns-in-Err-TooManyKeys-clause-told
returns-in-Err-TooManyKeys-clause-told g c = λ given is first start goes before h.
    told_same (ap plain_events c.reserve.ensures.items)
    (c.loop-turn.invariant.told given is first start goes before h)

pub returns-in-Ok-Quit-clause-ended : goal.returns-in-Ok-Quit-clause-ended
returns-in-Ok-Quit-clause-ended g c = λ given is first start h.
    c.in-Ok-Quit.ensures.turned given is first start
    (out_same (ap plain_events c.reserve.ensures.items) (c.loop-turn.invariant.goes given
    (given_then c.turn.ensures.kept is) first start h))

pub returns-in-Ok-Quit-clause-pressed : goal.returns-in-Ok-Quit-clause-pressed
returns-in-Ok-Quit-clause-pressed g c =
    ends_over _ _ _ _ _ _ _ (presses_key _ _ _ _ _ _ _ _ c.loop-turn.invariant.presses _
    c.next_key.ensures.ahead _ _ _ _ (rw c.in-Ok-Some.field-0-is at c.in-Ok-Some.ensures.key)
    c.now-moment.ensures.gives (pressed_on _ _ _ _ _ _
    (ap plain_events c.reserve.ensures.items) (let fits : FitsSigned w64 c.now-moment.result =
    omega (arith, signed_arith, c.now-moment.ensures.range) in simp to_z-of_z)
    c.turn.ensures.pressed)) _
    (rw c.in-Ok-Quit.field-0-is at c.in-Ok-Quit.ensures.to)

pub returns-in-Ok-Quit-clause-told : goal.returns-in-Ok-Quit-clause-told
returns-in-Ok-Quit-clause-told g c = λ given is first start goes before h.
    let here = given_then c.turn.ensures.kept is in
    let stood = out_same (ap plain_events c.reserve.ensures.items)
    (c.loop-turn.invariant.goes given here first start goes) in
    c.turn.ensures.told given is first stood.goes.screens stood.goes.stands before
    (told_same (ap plain_events c.reserve.ensures.items)
    (c.loop-turn.invariant.told given here first start goes before h))

pub returns-in-Err-clause-ended : goal.returns-in-Err-clause-ended
returns-in-Err-clause-ended g c = λ given is first start h.
    ended_broken _ _ c.in-Err.ensures.to (c.in-Err.ensures.turned given is first start
    (out_same (ap plain_events c.reserve.ensures.items) (c.loop-turn.invariant.goes given
    (given_then c.turn.ensures.kept is) first start h)))

pub returns-in-Err-clause-pressed : goal.returns-in-Err-clause-pressed
returns-in-Err-clause-pressed g c =
    ends_broken _ _ _ _ _ _ _ (presses_key _ _ _ _ _ _ _ _ c.loop-turn.invariant.presses _
    c.next_key.ensures.ahead _ _ _ _ (rw c.in-Ok-Some.field-0-is at c.in-Ok-Some.ensures.key)
    c.now-moment.ensures.gives (pressed_on _ _ _ _ _ _
    (ap plain_events c.reserve.ensures.items) (let fits : FitsSigned w64 c.now-moment.result =
    omega (arith, signed_arith, c.now-moment.ensures.range) in simp to_z-of_z)
    c.turn.ensures.pressed)) _ _ c.in-Err.ensures.to

pub returns-in-Err-clause-told : goal.returns-in-Err-clause-told
returns-in-Err-clause-told g c = λ given is first start goes before h.
    let here = given_then c.turn.ensures.kept is in
    let stood = out_same (ap plain_events c.reserve.ensures.items)
    (c.loop-turn.invariant.goes given here first start goes) in
    c.turn.ensures.told given is first stood.goes.screens stood.goes.stands before
    (told_same (ap plain_events c.reserve.ensures.items)
    (c.loop-turn.invariant.told given here first start goes before h))

pub returns-in-Ok-Quit-clause-kept : goal.returns-in-Ok-Quit-clause-kept
returns-in-Ok-Quit-clause-kept g c =
    keeps_over c.turn.ensures.kept c.loop-turn.invariant.kept refl refl

pub returns-in-Err-clause-kept : goal.returns-in-Err-clause-kept
returns-in-Err-clause-kept g c =
    keeps_over c.turn.ensures.kept c.loop-turn.invariant.kept refl refl

pub returns-in-Err-clause-faults : goal.returns-in-Err-clause-faults
returns-in-Err-clause-faults g c =
    counts_turned _ _ _ _ _ _ _ _ _ c.in-Err.ensures.to
    (λ is. c.in-Err.ensures.cause (ap Err is)) c.loop-turn.invariant.out
    c.loop-turn.invariant.errs c.turn.ensures.later.1

pub returns-in-Err-ReadFault-clause-ended : goal.returns-in-Err-ReadFault-clause-ended
returns-in-Err-ReadFault-clause-ended g c = λ given is first start h.
    out_same (ap plain_events c.reserve.ensures.items)
    (c.loop-turn.invariant.goes given is first start h)

pub returns-then-is_err-clause-met : goal.returns-then-is_err-clause-met
returns-then-is_err-clause-met g c = λ all.
    stays_same _ _ _ (ap plain_events c.reserve.ensures.items) (c.loop-turn.invariant.met all)

pub returns-in-Ok-None-clause-met : goal.returns-in-Ok-None-clause-met
returns-in-Ok-None-clause-met g c = λ all.
    stays_same _ _ _ (ap plain_events c.reserve.ensures.items) (c.loop-turn.invariant.met all)

pub returns-in-Err-ReadFault-clause-met : goal.returns-in-Err-ReadFault-clause-met
returns-in-Err-ReadFault-clause-met g c = λ all.
    stays_same _ _ _ (ap plain_events c.reserve.ensures.items) (c.loop-turn.invariant.met all)

pub returns-in-Err-TooManyKeys-clause-met : goal.returns-in-Err-TooManyKeys-clause-met
returns-in-Err-TooManyKeys-clause-met g c = λ all.
    stays_same _ _ _ (ap plain_events c.reserve.ensures.items) (c.loop-turn.invariant.met all)

pub returns-in-Ok-Quit-clause-met : goal.returns-in-Ok-Quit-clause-met
returns-in-Ok-Quit-clause-met g c = λ all. c.turn.ensures.met
    (stays_same _ _ _ (ap plain_events c.reserve.ensures.items) (c.loop-turn.invariant.met all))

pub returns-in-Err-clause-met : goal.returns-in-Err-clause-met
returns-in-Err-clause-met g c = λ all. c.turn.ensures.met
    (stays_same _ _ _ (ap plain_events c.reserve.ensures.items) (c.loop-turn.invariant.met all))
