use Rattle.std.proofs.Common.{ap, arith, length, map, refl, subst, sym, ◌∙◌}
use Rattle.std.proofs.Math.Facts.{to_z-of_z}
use Rattle.mail_base.specs.Series.{Held}
use Rattle.folder_letters.specs.Letters.{plain_letter}
use Rattle.folder_letters.specs.declared.letter.Letter.{Letter}
use Rattle.session_events.specs.Happened.{AllMet}
use Rattle.session_events.specs.declared.open_folder.OpenFolder.{OpenFolder}
use Rattle.session_events.specs.Events.{plain_events}
use Rattle.session_state.specs.declared.stage.Stage.TheVariants.{Over}
use Rattle.session.specs.Runs.{plain_session}
use Rattle.session.specs.Telling.{standing_of}
use Rattle.session_events.proofs.MetLemmas.{met_none}
use Rattle.session.proofs.BeginningLemmas.{fails_early, fails_late, fails_over, no_memory, open_in}
use Rattle.session.proofs.BeginningLemmas.{opens_at, opens_it, opens_met, put_opening, refuses_it}
use Rattle.session.proofs.BeginningLemmas.{starts_over}
use Rattle.session.proofs.GivenLemmas.{keeps_then}
use Rattle.session.proofs.StepsLemmas.{sources_off}
use Rattle.session.proofs.session_type.Session.open_wished.Goals as goal

pub returns-in_err-reserve-clause-err : goal.returns-in_err-reserve-clause-err
returns-in_err-reserve-clause-err g c =
    no_memory _ _ c.from_residual.ensures.1 (λ first before sources given is.
    fails_early _ given first _ _ _ before _ is.keeps
    (sources_off first (plain_session c.args.self.now c.args.trace.now.notes) _ _ before _ _
    (ap plain_events c.reserve.ensures.items) refl sources.sources))

pub returns-in_err-opening-clause-err : goal.returns-in_err-opening-clause-err
returns-in_err-opening-clause-err g c =
    no_memory _ _ c.from_residual-in_err-opening.ensures.1 (λ first before sources given is.
    fails_early _ given first _ _ _ before _ is.keeps
    (sources_off first (plain_session c.args.self.now c.args.trace.now.notes) _ _ before _ _
    (ap plain_events c.in_ok-reserve.ensures.items) c.in_err-opening.ensures.err.0
    sources.sources))

pub returns-in_err-reserve-clause-met : goal.returns-in_err-reserve-clause-met
returns-in_err-reserve-clause-met g c are =
    subst (AllMet (length (map plain_letter c.args.trace.now.archive.items)) 0)
    (sym (ap plain_events c.reserve.ensures.items))
    (met_none _ _ (ap (map plain_letter) c.requires.archive) are)

pub returns-in_err-opening-clause-met : goal.returns-in_err-opening-clause-met
returns-in_err-opening-clause-met g c are =
    subst (AllMet (length (map plain_letter c.look.new.archive.items)) 0)
    (sym (ap plain_events c.in_ok-reserve.ensures.items))
    (met_none _ _ (ap (λ (a : Held Letter). map plain_letter a.items) c.in_err-opening.ensures.err.1
    ∙ ap (map plain_letter) c.requires.archive) are)

pub open-requires-clause-fresh : goal.open-requires-clause-fresh
open-requires-clause-fresh g c =
    let at = standing_of (plain_session c.args.self.now c.args.trace.now.notes) in
    let looked = opens_at (to_z-of_z c.ranges.moment) (c.in_ok-opening.ensures.ok at refl refl) in
    (opens_it looked c.in-Ok.is c.in-Ok.folder-is).fresh

pub open-requires-clause-met : goal.open-requires-clause-met
open-requires-clause-met g c =
    let at = standing_of (plain_session c.args.self.now c.args.trace.now.notes) in
    let looked = opens_at (to_z-of_z c.ranges.moment) (c.in_ok-opening.ensures.ok at refl refl) in
    let opened = opens_it looked c.in-Ok.is c.in-Ok.folder-is in
    omega (arith, opened.known.met, opened.fresh.1, c.requires.ready.none)

pub open-requires-clause-forgot : goal.open-requires-clause-forgot
open-requires-clause-forgot g c =
    let at = standing_of (plain_session c.args.self.now c.args.trace.now.notes) in
    let looked = opens_at (to_z-of_z c.ranges.moment) (c.in_ok-opening.ensures.ok at refl refl) in
    (opens_it looked c.in-Ok.is c.in-Ok.folder-is).forgot

pub open-requires-clause-refused : goal.open-requires-clause-refused
open-requires-clause-refused g c =
    let at = standing_of (plain_session c.args.self.now c.args.trace.now.notes) in
    let looked = opens_at (to_z-of_z c.ranges.moment) (c.in_ok-opening.ensures.ok at refl refl) in
    (opens_it looked c.in-Ok.is c.in-Ok.folder-is).refused

pub open-requires-clause-checked : goal.open-requires-clause-checked
open-requires-clause-checked g c =
    let at = standing_of (plain_session c.args.self.now c.args.trace.now.notes) in
    (opens_it (c.in_ok-opening.ensures.ok at refl refl) c.in-Ok.is c.in-Ok.folder-is).checked

pub returns-in_err-open-in-Ok-clause-met : goal.returns-in_err-open-in-Ok-clause-met
returns-in_err-open-in-Ok-clause-met g c =
    let at = standing_of (plain_session c.args.self.now c.args.trace.now.notes) in
    let looked = opens_at (to_z-of_z c.ranges.moment) (c.in_ok-opening.ensures.ok at refl refl) in
    let put = put_opening _ _ _ _ c.push.result c.in_ok-reserve.ensures.items
    (c.push.ensures.has_room c.in_ok-reserve.ensures.room) c.push.ensures.ok in
    opens_met _ _ looked put

pub returns-in_err-open-in-Ok-clause-err : goal.returns-in_err-open-in-Ok-clause-err
returns-in_err-open-in-Ok-clause-err g c =
    no_memory _ _ c.from_residual-in_err-open-in-Ok.ensures.1 (λ first before sources given is.
    let at = standing_of (plain_session c.args.self.now c.args.trace.now.notes) in
    let looked = opens_at (to_z-of_z c.ranges.moment) (c.in_ok-opening.ensures.ok at refl refl) in
    let put = put_opening _ _ _ _ c.push.result c.in_ok-reserve.ensures.items
    (c.push.ensures.has_room c.in_ok-reserve.ensures.room) c.push.ensures.ok in
    fails_late _ given _ is.first (keeps_then c.open.ensures.kept is.keeps) first
    (plain_session c.args.self.now c.args.trace.now.notes) _ _ _ _ _ _ before _ _ refl put
    c.requires.ready.unopened c.requires.ready.read c.requires.ready.none
    looked sources.sources _)

pub returns-in_ok-open-in-Ok-clause-fits : goal.returns-in_ok-open-in-Ok-clause-fits
returns-in_ok-open-in-Ok-clause-fits g c =
    let at = standing_of (plain_session c.args.self.now c.args.trace.now.notes) in
    let looked = opens_at (to_z-of_z c.ranges.moment) (c.in_ok-opening.ensures.ok at refl refl) in
    record {
      fits = c.in_ok-open-in-Ok.ensures.fits;
      met = ap (λ (f : OpenFolder). f.met) c.in_ok-open-in-Ok.ensures.folder
          ∙ (opens_it looked c.in-Ok.is c.in-Ok.folder-is).known.met;
    }

pub returns-in_ok-open-in-Ok-clause-known : goal.returns-in_ok-open-in-Ok-clause-known
returns-in_ok-open-in-Ok-clause-known g c =
    let at = standing_of (plain_session c.args.self.now c.args.trace.now.notes) in
    let looked = opens_at (to_z-of_z c.ranges.moment) (c.in_ok-opening.ensures.ok at refl refl) in
    let opened = opens_it looked c.in-Ok.is c.in-Ok.folder-is in
    open_in _ c.open.new.self _ _ _ c.in_ok-open-in-Ok.ensures.folder opened.known opened.has
    opened.checked refl c.requires.moment

pub returns-in_ok-open-in-Ok-clause-met : goal.returns-in_ok-open-in-Ok-clause-met
returns-in_ok-open-in-Ok-clause-met g c =
    let at = standing_of (plain_session c.args.self.now c.args.trace.now.notes) in
    let looked = opens_at (to_z-of_z c.ranges.moment) (c.in_ok-opening.ensures.ok at refl refl) in
    let put = put_opening _ _ _ _ c.push.result c.in_ok-reserve.ensures.items
    (c.push.ensures.has_room c.in_ok-reserve.ensures.room) c.push.ensures.ok in
    opens_met _ _ looked put

pub returns-in_ok-open-in-Ok-clause-ok : goal.returns-in_ok-open-in-Ok-clause-ok
returns-in_ok-open-in-Ok-clause-ok g c first before sources given is =
    let at = standing_of (plain_session c.args.self.now c.args.trace.now.notes) in
    let looked = opens_at (to_z-of_z c.ranges.moment) (c.in_ok-opening.ensures.ok at refl refl) in
    let opened = opens_it looked c.in-Ok.is c.in-Ok.folder-is in
    let put = put_opening _ _ _ _ c.push.result c.in_ok-reserve.ensures.items
    (c.push.ensures.has_room c.in_ok-reserve.ensures.room) c.push.ensures.ok in
    starts_over _ given _ is.first (keeps_then c.open.ensures.kept is.keeps) first
    (plain_session c.args.self.now c.args.trace.now.notes) _ _ _ _ _ _ before _ _ refl put
    c.requires.ready.unopened c.requires.ready.read c.requires.ready.none
    looked sources.sources c.open.new.self c.open.new.notes _ opened.is_as
    c.in_ok-open-in-Ok.ensures.folder _ (to_z-of_z c.ranges.moment)
    (c.in_ok-open-in-Ok.ensures.opened given.verdicts is.keeps)

pub returns-in-Err-clause-met : goal.returns-in-Err-clause-met
returns-in-Err-clause-met g c =
    let at = standing_of (plain_session c.args.self.now c.args.trace.now.notes) in
    let looked = opens_at (to_z-of_z c.ranges.moment) (c.in_ok-opening.ensures.ok at refl refl) in
    let put = put_opening _ _ _ _ c.push.result c.in_ok-reserve.ensures.items
    (c.push.ensures.has_room c.in_ok-reserve.ensures.room) c.push.ensures.ok in
    opens_met _ _ looked put

pub returns-in-Err-clause-err : goal.returns-in-Err-clause-err
returns-in-Err-clause-err g c first before sources given is =
    let at = standing_of (plain_session c.args.self.now c.args.trace.now.notes) in
    let looked = opens_at (to_z-of_z c.ranges.moment) (c.in_ok-opening.ensures.ok at refl refl) in
    let put = put_opening _ _ _ _ c.push.result c.in_ok-reserve.ensures.items
    (c.push.ensures.has_room c.in_ok-reserve.ensures.room) c.push.ensures.ok in
    rw c.of.ensures
    (fails_over _ given _ is.first is.keeps first
    (plain_session c.args.self.now c.args.trace.now.notes) _ _ _ _ _ _ before _ _ refl put
    c.requires.ready.unopened c.requires.ready.read c.requires.ready.none
    looked sources.sources (record c.args.self.now { stage = Over }) c.args.trace.now.notes _
    (refuses_it looked c.in-Err.is c.in-Err.why-is) refl)
