use Rattle.std.proofs.Common.{◌≡◌, ◌∙◌, ℤ, true, List, ap, map, refl, subst, sym, take}
use Rattle.std.proofs.Math.Facts.{to_z-of_z}
use Rattle.folder_letters.specs.Letters.{Mail, plain_letter}
use Rattle.folder_core.specs.Known.{KnownFolder, shortened}
use Rattle.folder_core.specs.declared.error.ScanError.TheVariants.{NoMemory}
use Rattle.index_view.specs.View.{IsOf}
use Rattle.session_events.specs.Events.{plain_event, plain_found}
use Rattle.session_events.specs.declared.open_folder.OpenFolder.{OpenFolder}
use Rattle.session_events.proofs.CheckLemmas.{visit_lists}
use Rattle.session.specs.Looking.{RefusesCheck, TakesIt}
use Rattle.session.proofs.CheckingLemmas.{of_more}
use Rattle.session.proofs.LookingLemmas.{left_right, look_forgot, look_found, look_off, met_still}
use Rattle.session.proofs.LookingLemmas.{told_at, visits_by}
use Rattle.session.specs.declared.session_type.Session.{Session}
use Rattle.session.proofs.session_type.Session.look_again.Goals as goal

pub take_found-requires-clause-is_of : goal.take_found-requires-clause-is_of
take_found-requires-clause-is_of g c =
    let listed = visit_lists _ _ _ _ _ c.visit-scanned.result c.in-Ok.found _ _
    c.visit-scanned.ensures.visits c.in-Ok.is in
    subst (λ (l : List Mail). IsOf l c.args.self.now.core.desk.view) (sym listed.archived)
    (of_more (map plain_letter c.args.archive.now.items) listed.added
    c.args.self.now.core.desk.view c.requires.fits.is_of)

pub forget-requires : goal.forget-requires
forget-requires g c =
    let listed = visit_lists _ _ _ _ _ c.visit-scanned.result c.in-Ok.found _ _
    c.visit-scanned.ensures.visits c.in-Ok.is in
    record {
      met = met_still _ c.args.archive.now.items c.visit-scanned.new.archive.items listed.added
          (ap (λ (s : Session). s.folder.met) c.in-Err-take_found.ensures.err
          ∙ ap (λ (f : OpenFolder). f.met) c.visit-scanned.ensures.rest ∙ c.requires.known.met)
          listed.archived;
    }

pub returns-in-Ok-take_found : goal.returns-in-Ok-take_found
returns-in-Ok-take_found g c =
    let old : Session = c.args.self.now in
    let folder : OpenFolder = c.visit-scanned.new.self in
    let mid : Session = record old { folder = folder } in
    told_at _ c.args.quiet c.args.moment _ old c.take_found.new.self c.args.archive.now.items
    c.visit-scanned.new.archive.items (plain_found c.in-Ok-take_found.found)
    c.visit-scanned.result.marks _ _ (to_z-of_z c.ranges.moment)
    (look_found _ c.args.quiet c.args.moment old mid c.take_found.new.self
    c.args.archive.now.items c.visit-scanned.new.archive.items folder.known c.visit-scanned.result
    c.in-Ok.found c.in-Ok-take_found.found _ _ c.requires.known (visits_by c.as_slice-owner.ensures
    c.visit-scanned.ensures.visits)
    c.in-Ok.is
    (ap (λ (f : OpenFolder). record old { folder = f }) c.visit-scanned.ensures.rest)
    (subst (λ (m : ℤ). TakesIt c.args.quiet (map plain_letter c.visit-scanned.new.archive.items) m
    mid
    c.take_found.new.self c.in-Ok-take_found.found) (to_z-of_z c.ranges.moment)
    c.in-Ok-take_found.ensures.ok)
    c.requires.index c.requires.fits)

pub returns-in-Err-take_found : goal.returns-in-Err-take_found
returns-in-Err-take_found g c =
    let old : Session = c.args.self.now in
    let folder : OpenFolder = c.visit-scanned.new.self in
    let left : Session = c.take_found.new.self in
    let gone : OpenFolder = c.forget.new.self in
    let kept : left ≡ record old { folder = folder } = c.in-Err-take_found.ensures.err in
    let folder_kept : left.folder ≡ folder = ap (λ (s : Session). s.folder) kept in
    look_forgot _ c.args.quiet c.args.moment old (record left { folder = gone })
    c.refuse_check.new.self
    c.args.archive.now.items c.visit-scanned.new.archive.items c.forget.new.archive.items
    c.visit-scanned.result c.in-Ok.found (plain_event c.refuse_check.result) _ _ c.requires.known
    folder gone (visits_by c.as_slice-owner.ensures
    c.visit-scanned.ensures.visits) c.visit-scanned.ensures.rest c.in-Ok.is
    (c.forget.ensures.archive
    ∙ ap (λ (f : OpenFolder). take f.met c.visit-scanned.new.archive.items) folder_kept)
    (c.forget.ensures.rest
    ∙ ap (λ (k : KnownFolder). record left.folder { known = k; forgot = true })
    c.forget.ensures.known
    ∙ ap (λ (f : OpenFolder). record f { known = shortened f.met f.known; forgot = true })
    folder_kept)
    (left_right (map plain_letter c.visit-scanned.new.archive.items)
    (map plain_letter c.forget.new.archive.items) folder left.folder gone.known _ folder_kept
    c.forget.ensures.right)
    (ap (λ (s : Session). record s { folder = gone }) kept)
    (subst (λ (m : ℤ). RefusesCheck c.args.quiet NoMemory m c.visit-scanned.result.marks
    (record left { folder = gone }) c.refuse_check.new.self (plain_event c.refuse_check.result))
    (to_z-of_z c.ranges.moment) c.refuse_check.ensures)
    c.requires.index c.requires.fits

pub returns-in-Err : goal.returns-in-Err
returns-in-Err g c =
    let old : Session = c.args.self.now in
    let folder : OpenFolder = c.visit-scanned.new.self in
    let mid : Session = record old { folder = folder } in
    look_off _ c.args.quiet c.args.moment old mid c.refuse_check-in-Err.new.self
    c.args.archive.now.items c.visit-scanned.new.archive.items c.visit-scanned.result c.in-Err.why
    (plain_event c.refuse_check-in-Err.result) _ _ c.requires.known folder
    (visits_by c.as_slice-owner.ensures
    c.visit-scanned.ensures.visits) c.visit-scanned.ensures.rest c.in-Err.is refl
    (subst (λ (m : ℤ). RefusesCheck c.args.quiet c.in-Err.why m c.visit-scanned.result.marks mid
    c.refuse_check-in-Err.new.self (plain_event c.refuse_check-in-Err.result))
    (to_z-of_z c.ranges.moment) c.refuse_check-in-Err.ensures)
    c.requires.index c.requires.fits
