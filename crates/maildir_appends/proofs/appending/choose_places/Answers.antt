use Rattle.folder_drivers.specs.Refusing.{IsAny}
use Rattle.folder_drivers.proofs.Causing.{memory_if}
use Rattle.maildir_appends.proofs.Freeing.{meets_none}
use Rattle.std.proofs.Common.{List, subst, sym, true, ℕ}
use Rattle.folder_core.specs.Maildir.{directory}
use Rattle.std.specs.String.{string_bytes}
use Rattle.folder_drivers.specs.MaildirAppend.{IsBase}
use Rattle.maildir_appends.specs.Placing.{AreOf}
use Rattle.folder_drivers.proofs.FirstLooking as F
use Rattle.maildir_appends.proofs.Naming.{first_is_base}
use Rattle.maildir_appends.proofs.appending.choose_places.Goals as goal

pub places_of-requires : goal.places_of-requires
places_of-requires g c =
    subst IsBase (sym c.as_str.ensures.value)
    (first_is_base _ c.args.moment (string_bytes c.in_ok-base.base) c.ranges.moment.fits
    c.in_ok-base.ensures)

pub returns-clause-chosen : goal.returns-clause-chosen
returns-clause-chosen g c = record {
  present = c.in_ok-present.present;
  saw = c.in_ok-present.ensures.saw;
  base = string_bytes c.in_ok-base.base;
  first = c.in_ok-base.ensures;
  is_base = first_is_base _ c.args.moment (string_bytes c.in_ok-base.base)
      c.ranges.moment.fits c.in_ok-base.ensures;
  paths = subst (λ (base : List ℕ).
      AreOf c.args.path.now base c.args.flags c.in_ok-places.places) c.as_str.ensures.value
      c.in_ok-places.ensures;
  met = meets_none c.args.path.now (string_bytes c.in_ok-base.base) c.in_ok-present.present
      c.args.archive.now _ _
      (first_is_base _ c.args.moment (string_bytes c.in_ok-base.base) c.ranges.moment.fits
      c.in_ok-base.ensures) c.in_ok-base.ensures.free c.in_ok-present.ensures.meets;
}

pub returns-in_err-base-clause-first : goal.returns-in_err-base-clause-first
returns-in_err-base-clause-first g c =
    F.found_first (directory true c.args.path.now) c.from_residual-in_err-base.result
    c.in_ok-present.ensures.first

pub returns-in_err-places-clause-first : goal.returns-in_err-places-clause-first
returns-in_err-places-clause-first g c =
    F.found_first (directory true c.args.path.now) c.from_residual-in_err-places.result
    c.in_ok-present.ensures.first

pub returns-in_err-base-clause-cause : goal.returns-in_err-base-clause-cause
returns-in_err-base-clause-cause g c =
    memory_if IsAny c.from_residual-in_err-base.result _ _ c.from_residual-in_err-base.ensures.1

pub returns-in_err-places-clause-cause : goal.returns-in_err-places-clause-cause
returns-in_err-places-clause-cause g c =
    memory_if IsAny c.from_residual-in_err-places.result _ _
    c.from_residual-in_err-places.ensures.1
