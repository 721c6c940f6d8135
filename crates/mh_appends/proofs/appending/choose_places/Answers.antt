use Rattle.std.proofs.Common.{map, subst, sym, ℕ, List}
use Rattle.mail_base.specs.Series.{Held}
use Rattle.folder_drivers.specs.MetNames.{plain_names}
use Rattle.folder_drivers.specs.MhAppend.{IsNextNumber}
use Rattle.folder_drivers.proofs.FirstLooking as F
use Rattle.mh_appends.proofs.Refusing.{told_none}
use Rattle.mh_appends.proofs.appending.choose_places.Goals as goal

pub returns-clause-chosen : goal.returns-clause-chosen
returns-clause-chosen g c = record {
  names = plain_names c.in_ok-names.names;
  saw = c.in_ok-names.ensures.saw;
  met = c.in_ok-names.ensures.met;
  empties = c.in_ok-names.ensures.empties;
  next = subst (IsNextNumber (plain_names c.in_ok-names.names)) (sym c.in_ok-places.ensures.number)
      (subst (λ (l : List (Held ℕ)). IsNextNumber (map (λ name. name.items) l)
      c.in_ok-number.number) c.as_slice.ensures c.in_ok-number.ensures);
  of = c.in_ok-places.ensures.paths;
}

pub returns-in_err-number-clause-first : goal.returns-in_err-number-clause-first
returns-in_err-number-clause-first g c =
    F.found_first c.args.path.now c.from_residual-in_err-number.result
    c.in_ok-names.ensures.first

pub returns-in_err-places-clause-first : goal.returns-in_err-places-clause-first
returns-in_err-places-clause-first g c =
    F.found_first c.args.path.now c.from_residual-in_err-places.result
    c.in_ok-names.ensures.first

pub returns-in_err-number-clause-cause : goal.returns-in_err-number-clause-cause
returns-in_err-number-clause-cause g c =
    told_none c.args.path.now c.from_residual-in_err-number.result _ _
    c.from_residual-in_err-number.ensures.1

pub returns-in_err-places-clause-cause : goal.returns-in_err-places-clause-cause
returns-in_err-places-clause-cause g c =
    told_none c.args.path.now c.from_residual-in_err-places.result _ _
    c.from_residual-in_err-places.ensures.1
