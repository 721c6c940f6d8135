use Rattle.std.proofs.Common.{◌≡◌, ◌∙◌, ℕ, List, [], ◌∷◌, length, get_or, refl, sym, ap, pos, rules}
use Rattle.std.proofs.Common.{w16, to_z, of_z, unsigned_abs}
use Rattle.std.proofs.lemmas.Slice.Eq.{text_from_reads}
use Rattle.jiff_core.specs.Calendar.{days_from_civil, weekday_number}
use Rattle.jiff_core.specs.Weekday.{monday_zero}
use Rattle.folder_drivers.specs.MboxStamp.{weekday_name}
use Rattle.mbox_items.proofs.CalendarLemmas.{abs_is, back_year}
use Rattle.mbox_items.proofs.stamp.asctime.Goals as goal

three_items : (xs : List ℕ) → length xs ≡ 3
    → xs ≡ get_or xs 0 0 ∷ get_or xs 1 0 ∷ get_or xs 2 0 ∷ []
three_items xs h = text_from_reads xs _ h (refl, (refl, (refl, tt)))

pub returns : goal.returns
returns c =
    let d = c.args.date in
    let year : unsigned_abs (to_z w16 (of_z w16 d.year)) ≡ unsigned_abs d.year =
    ap unsigned_abs (back_year d.year d.year_in) in
    let weekday : weekday_name (weekday_number (days_from_civil (pos (unsigned_abs d.year)) d.month
    d.day)) ≡ weekday_name (monday_zero c.weekday.result) =
    ap (λ y. weekday_name (weekday_number (days_from_civil y d.month d.day)))
    (abs_is d.year c.requires.year)
    ∙ ap weekday_name (sym c.weekday.ensures) in
    let day = sym c.weekday_name.ensures ∙ three_items c.weekday_name.result.now (search rules) in
    let month = sym c.month_name.ensures ∙ three_items c.month_name.result.now (search rules) in
    rw (
      weekday,
      day,
      month,
      c.padded.ensures,
      c.two_digits.ensures,
      c.two_digits-2.ensures,
      c.two_digits-3.ensures,
      c.two_digits-4.ensures,
      c.two_digits-5.ensures,
      year,
    ) refl
