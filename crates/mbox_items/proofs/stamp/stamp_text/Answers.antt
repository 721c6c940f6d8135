use Rattle.std.proofs.Common.{◌≡◌, ◌∙◌, ◌/◌, ap, arith, pos, unsigned_abs}
use Rattle.jiff_core.proofs.SignedLemmas.{one_part, signed_arith}
use Rattle.jiff_core.specs.Date.{epoch_day}
use Rattle.folder_drivers.specs.MboxStamp.{asctime}
use Rattle.mbox_items.proofs.CalendarLemmas.{from_1970, stamp_text_is}
use Rattle.mbox_items.proofs.stamp.stamp_text.Goals as goal

pub asctime-requires-clause-year : goal.asctime-requires-clause-year
asctime-requires-clause-year c =
    let from = from_1970 c.in-Ok.date (omega (
      arith,
      signed_arith,
      c.in-Ok.ensures.value,
      one_part c.args.moment,
    )) in
    omega (arith, signed_arith)

pub returns : goal.returns
returns c =
    let d = c.in-Ok.date in
    let moment = c.args.moment in
    let day : epoch_day d ≡ pos (unsigned_abs moment / 86_400) =
    omega (arith, signed_arith, c.in-Ok.ensures.value, one_part moment) in
    c.asctime.ensures
    ∙ ap (asctime (unsigned_abs d.year) d.month d.day)
    (omega (arith, signed_arith, one_part moment))
    ∙ stamp_text_is d moment day
