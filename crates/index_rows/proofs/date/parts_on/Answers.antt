use Rattle.std.proofs.Common.{◌∙◌, sym}
use Rattle.std.specs.Prelude.{Some, pos}
use Rattle.jiff_tz.proofs.YearLemmas.{back_year}
use Rattle.index_rows.proofs.ClockLemmas.{parts_on_clock}
use Rattle.index_rows.proofs.date.parts_on.Goals as goal

pub returns : goal.returns
returns c =
    let d = c.args.clock.date in
    let t = c.args.clock.time in
    let year = back_year d.year d.year_in in
    (λ k. record (c.empty.ensures k) {
      year = Some (year k);
      month = Some d.month;
      day = Some d.day;
      day_of_year = Some (c.day_of_year.ensures.value k);
      iso_week_year = Some (pos 0);
      iso_week = Some 0;
      hour = Some t.hour;
      minute = Some t.minute;
      second = Some t.second;
      weekday = Some (c.weekday.ensures k);
    }) ∙ sym (parts_on_clock c.args.clock)
