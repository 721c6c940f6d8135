use Rattle.std.proofs.Common.{ap, rules}
use Rattle.std.specs.Result.{result_unwrap_or}
use Rattle.std.specs.Prelude.{[]}
use Rattle.mail_base.specs.Shown.{utf8_text}
use Rattle.jiff_core.specs.Date.{epoch_day}
use Rattle.jiff_core.specs.Time.{time_seconds}
use Rattle.index_rows.specs.Date.{format_text}
use Rattle.index_rows.proofs.ShownLemmas.{shown_of_clock}
use Rattle.index_rows.proofs.date.clock_text.Goals as goal

pub returns : goal.returns
unfolding format_text
returns c =
    let clock = c.args.clock in
    let shown = shown_of_clock c.args.format.now c.parts_on.result (epoch_day clock.date)
    (time_seconds clock.time) _ c.parts_on.ensures c.in-Ok.ensures.ok in
    rw (ap (λ r. utf8_text (result_unwrap_or r [])) shown) (search rules)
