use Rattle.std.proofs.Common.{◌≡◌, ℤ, pos, ◌*ℤ◌, Some, ap, ◌∙◌, arith}
use Rattle.std.proofs.lemmas.Int.{ints}
use Rattle.jiff_core.specs.Date.{epoch_day, IsYmd}
use Rattle.jiff_core.proofs.DateLemmas.{epoch_day_range}
use Rattle.mbox_text.proofs.StampLemmas.{midnight-date, seconds_of_days, unix_day}
use Rattle.mbox_text.proofs.stamp.midnight.Goals as goal

pub returns-clause-start : goal.returns-clause-start
returns-clause-start c =
    let day = c.in-Ok.day in
    let given = c.in-Ok.ensures.value in
    let ymd : IsYmd (pos c.args.year) (pos c.args.month) (pos c.args.day) day =
    (given.0 ∙ omega (arith, ints), given.1 ∙ omega (arith, ints), given.2 ∙ omega (arith, ints)) in
    let seconds : c.as_secs.result ≡ epoch_day day *ℤ pos 86_400 =
    seconds_of_days _ _ _ _ (unix_day c.date.result c.date.ensures) c.duration_since.ensures
    c.as_secs.ensures in
    let range = epoch_day_range day in
    ap (λ (s : ℤ). Some s) (omega (arith, ints)) ∙ midnight-date day _ _ _ ymd

pub returns-clause-bound : goal.returns-clause-bound
returns-clause-bound c =
    let day = c.in-Ok.day in
    let seconds : c.as_secs.result ≡ epoch_day day *ℤ pos 86_400 =
    seconds_of_days _ _ _ _ (unix_day c.date.result c.date.ensures) c.duration_since.ensures
    c.as_secs.ensures in
    let range = epoch_day_range day in
    (omega (arith, ints), omega (arith, ints))
