use Rattle.std.proofs.Common.{◌≡◌, ◌∙◌, take, ap, arith}
use Rattle.std.proofs.lemmas.Grind.{common_steps}
use Rattle.rc_lang.specs.Fits.{all_fit}
use Rattle.rc_lang.specs.Settings.{defaults}
use Rattle.rc_lang.specs.Variables.{plain_row, rows}
use Rattle.rc_lang.proofs.FitLemmas.{defaults_fit}
use Rattle.rc_lang.proofs.SettingsLemmas.{defaults_more}
use Rattle.rc_lang.proofs.settings.Settings.new.Goals as goal

pub loop-place-preserved : goal.loop-place-preserved
loop-place-preserved c =
    let more = defaults_more c.loop-place.place (plain_row c.row_at.result) c.row_at.ensures in
    let items = c.in_ok-push.ensures.items in
    let made = c.in_ok-default_value.ensures in
    record {
      counted = omega (arith, c.in_ok-push.ensures.len, c.loop-place.invariant.counted);
      made = grind (arith, common_steps, more, items, made, c.loop-place.invariant.made);
    }

pub invariant_of-result : goal.invariant_of-result
invariant_of-result c =
    let full : c.loop-place.place ≡ 44 = omega arith in (
      omega (arith, c.loop-place.invariant.counted),
      ap (all_fit rows) (c.loop-place.invariant.made ∙ ap (λ n. take n defaults) full)
          ∙ defaults_fit,
    )
