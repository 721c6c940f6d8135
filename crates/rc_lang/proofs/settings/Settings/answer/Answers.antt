use Rattle.std.proofs.Common.{◌∙◌, ◌<◌, option_map, map, length, arith, sym, ap}
use Rattle.std.specs.Prelude.{slice_get, slice_set}
use Rattle.std.proofs.lemmas.List.{map-set}
use Rattle.rc_lang.specs.Requests.{plain_change, plain_request}
use Rattle.rc_lang.specs.Values.{plain_value}
use Rattle.rc_lang.specs.Fits.{all_fit}
use Rattle.rc_lang.specs.Variables.{plain_row, rows}
use Rattle.rc_lang.proofs.FitLemmas.{changed_fits, fits_read, fits_written}
use Rattle.rc_lang.proofs.SettingsLemmas.{value_read, answered_shown, answered_changed}
use Rattle.rc_lang.proofs.settings.Settings.answer.Goals as goal

pub returns-in_ok-line-in-None : goal.returns-in_ok-line-in-None
returns-in_ok-line-in-None c =
    let n = c.in-Some.place in
    let items = c.self.inside.values.items in
    let within : n < length items = omega (
      arith,
      c.self.invariant.0,
      c.self.inside.values.ok.0,
      c.in-Some.ensures.within,
    ) in
    let read = value_read items n c.index.result.now within c.index.ensures
    ∙ ap (λ l. slice_get l n) c.self.view_is in
    answered_shown c.args.self.now (plain_request c.args.request) n (plain_row c.row_at.result)
    (plain_value c.index.result.now) _ (sym c.in-Some.ensures.value) (sym c.row_at.ensures)
    (sym read)
    (ap (option_map plain_change) c.in-None.is) c.in_ok-line-in-None.ensures

pub returns-in_ok-value-in-Some-change : goal.returns-in_ok-value-in-Some-change
returns-in_ok-value-in-Some-change c =
    let n = c.in-Some.place in
    let items = c.self.inside.values.items in
    let within : n < length items = omega (
      arith,
      c.self.invariant.0,
      c.self.inside.values.ok.0,
      c.in-Some.ensures.within,
    ) in
    let read = value_read items n c.index-in-Some-change.result.now within
    c.index-in-Some-change.ensures
    ∙ ap (λ l. slice_get l n) c.self.view_is in
    answered_changed c.args.self.now _ (plain_request c.args.request) n (plain_row c.row_at.result)
    (plain_value c.index-in-Some-change.result.now) (plain_value c.in_ok-value-in-Some-change.value)
    (plain_change c.in-Some-change.change) (sym c.in-Some.ensures.value) (sym c.row_at.ensures)
    (sym read)
    (ap (option_map plain_change) c.in-Some-change.is) c.in_ok-value-in-Some-change.ensures
    (map-set plain_value items n c.in_ok-value-in-Some-change.value
    ∙ ap (λ l. slice_set l n (plain_value c.in_ok-value-in-Some-change.value)) c.self.view_is)

pub invariant_of-self : goal.invariant_of-self
invariant_of-self c =
    let n = c.in-Some.place in
    let items = c.self.inside.values.items in
    let row = plain_row c.row_at.result in
    let old = c.index-in-Some-change.result.now in
    let value = c.in_ok-value-in-Some-change.value in
    let within : n < length items = omega (
      arith,
      c.self.invariant.0,
      c.self.inside.values.ok.0,
      c.in-Some.ensures.within,
    ) in
    let read = value_read items n old within c.index-in-Some-change.ensures in
    let fit = fits_read (map plain_value items) n row (plain_value old) c.self.invariant.1
    (sym c.row_at.ensures) (sym read) in
    let made = changed_fits n row (plain_change c.in-Some-change.change) (plain_value old)
    (plain_value value)
    (sym c.row_at.ensures) fit c.in_ok-value-in-Some-change.ensures in (
      c.self.invariant.0,
      ap (all_fit rows) (map-set plain_value items n value)
          ∙ fits_written (map plain_value items) n row (plain_value value) c.self.invariant.1
          (sym c.row_at.ensures) made,
    )
