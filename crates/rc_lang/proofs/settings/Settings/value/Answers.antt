use Rattle.std.proofs.Common.{◌<◌, ◌∙◌, length, map, sym, ap, arith}
use Rattle.rc_lang.specs.Values.{plain_value}
use Rattle.rc_lang.specs.Variables.{without_place, named_at, row_of}
use Rattle.rc_lang.proofs.FitLemmas.{fits_read}
use Rattle.rc_lang.proofs.OwnRows.{own_row}
use Rattle.rc_lang.proofs.SettingsLemmas.{value_read}
use Rattle.rc_lang.proofs.settings.Settings.value.Goals as goal

pub returns-clause-fits : goal.returns-clause-fits
returns-clause-fits c =
    let n = c.place.result in
    let items = c.self.inside.values.items in
    let row = without_place (row_of c.args.variable) in
    let within : n < length items =
    omega (arith, c.self.invariant.0, c.self.inside.values.ok.0, c.place.ensures.within) in
    let read = value_read items n c.index.result.now within c.index.ensures in
    fits_read (map plain_value items) n row (plain_value c.index.result.now) c.self.invariant.1
    (ap named_at c.place.ensures.value ∙ own_row c.args.variable) (sym read)
