use Rattle.std.proofs.Common.{◌≡◌, ◌∙◌, ◌<◌, ◌≤◌, ℕ, Bor, List, None, Option, Some, length}
use Rattle.std.proofs.Common.{option_map, refl, slice_get, sym}
use Rattle.std.proofs.lemmas.Option.{slice_get_past, slice_get_read}
use Rattle.std.specs.List.{HoldsAt}
use Rattle.std.specs.Option.{MatchOption}
use Rattle.patterns_match.specs.declared.row.Row.{Row}
use Rattle.index_view.proofs.TableLemmas.{told_row}
use Rattle.index_view.proofs.asked.MessagesTable.row.Goals as goal

got : (o : Option (Bor Row)) (rows : List Row) (p : ℕ) → MatchOption o (length rows ≤ p)
    (λ x. (p < length rows) × HoldsAt (λ (y : Row). x.now ≡ y) rows p)
    → option_map (λ (r : Bor Row). r.now) o ≡ slice_get rows p
got None rows p past = sym (slice_get_past rows p past)
got (Some r) rows p at = sym (slice_get_read rows _ p r.now refl at.0 (at.1 r.now))

pub returns : goal.returns
returns c = got c.get.result c.args.self.now.rows.now c.args.place c.get.ensures.lookup.3
    ∙ told_row c.args.self.now c.args.place
