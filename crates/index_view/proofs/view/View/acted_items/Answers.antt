use Rattle.std.proofs.Common.{◌≡◌, ◌∙◌, ◌<◌, ap, length, map, nat_eq, subst, sym}
use Rattle.std.proofs.lemmas.List.{length-map}
use Rattle.std.proofs.lemmas.List.Quantifiers.{position-Some}
use Rattle.std.specs.List.{IsDistinct}
use Rattle.std.specs.Prelude.{position}
use Rattle.folder_letters.specs.Letters.{plain_letter}
use Rattle.index_items.specs.Acts.{acted, acted_all}
use Rattle.index_items.specs.Alteration.{alter_at}
use Rattle.index_items.specs.Items.{numbers, plain_item, plain_items}
use Rattle.index_view.specs.Answers.{place_of}
use Rattle.index_view.specs.View.{PlainView}
use Rattle.index_view.proofs.ActingLemmas.{acted_at_place, acted_numbers, none_altered, nowhere}
use Rattle.index_view.proofs.LinesLemmas.{rows_are}
use Rattle.index_view.proofs.view.View.acted_items.Goals as goal

pub index-requires : goal.index-requires
index-requires c =
    let v = c.args.self.now in
    let id = c.in-Some.first.now in
    let items = c.loop-first.items.items in
    let found =
    ap (λ xs. position (nat_eq id.0) xs)
    (sym (rows_are (map plain_letter c.args.archive.now.items) v c.requires))
    ∙ ap (λ (w : PlainView). place_of w.answers id) (sym c.self.view_is)
    ∙ sym c.in-Some-place.ensures.place in
    let low = (position-Some (nat_eq id.0) (numbers v.items) c.in-Some-place.place 0 found).0 in
    subst (λ n. c.in-Some-place.place < n) (ap length (sym c.loop-first.invariant.numbers)
    ∙ length-map (plain_items items) (λ i. i.id.0) ∙ length-map items plain_item
    ∙ sym c.loop-first.items.ok.0) low

pub index_mut-requires : goal.index_mut-requires
index_mut-requires c =
    let v = c.args.self.now in
    let id = c.in-Some.first.now in
    let items = c.loop-first.items.items in
    let found =
    ap (λ xs. position (nat_eq id.0) xs)
    (sym (rows_are (map plain_letter c.args.archive.now.items) v c.requires))
    ∙ ap (λ (w : PlainView). place_of w.answers id) (sym c.self.view_is)
    ∙ sym c.in-Some-place.ensures.place in
    let low = (position-Some (nat_eq id.0) (numbers v.items) c.in-Some-place.place 0 found).0 in
    subst (λ n. c.in-Some-place.place < n) (ap length (sym c.loop-first.invariant.numbers)
    ∙ length-map (plain_items items) (λ i. i.id.0) ∙ length-map items plain_item
    ∙ sym c.loop-first.items.ok.0) low

pub loop-first-preserved-in-Some-place : goal.loop-first-preserved-in-Some-place
loop-first-preserved-in-Some-place c =
    let v = c.args.self.now in
    let id = c.in-Some.first.now in
    let act = c.args.act in
    let items = c.loop-first.items.items in
    let same = c.loop-first.invariant.numbers in
    let found =
    ap (λ xs. position (nat_eq id.0) xs)
    (same ∙ sym (rows_are (map plain_letter c.args.archive.now.items) v c.requires))
    ∙ ap (λ (w : PlainView). place_of w.answers id) (sym c.self.view_is)
    ∙ sym c.in-Some-place.ensures.place in
    let step = acted_at_place act id items c.in-Some-place.place c.acted.result c.index.result.now
    (subst (IsDistinct nat_eq) (sym same) c.requires.apart) found
    (c.acted.ensures ∙ ap (λ i. acted act (plain_item i)) c.index.ensures) in
    record {
      items = ap (acted_all act c.in-Some.rest.now) step
          ∙ ap (λ ids. acted_all act ids (plain_items items)) (sym c.in-Some.ensures.cases.0)
          ∙ c.loop-first.invariant.items;
      numbers = ap numbers step ∙ acted_numbers act id (plain_items items) ∙ same;
    }

pub loop-first-preserved : goal.loop-first-preserved
loop-first-preserved c =
    let v = c.args.self.now in
    let id = c.in-Some.first.now in
    let act = c.args.act in
    let items = c.loop-first.items.items in
    let same = c.loop-first.invariant.numbers in
    let none =
    ap (λ xs. position (nat_eq id.0) xs)
    (same ∙ sym (rows_are (map plain_letter c.args.archive.now.items) v c.requires))
    ∙ ap (λ (w : PlainView). place_of w.answers id) (sym c.self.view_is)
    ∙ sym c.in_default-place.ensures.place in
    let step : alter_at id (acted act) (plain_items items) ≡ plain_items items =
    none_altered id (acted act) (plain_items items)
    (nowhere id.0 (numbers (plain_items items)) none) in
    record {
      items = ap (acted_all act c.in-Some.rest.now) (sym step)
          ∙ ap (λ ids. acted_all act ids (plain_items items)) (sym c.in-Some.ensures.cases.0)
          ∙ c.loop-first.invariant.items;
      numbers = same;
    }
