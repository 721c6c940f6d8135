use Rattle.std.proofs.Common.{◌≡◌, ◌∙◌, ap, map, nat_eq, subst, sym}
use Rattle.std.specs.List.{IsDistinct}
use Rattle.std.specs.Prelude.{position, slice_set}
use Rattle.index_items.specs.Acts.{acted, acted_all}
use Rattle.index_items.specs.Alteration.{alter_at}
use Rattle.index_items.specs.Items.{PlainItem, item_at, numbers}
use Rattle.patterns_match.specs.declared.row.Row.{Row}
use Rattle.index_view.specs.Acting.{bare_row, item_shows, remarked, row_shows}
use Rattle.index_view.specs.Answers.{PlainAnswers}
use Rattle.index_view.specs.Tables.{row_at}
use Rattle.index_view.proofs.ActingLemmas.{acted_numbers, none_altered, nowhere}
use Rattle.index_view.proofs.RemarkLemmas.{acted_in_place, remarked_alike, remarked_show}
use Rattle.index_view.proofs.RemarkLemmas.{shown_numbers}
use Rattle.index_view.proofs.acting.act_in_place.Goals as goal

pub loop-first-preserved-in-Some-place : goal.loop-first-preserved-in-Some-place
loop-first-preserved-in-Some-place c =
    let inv = c.loop-first.invariant in
    let act = c.args.act in
    let id = c.in-Some.first.now in
    let p = c.in-Some-place.place in
    let items = c.loop-first.items in
    let rows = c.loop-first.answers.rows in
    let found = sym c.in-Some-place.ensures.place in
    let next = acted act (item_at items p) in
    let row_of : PlainItem → Row = λ i. remarked i (row_at rows p) in
    let step : c.act-item.new.self ≡ alter_at id (acted act) items =
    c.act-item.ensures.items ∙ acted_in_place act id items rows p inv.shown inv.apart found in
    let put : c.remark.new.self ≡ record c.loop-first.answers {
      rows = slice_set rows p (row_of next);
    } =
    c.remark.ensures ∙ (λ k. record c.loop-first.answers {
      rows = slice_set rows p (row_of (c.act-item.ensures.item k));
    }) in
    let new_rows : c.remark.new.self.rows ≡ slice_set rows p (row_of next) =
    ap (λ (a : PlainAnswers). a.rows) put in
    record {
      items = ap (acted_all act c.in-Some.rest.now) step
          ∙ ap (λ ids. acted_all act ids items) (sym c.in-Some.ensures.cases.0) ∙ inv.items;
      apart = subst (IsDistinct nat_eq)
          (sym (ap numbers step ∙ acted_numbers act id items)) inv.apart;
      shown = ap (map row_shows) new_rows ∙ remarked_show act id items rows p inv.shown
          ∙ ap (map item_shows) (sym c.act-item.ensures.items);
      alike = ap (map bare_row) new_rows ∙ remarked_alike next rows p ∙ inv.alike;
      others = put ∙ (λ k. record (inv.others k) { rows = sym new_rows k });
    }

pub loop-first-preserved : goal.loop-first-preserved
loop-first-preserved c =
    let inv = c.loop-first.invariant in
    let act = c.args.act in
    let id = c.in-Some.first.now in
    let items = c.loop-first.items in
    let rows = c.loop-first.answers.rows in
    let none = ap (position (nat_eq id.0)) (sym (shown_numbers items rows inv.shown))
    ∙ sym c.in_default-place.ensures.place in
    let step : alter_at id (acted act) items ≡ items =
    none_altered id (acted act) items (nowhere id.0 (numbers items) none) in
    record {
      items = ap (acted_all act c.in-Some.rest.now) (sym step)
          ∙ ap (λ ids. acted_all act ids items) (sym c.in-Some.ensures.cases.0) ∙ inv.items;
      apart = inv.apart;
      shown = inv.shown;
      alike = inv.alike;
      others = inv.others;
    }
