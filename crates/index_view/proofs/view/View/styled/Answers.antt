use Rattle.std.proofs.Common.{◌∙◌, List, Some, ap, arith, length, map, slice_index_or, sym}
use Rattle.std.proofs.lemmas.List.{length-map}
use Rattle.std.specs.Prelude.{option_map}
use Rattle.folder_letters.specs.Letters.{plain_letter}
use Rattle.folder_letters.specs.declared.letter.Letter.{Letter}
use Rattle.index_listed.specs.Listed.{text_of}
use Rattle.index_listed.specs.Seen.{PlainSight, tree_line}
use Rattle.index_rows.specs.Texts.{index_row}
use Rattle.index_view.specs.Answers.{place_of}
use Rattle.index_view.specs.Lines as spec
use Rattle.index_view.specs.View.{PlainView}
use Rattle.index_view.proofs.LinesLemmas.{head_of_letter, listed_letter, listed_within}
use Rattle.index_view.proofs.LinesLemmas.{text_of_letter}
use Rattle.index_view.proofs.view.View.styled.Goals as goal

pub entry-entry-requires-clause-head : goal.entry-entry-requires-clause-head
entry-entry-requires-clause-head c =
    let mails = map plain_letter c.args.archive.now.items in
    listed_within mails c.args.self.now c.args.id c.in-Some.place c.requires
    (ap (λ (v : PlainView). place_of v.answers c.args.id) (sym c.self.view_is)
    ∙ sym c.in-Some.ensures.place)

pub bounds-as_slice-id : goal.bounds-as_slice-id
bounds-as_slice-id c =
    let letters = c.args.archive.now.items in
    let low = listed_letter (map plain_letter letters) c.args.self.now c.args.id c.in-Some.place
    c.requires (ap (λ (v : PlainView). place_of v.answers c.args.id) (sym c.self.view_is)
    ∙ sym c.in-Some.ensures.place) in
    omega (arith, low, length-map letters plain_letter, ap length c.as_slice.ensures)

pub returns : goal.returns
returns c =
    let mails = map plain_letter c.args.archive.now.items in
    let v = c.args.self.now in
    let id = c.args.id in
    let place = c.in-Some.place in
    let style = spec.plain_style c.args.style in
    let is = ap (λ (w : PlainView). place_of w.answers id) (sym c.self.view_is)
    ∙ sym c.in-Some.ensures.place in
    let header = head_of_letter v.heads mails id c.requires.heads
    (listed_within mails v id place c.requires is) in
    let letters = c.args.archive.now.items in
    let letter = c.index-as_slice-id.result in
    let raw = c.text_of-raw.ensures
    ∙ ap (λ (l : Letter). text_of (plain_letter l)) c.index-as_slice-id.is
    ∙ ap (λ (ls : List Letter). text_of (plain_letter (slice_index_or ls id.0 letter)))
    c.as_slice.ensures
    ∙ text_of_letter letters id letter (omega (
      arith,
      listed_letter mails v id place c.requires is,
      length-map letters plain_letter,
    )) in
    let tree = c.in_ok-tree.ensures ∙ ap (λ (s : PlainSight). tree_line s id)
    (c.sight.ensures.value ∙ ap (λ (w : PlainView). w.answers.sight) c.self.view_is) in
    ap Some (c.in_ok-index_row.ensures
    ∙ (λ i. index_row c.args.cols ((c.entry-entry.ensures
    ∙ (λ j. spec.entry_with (header j) (raw j) (tree j) v style id place)) i) style.format))
    ∙ sym (ap (option_map (λ p. index_row c.args.cols (spec.entry mails v style id p)
    style.format)) is)
