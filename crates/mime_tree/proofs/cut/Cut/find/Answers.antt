use Rattle.std.proofs.Common.{◌∙◌, List, ℕ, [], length, sym, ap, arith}
use Rattle.bstr.specs.Text.{lines_of}
use Rattle.bstr.proofs.lemmas.RestLemmas.{concat-lines_of}
use Rattle.mime_tree.specs.DashLines.{dash_starts}
use Rattle.mime_tree.specs.Delimiter.{is_closing, kind_of}
use Rattle.mime_tree.specs.Section.{PlainSection, plain_section}
use Rattle.mime_tree.proofs.DashLinesLemmas.{sections_none, text_whole}
use Rattle.mime_tree.proofs.CutLemmas.{IsCut, none_in, place_within, front_marked, front_fits}
use Rattle.mime_tree.proofs.CutLemmas.{rest_marked, rest_fits, front_text, rest_sections}
use Rattle.mime_tree.proofs.cut.Cut.find.Goals as goal

with_text : PlainSection → List ℕ → PlainSection
with_text s text = record s { text = text }

pub returns-in_default-clause-first : goal.returns-in_default-clause-first
unfolding with_text
returns-in_default-clause-first c =
    let s = plain_section c.args.section in
    let none = none_in c.args.boundary.now s c.args.section.dashes.now c.args.section.marked
    (sym c.next_delimiter.ensures.value ∙ c.in_default.is) in
    ap (with_text s)
    (text_whole c.args.boundary.now [] (lines_of s.text) none ∙ concat-lines_of s.text)

pub returns-in_default-clause-behind : goal.returns-in_default-clause-behind
returns-in_default-clause-behind c =
    let s = plain_section c.args.section in
    sections_none c.args.boundary.now s.in_digest s.start (lines_of s.text)
    (none_in c.args.boundary.now s c.args.section.dashes.now c.args.section.marked
    (sym c.next_delimiter.ensures.value ∙ c.in_default.is))

pub overflow_sub-at : goal.overflow_sub-at
overflow_sub-at c =
    let s = plain_section c.args.section in
    let within =
    place_within c.args.boundary.now s c.args.section.dashes.now c.in-Some.index
    c.args.section.marked
    (sym c.next_delimiter.ensures.value ∙ c.in-Some.is) in
    within.0

pub split_at-requires : goal.split_at-requires
split_at-requires c =
    let s = plain_section c.args.section in
    let within =
    place_within c.args.boundary.now s c.args.section.dashes.now c.in-Some.index
    c.args.section.marked
    (sym c.next_delimiter.ensures.value ∙ c.in-Some.is) in
    within.1

pub invariant_of-result : goal.invariant_of-result
invariant_of-result c =
    let s = c.args.section in
    let text = c.without_line_end.ensures in
    let cut : IsCut c.args.boundary.now (plain_section s) s.dashes.now c.in-Some.index _ _ _ =
    record {
      marked = s.marked;
      first = sym c.next_delimiter.ensures.value ∙ c.in-Some.is;
      front_is = c.split_at.ensures.front;
      line_on_is = c.split_at.ensures.back;
      tail_is = c.behind_line-rest.ensures.value;
    } in
    record {
      fits = omega (arith, s.fits, ap length text, front_fits cut);
      marked = front_marked cut ∙ ap (λ t. dash_starts s.start (lines_of t)) (sym text);
    }

pub invariant_of-result-2 : goal.invariant_of-result-2
invariant_of-result-2 c =
    let s = c.args.section in
    let cut : IsCut c.args.boundary.now (plain_section s) s.dashes.now c.in-Some.index _ _ _ =
    record {
      marked = s.marked;
      first = sym c.next_delimiter.ensures.value ∙ c.in-Some.is;
      front_is = c.split_at.ensures.front;
      line_on_is = c.split_at.ensures.back;
      tail_is = c.behind_line-rest.ensures.value;
    } in
    record {
      fits = omega (arith, s.fits, rest_fits cut);
      marked = rest_marked cut;
    }

pub returns-clause-first : goal.returns-clause-first
unfolding with_text
returns-clause-first c =
    let s = c.args.section in
    let cut : IsCut c.args.boundary.now (plain_section s) s.dashes.now c.in-Some.index _ _ _ =
    record {
      marked = s.marked;
      first = sym c.next_delimiter.ensures.value ∙ c.in-Some.is;
      front_is = c.split_at.ensures.front;
      line_on_is = c.split_at.ensures.back;
      tail_is = c.behind_line-rest.ensures.value;
    } in
    ap (with_text (plain_section s)) (front_text cut ∙ sym c.without_line_end.ensures)

pub returns-clause-behind : goal.returns-clause-behind
returns-clause-behind c =
    let s = c.args.section in
    let boundary = c.args.boundary.now in
    let cut : IsCut boundary (plain_section s) s.dashes.now c.in-Some.index _ _ _ = record {
      marked = s.marked;
      first = sym c.next_delimiter.ensures.value ∙ c.in-Some.is;
      front_is = c.split_at.ensures.front;
      line_on_is = c.split_at.ensures.back;
      tail_is = c.behind_line-rest.ensures.value;
    } in
    rest_sections cut s.in_digest c.is_closing.result
    (c.is_closing.ensures
    ∙ ap is_closing (c.of_line.ensures ∙ ap (kind_of boundary) c.first_line.ensures.value))
