use Rattle.std.proofs.Common.{◌≡◌, ℕ, List, ◌++◌, ◌∙◌, ap, sym, length, map, true}
use Rattle.std.specs.List.{list_all}
use Rattle.mail_base.specs.Series.{Held, plain_texts}
use Rattle.pager.specs.Broken.{is_shown}
use Rattle.pager.specs.Inner.{PlainBreaker, unquoted_places}
use Rattle.pager.specs.Pager.{broken_lines}
use Rattle.pager.proofs.PagerLemmas.{is_opened, is_paged}
use Rattle.pager.proofs.ShownLemmas.{empty_shown}
use Rattle.pager.proofs.pager.Pager.over.Goals as goal

pub invariant_of-result : goal.invariant_of-result
invariant_of-result c =
    let cols = c.args.cols in
    let new = c.make_room.ensures.breaker ∙ c.new-breaker.ensures in
    let all : list_all (is_shown cols) c.into_texts.result.done ≡ true =
    ap (list_all (is_shown cols)) c.into_texts.ensures
    ∙ ap (λ (b : PlainBreaker). list_all (is_shown b.cols) c.break_lines.new.breaker.done)
    (sym new)
    ∙ c.in_ok-break_lines.ensures.shown in
    is_paged cols c.into_texts.result.done c.break_lines.new.unquoted.items
    (plain_texts c.args.attachments) (empty_shown cols) all

pub returns : goal.returns
returns c =
    let cols = c.args.cols in
    let lines = plain_texts c.args.lines.now in
    let items : List (Held ℕ) → List (List ℕ) = map (λ (l : Held ℕ). l.items) in
    let is = ap items c.as_slice-list.ensures in
    let new = c.make_room.ensures.breaker ∙ c.new-breaker.ensures in
    let none = c.make_room.ensures.unquoted ∙ c.new-unquoted.ensures in
    let room = c.make_room.new.breaker in
    let after = c.in_ok-break_lines.ensures in
    let all = c.into_texts.ensures ∙ ap (λ (b : PlainBreaker). b.done) after.pieces
    ∙ ap (λ (b : PlainBreaker). b.done ++ broken_lines b.cols (items c.as_slice-list.result.now))
    new
    ∙ ap (broken_lines cols) is in
    let noted = after.places
    ∙ ap (λ s. s ++ unquoted_places room.cols (length room.done)
    (items c.as_slice-list.result.now)) none
    ∙ ap (λ (b : PlainBreaker).
    unquoted_places b.cols (length b.done) (items c.as_slice-list.result.now))
    new
    ∙ ap (unquoted_places cols 0) is in
    is_opened cols lines c.into_texts.result.done c.break_lines.new.unquoted.items
    (plain_texts c.args.attachments) all noted
