use Rattle.std.proofs.Common.{◌≡◌, ◌∙◌, false, length, sym, ap, arith}
use Rattle.std.specs.Prelude.{codes}
use Rattle.std.proofs.lemmas.Bool.{false_from_ne_true, false≢true}
use Rattle.std.proofs.lemmas.Slice.Eq.{bytes_eq-Decides}
use Rattle.mail_base.specs.Lines.{has_feed, is_empty_line}
use Rattle.folder_core.specs.Mbox.{with_feed}
use Rattle.mbox_items.proofs.ClosedLines.{only_return}
use Rattle.mbox_items.proofs.FeedsLemmas.{feeds_behind, feeds_none, feeds_of, last_some, long_none}
use Rattle.mbox_items.proofs.FeedsLemmas.{short_there}
use Rattle.mbox_items.proofs.feeds.feeds_before.Goals as goal

pub returns-in_default : goal.returns-in_default
returns-in_default c =
    sym (feeds_none c.args.bytes.now (sym c.lines_with_terminator.ensures.value
    ∙ c.in_default.ensures.steps.0))

pub returns-then-is_empty_line : goal.returns-then-is_empty_line
returns-then-is_empty_line c =
    let last = c.in-Some.last.now in
    let front = c.next_back.new.self in
    let lines = sym c.lines_with_terminator.ensures.value ∙ c.in-Some.ensures.steps in
    sym (feeds_behind c.args.bytes.now front last lines
    ∙ ap (λ t. feeds_of t (has_feed last) (is_empty_line (with_feed last)))
    (sym c.if-is_empty_line.ensures))

pub returns-then-without_feed-last : goal.returns-then-without_feed-last
returns-then-without_feed-last c =
    let last = c.in-Some.last.now in
    let front = c.next_back.new.self in
    let lines = sym c.lines_with_terminator.ensures.value ∙ c.in-Some.ensures.steps in
    let short = ap length c.without_feed.ensures in
    let there = short_there last (omega (arith, short, c.if-without_feed-last.true)) in
    sym (feeds_behind c.args.bytes.now front last lines
    ∙ ap (λ t. feeds_of t (has_feed last) (is_empty_line (with_feed last)))
    (sym c.if-is_empty_line.ensures)
    ∙ ap (λ t. feeds_of false t (is_empty_line (with_feed last))) there)

pub returns-then-eq : goal.returns-then-eq
returns-then-eq c =
    let last = c.in-Some.last.now in
    let front = c.next_back.new.self in
    let lines = sym c.lines_with_terminator.ensures.value ∙ c.in-Some.ensures.steps in
    let is : last ≡ codes "\r" =
    (bytes_eq-Decides last c.as_slice.result.now).0 (sym c.eq.ensures ∙ c.if-eq.true)
    ∙ c.as_slice.ensures in
    sym (feeds_behind c.args.bytes.now front last lines
    ∙ ap (λ l. feeds_of (is_empty_line l) (has_feed l) (is_empty_line (with_feed l))) is)

pub returns-else-eq : goal.returns-else-eq
returns-else-eq c =
    let last = c.in-Some.last.now in
    let front = c.next_back.new.self in
    let lines = sym c.lines_with_terminator.ensures.value ∙ c.in-Some.ensures.steps in
    let some = last_some c.args.bytes.now front last lines in
    let long = ap length c.without_feed.ensures in
    let none = long_none last some (omega (arith, long, c.if-without_feed-last.false)) in
    let other : last ≡ codes "\r" → ⊥ = λ is. false≢true (sym c.if-eq.false ∙ c.eq.ensures
    ∙ (bytes_eq-Decides last c.as_slice.result.now).1 (is ∙ sym c.as_slice.ensures)) in
    let fed = false_from_ne_true (is_empty_line (with_feed last))
    (λ e. other (only_return last some e (sym c.if-is_empty_line.ensures))) in
    sym (feeds_behind c.args.bytes.now front last lines
    ∙ ap (λ t. feeds_of t (has_feed last) (is_empty_line (with_feed last)))
    (sym c.if-is_empty_line.ensures)
    ∙ ap (λ t. feeds_of false t (is_empty_line (with_feed last))) none
    ∙ ap (feeds_of false false) fed)
