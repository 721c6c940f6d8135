use Rattle.std.proofs.Common.{◌+◌, length, sym, ap, ◌∙◌, arith}
use Rattle.mbox_text.specs.Rewriting as spec
use Rattle.mbox_text.proofs.ChangingLemmas.{ends_on, few_on, first_fits, first_in, goes_count, goes_length, none_counted}
use Rattle.mbox_text.proofs.ChangingLemmas.{next_covers, none_long, rest_of, stops_count, stops_length}
use Rattle.mbox_text.proofs.rewriting.unchanged.Goals as goal

pub loop-left-init : goal.loop-left-init
loop-left-init c = record {
  behind = c.requires.cover;
  rest = omega arith;
  count = λ changes tells. omega arith;
  size = λ changes tells. omega arith;
}

pub returns-then-is_some-clause-count : goal.returns-then-is_some-clause-count
returns-then-is_some-clause-count c changes tells =
    let none = stops_count (spec.wanted_of changes c.loop-left.listed.now)
    (spec.raws_in c.args.bytes.now c.loop-left.left.now) c.first_change.result
    (sym c.is_some.ensures ∙ c.if-is_some.true) (c.first_change.ensures changes tells) in
    omega (arith, none, c.loop-left.invariant.count changes tells)

pub returns-then-is_some-clause-at : goal.returns-then-is_some-clause-at
returns-then-is_some-clause-at c changes tells =
    let none = stops_length (spec.wanted_of changes c.loop-left.listed.now)
    (spec.raws_in c.args.bytes.now c.loop-left.left.now) c.first_change.result
    (sym c.is_some.ensures ∙ c.if-is_some.true) (c.first_change.ensures changes tells) in
    omega (arith, none, c.loop-left.invariant.size changes tells)

pub returns-then-is_some-clause-within : goal.returns-then-is_some-clause-within
returns-then-is_some-clause-within c = omega (arith, c.loop-left.invariant.rest)

pub loop-left-preserved : goal.loop-left-preserved
loop-left-preserved c =
    let some = c.in-len1-up.len_at_least in
    let fits = first_fits (length c.args.bytes.now) c.loop-left.left.now some
    (c.loop-left.at, c.loop-left.invariant.behind) in
    let ends = ends_on c.loop-left.at (length c.args.bytes.now) c.loop-left.left.now some
    c.loop-left.invariant.behind in
    record {
      behind = next_covers c.loop-left.at (length c.args.bytes.now) c.loop-left.left.now some
          c.loop-left.invariant.behind;
      rest = few_on c.loop-left.count _ c.loop-left.left.now c.in-len1-up.len_at_least
          c.loop-left.invariant.rest;
      count = λ changes tells.
          let goes = goes_count changes c.loop-left.listed.now c.args.bytes.now
          c.loop-left.left.now c.first_change.result c.in-len1-up.len_at_least
          (sym c.is_some.ensures ∙ c.if-is_some.false) (c.first_change.ensures changes tells) in
          ap (λ l. c.loop-left.count + 1 + spec.unchanged_count (spec.wanted_of changes l)
          (spec.raws_in c.args.bytes.now (rest_of c.loop-left.left.now))) c.behind-listed.ensures
          ∙ omega (arith, goes, c.loop-left.invariant.count changes tells);
      size = λ changes tells.
          let goes = goes_length changes c.loop-left.listed.now c.args.bytes.now
          c.loop-left.left.now c.first_change.result c.in-len1-up.len_at_least
          (sym c.is_some.ensures ∙ c.if-is_some.false) (c.first_change.ensures changes tells)
          fits.from_end fits.within in
          ap (λ l. (first_in c.loop-left.left.now).end + spec.first_changed (spec.wanted_of changes l)
          (spec.raws_in c.args.bytes.now (rest_of c.loop-left.left.now))) c.behind-listed.ensures
          ∙ omega (arith, goes, ends, c.loop-left.invariant.size changes tells);
    }

pub returns-clause-count : goal.returns-clause-count
returns-clause-count c changes tells =
    let none = none_counted (spec.wanted_of changes c.loop-left.listed.now) c.args.bytes.now
    c.loop-left.left.now c.in_default.len_below in
    omega (arith, none, c.loop-left.invariant.count changes tells)

pub returns-clause-at : goal.returns-clause-at
returns-clause-at c changes tells =
    let none = none_long (spec.wanted_of changes c.loop-left.listed.now) c.args.bytes.now
    c.loop-left.left.now c.in_default.len_below in
    omega (arith, none, c.loop-left.invariant.size changes tells)

pub returns-clause-within : goal.returns-clause-within
returns-clause-within c = omega (arith, c.loop-left.invariant.rest)
