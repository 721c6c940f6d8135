use Rattle.std.proofs.Common.{◌∙◌, ap, sym, arith, length, map}
use Rattle.std.proofs.lemmas.List.{length-map}
use Rattle.std.specs.List.{list_any}
use Rattle.mime_tree.specs.Part.{plain_part}
use Rattle.patterns_match.specs.Kept.{lines_in}
use Rattle.patterns_match.specs.Listings.{part_lines}
use Rattle.patterns_match.specs.Sought.{sought_found}
use Rattle.patterns_match.proofs.BodyLemmas.{first_found, kept_next, none_found, none_next}
use Rattle.patterns_match.proofs.BodyLemmas.{part_found_at}
use Rattle.patterns_match.proofs.BodyLemmas.{vec_length}
use Rattle.patterns_match.proofs.body.any_part.Goals as goal

pub returns-then-branch-clause-value : goal.returns-then-branch-clause-value
returns-then-branch-clause-value c =
    let q = list_any (sought_found c.args.sought.now) in
    let decoded = c.args.decoded.now in
    sym (first_found (sought_found c.args.sought.now) (part_lines c.args.raw.now)
    (length decoded.items) (map plain_part c.args.parts.now)
    (ap (list_any q) (sym c.requires.first)
    ∙ ap (λ l. list_any q (lines_in l)) (sym c.as_slice.ensures.value)
    ∙ sym c.in_ok-any_decoded.ensures ∙ c.if-branch.true))

pub returns-then-branch-2-clause-value : goal.returns-then-branch-2-clause-value
returns-then-branch-2-clause-value c =
    let found = c.in-Some.ensures.lookup in
    sym (part_found_at (sought_found c.args.sought.now) (part_lines c.args.raw.now)
    c.args.parts.now c.len.result c.in-Some.part.now found.3.0 found.1
    (sym c.in_ok-next_found.ensures.value ∙ c.if-branch-2.true))

pub returns-then-branch-2-clause-kept : goal.returns-then-branch-2-clause-kept
returns-then-branch-2-clause-kept c =
    let found = c.in-Some.ensures.lookup in
    let old = c.loop-part.decoded in
    kept_next c.args.raw.now c.args.parts.now c.in-Some.part.now old.items
    c.next_found.new.decoded.items c.in_ok-next_found.ensures.kept c.len.result
    (c.len.ensures ∙ vec_length old) found.3.0 found.1 c.loop-part.invariant.first

pub loop-part-preserved : goal.loop-part-preserved
loop-part-preserved c =
    let found = c.in-Some.ensures.lookup in
    let old = c.loop-part.decoded in
    record {
      first = kept_next c.args.raw.now c.args.parts.now c.in-Some.part.now old.items
          c.next_found.new.decoded.items c.in_ok-next_found.ensures.kept c.len.result
          (c.len.ensures ∙ vec_length old) found.3.0 found.1 c.loop-part.invariant.first;
      none = none_next c.args.raw.now c.args.parts.now c.in-Some.part.now old.items
          c.next_found.new.decoded.items c.in_ok-next_found.ensures.kept
          (sought_found c.args.sought.now) c.loop-part.invariant.none
          (sym c.in_ok-next_found.ensures.value ∙ c.if-branch-2.false);
    }

pub returns-clause-value : goal.returns-clause-value
returns-clause-value c =
    let past = c.in_default.ensures.lookup in
    let old = c.loop-part.decoded in
    let size = c.len.ensures ∙ vec_length old in
    sym (none_found (sought_found c.args.sought.now) (part_lines c.args.raw.now)
    (length old.items) (map plain_part c.args.parts.now)
    (omega (arith, length-map c.args.parts.now plain_part, past.3, size))
    (ap (list_any (list_any (sought_found c.args.sought.now))) (sym c.loop-part.invariant.first)
    ∙ c.loop-part.invariant.none))
