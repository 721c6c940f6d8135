use Rattle.std.proofs.Common.{◌≡◌, ◌+◌, ◌-◌, ◌++◌, ◌∷◌, [], map, sym, ap, ◌∙◌, arith}
use Rattle.std.proofs.lemmas.List.{map-append}
use Rattle.mime_tree.specs.Entity.{part_of}
use Rattle.mime_tree.specs.Part.{plain_part, plain_parts}
use Rattle.mime_tree.specs.Parts.{all_parts, parts_in}
use Rattle.mime_tree.specs.Section.{plain_section}
use Rattle.mime_tree.proofs.PartsLemmas.{joined, parts_in_none, joined_begin}
use Rattle.mime_tree.proofs.PartsLemmas.{joined_rest}
use Rattle.mime_tree.proofs.parts.+add_parts.Goals as goal

pub returns-then-levels-eq0-clause-too_deep : goal.returns-then-levels-eq0-clause-too_deep
returns-then-levels-eq0-clause-too_deep t c =
    λ h. parts_in_none c.args.levels c.args.nesting (plain_section c.args.section) (omega arith)

pub loop-left-init : goal.loop-left-init
loop-left-init t c =
    let s = plain_section c.args.section in
    let levels = c.args.levels in
    let nesting = c.args.nesting in
    let parts = parts_in (levels - 1) (nesting + 1) in
    let done = plain_parts c.args.parts.now in
    let children =
    ap (map plain_section) c.as_slice-left.ensures.value ∙ c.in_ok-part.ensures.children in
    let pushed : plain_parts c.push.new.self ≡ done ++ part_of nesting s ∷ [] =
    ap (map plain_part) c.in_ok-push.ensures.ok
    ∙ map-append plain_part c.args.parts.now.items (c.in_ok-part.field-0.part ∷ [])
    ∙ ap (λ p. done ++ p ∷ []) c.in_ok-part.ensures.part in
    ap (λ d. joined d (all_parts parts (map plain_section c.as_slice-left.result.now))) pushed
    ∙ ap (λ l. joined (done ++ part_of nesting s ∷ []) (all_parts parts l)) children
    ∙ joined_begin levels nesting s done (omega arith)

pub loop-left-preserved : goal.loop-left-preserved
loop-left-preserved t c =
    let parts = parts_in (c.args.levels - 1) (c.args.nesting + 1) in
    let done = plain_parts c.loop-left.parts in
    joined_rest parts c.loop-left.left.now c.first-item.result done _ _
    c.in-len1-up.len_at_least
    (ap (λ s. joined done (parts (plain_section s))) (sym c.first-item.is)
    ∙ c.in_ok-add_parts.ensures.ok)
    c.loop-left.invariant
