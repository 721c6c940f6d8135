use Rattle.std.proofs.Common.{◌++◌, ◌-◌, List, drop, length, take, subst, sym, ap, ◌∙◌, arith}
use Rattle.std.proofs.Common.{length-drop, take_all}
use Rattle.std.specs.List.{concat}
use Rattle.folder_letters.specs.declared.listing.Listed.{Listed}
use Rattle.folder_core.specs.Mbox.{Cover}
use Rattle.folder_core.specs.declared.region.Region.{Region}
use Rattle.index_items.specs.Changes.{plain_changes}
use Rattle.mbox_text.specs.Rewriting as spec
use Rattle.mbox_text.proofs.ChangingLemmas.{cover_from, tail_is}
use Rattle.mbox_text.proofs.rewriting.rewrite.Goals as goal

pub append_changed-requires : goal.append_changed-requires
append_changed-requires c =
    let regions = c.args.regions.now in
    let n = c.unchanged-count.result.0 in
    let left = cover_from (length c.args.bytes.now) n 0 regions
    c.unchanged-count.ensures.within c.requires.cover in
    record {
      cover = (
        left.0,
        subst (Cover left.0 (length c.args.bytes.now))
            (sym (take_all (length regions - n) (drop n regions)
            (omega (arith, length-drop n regions)))) left.1,
      );
    }

pub returns-clause-tail : goal.returns-clause-tail
returns-clause-tail c =
    let changes = plain_changes c.args.changes.now in
    let tells = c.in_ok-table.ensures in
    let regions = c.args.regions.now in
    let n = c.unchanged-count.result.0 in
    let wanted = λ (l : List Listed) (r : List Region). concat (spec.changed_raws
    (spec.wanted_of changes l) (spec.raws_in c.args.bytes.now r)) in
    tail_is changes c.args.listing.now c.args.bytes.now regions n c.append_changed.new.text.items
    (c.unchanged-count.ensures.count changes tells)
    (c.in_ok-append_changed.ensures changes tells
    ∙ ap (λ l. l ++ wanted c.behind-left.result.now
    (take (length regions - n) (drop n regions))) c.new-tail.ensures
    ∙ ap (λ l. wanted l (take (length regions - n) (drop n regions))) c.behind-left.ensures
    ∙ ap (wanted (drop n c.args.listing.now)) (take_all (length regions - n) (drop n regions)
    (omega (arith, length-drop n regions))))
