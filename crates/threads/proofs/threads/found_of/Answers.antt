use Rattle.std.proofs.Common.{◌≡◌, ◌∙◌, ◌<◌, length, map, ap, subst, sym}
use Rattle.std.proofs.lemmas.List.{length-map}
use Rattle.threads.specs.Cycles.{reference_parents}
use Rattle.threads.specs.Found.{AreWithin, cut_at_roots, root_above}
use Rattle.threads.specs.Links.{links, target}
use Rattle.threads.specs.Threads.{root_of}
use Rattle.threads.specs.Message.{is_listed_before, plain_message, plain_messages}
use Rattle.threads.specs.Subjects.{parents, with_subjects}
use Rattle.threads.specs.Walk.{AreEnds, FitsMessages}
use Rattle.threads.proofs.FoundLemmas.{Ends-none, cut_is, fits, forest, parents_long, refs_long}
use Rattle.threads.proofs.FoundLemmas.{roots_are, roots_below, roots_long}
use Rattle.threads.proofs.threads.found_of.Goals as goal

pub ends_of-requires : goal.ends_of-requires
ends_of-requires c =
    let ms = plain_messages c.args.messages.now in
    let links_are : c.in_ok-links.links.items ≡ links c.args.options ms = c.in_ok-links.ensures in
    subst (FitsMessages ms) (sym (c.deref.ensures.value
    ∙ links_are)) (fits c.args.options ms c.requires)

pub with_subjects-requires : goal.with_subjects-requires
with_subjects-requires c =
    let ms = plain_messages c.args.messages.now in
    let links_are : c.in_ok-links.links.items ≡ links c.args.options ms = c.in_ok-links.ensures in
    let ends : AreEnds (is_listed_before ms) (links c.args.options ms) c.in_ok-ends.ends.items =
    subst (λ l. AreEnds (is_listed_before ms) l c.in_ok-ends.ends.items) (c.deref.ensures.value
    ∙ links_are)
    c.in_ok-ends.ensures in
    let references : c.in_ok-references.references.items ≡ reference_parents c.args.options ms =
    c.in_ok-references.ensures
    ∙ ap (λ l. cut_at_roots l c.deref-3.result.now) (c.deref-2.ensures.value ∙ links_are)
    ∙ ap (cut_at_roots (links c.args.options ms)) c.deref-3.ensures.value
    ∙ cut_is (is_listed_before ms) (links c.args.options ms) c.in_ok-ends.ends.items ends in
    ap length (c.deref-4.ensures.value ∙ references)
    ∙ refs_long c.args.options ms c.in_ok-ends.ends.items ends
    ∙ length-map c.args.messages.now plain_message

pub roots_above-requires : goal.roots_above-requires
roots_above-requires c =
    let ms = plain_messages c.args.messages.now in
    let links_are : c.in_ok-links.links.items ≡ links c.args.options ms = c.in_ok-links.ensures in
    let ends : AreEnds (is_listed_before ms) (links c.args.options ms) c.in_ok-ends.ends.items =
    subst (λ l. AreEnds (is_listed_before ms) l c.in_ok-ends.ends.items) (c.deref.ensures.value
    ∙ links_are)
    c.in_ok-ends.ensures in
    let references : c.in_ok-references.references.items ≡ reference_parents c.args.options ms =
    c.in_ok-references.ensures
    ∙ ap (λ l. cut_at_roots l c.deref-3.result.now) (c.deref-2.ensures.value ∙ links_are)
    ∙ ap (cut_at_roots (links c.args.options ms)) c.deref-3.ensures.value
    ∙ cut_is (is_listed_before ms) (links c.args.options ms) c.in_ok-ends.ends.items ends in
    let all : c.in_ok-parents.parents.items ≡ parents c.args.options ms =
    c.in_ok-parents.ensures ∙ ap (with_subjects c.args.options ms) (c.deref-4.ensures.value
    ∙ references) in
    let size = parents_long c.args.options ms c.in_ok-ends.ends.items ends in
    subst (λ r. AreWithin r (length c.deref-6.result.now)) (sym c.deref-5.ensures.value)
    (subst (AreWithin c.in_ok-ends.ends.items) (sym (ap length (c.deref-6.ensures.value ∙ all)
    ∙ size))
    (λ i lt. roots_below c.args.options ms c.in_ok-ends.ends.items ends i
    (subst (λ n. i < n) (roots_long c.args.options ms c.in_ok-ends.ends.items ends) lt)))

pub returns-clause-found : goal.returns-clause-found
returns-clause-found c =
    let ms = plain_messages c.args.messages.now in
    let links_are : c.in_ok-links.links.items ≡ links c.args.options ms = c.in_ok-links.ensures in
    let ends : AreEnds (is_listed_before ms) (links c.args.options ms) c.in_ok-ends.ends.items =
    subst (λ l. AreEnds (is_listed_before ms) l c.in_ok-ends.ends.items) (c.deref.ensures.value
    ∙ links_are)
    c.in_ok-ends.ensures in
    let references : c.in_ok-references.references.items ≡ reference_parents c.args.options ms =
    c.in_ok-references.ensures
    ∙ ap (λ l. cut_at_roots l c.deref-3.result.now) (c.deref-2.ensures.value ∙ links_are)
    ∙ ap (cut_at_roots (links c.args.options ms)) c.deref-3.ensures.value
    ∙ cut_is (is_listed_before ms) (links c.args.options ms) c.in_ok-ends.ends.items ends in
    let all : c.in_ok-parents.parents.items ≡ parents c.args.options ms =
    c.in_ok-parents.ensures ∙ ap (with_subjects c.args.options ms) (c.deref-4.ensures.value
    ∙ references) in
    record {
      the_parents = all;
      the_roots = c.in_ok-roots.ensures
          ∙ ap (λ l. map (root_above l) c.deref-5.result.now) (c.deref-6.ensures.value ∙ all)
          ∙ ap (map (root_above (parents c.args.options ms))) c.deref-5.ensures.value
          ∙ roots_are c.args.options ms c.in_ok-ends.ends.items ends;
      the_ends = λ p lt.
          let own = forest c.args.options ms c.in_ok-ends.ends.items ends p lt in
          Ends-none (target (parents c.args.options ms)) own.0 p
          (root_of (parents c.args.options ms) p) own.2;
    }

pub returns-clause-forest : goal.returns-clause-forest
returns-clause-forest c =
    let ms = plain_messages c.args.messages.now in
    let links_are : c.in_ok-links.links.items ≡ links c.args.options ms = c.in_ok-links.ensures in
    let ends : AreEnds (is_listed_before ms) (links c.args.options ms) c.in_ok-ends.ends.items =
    subst (λ l. AreEnds (is_listed_before ms) l c.in_ok-ends.ends.items) (c.deref.ensures.value
    ∙ links_are)
    c.in_ok-ends.ensures in
    forest c.args.options ms c.in_ok-ends.ends.items ends
