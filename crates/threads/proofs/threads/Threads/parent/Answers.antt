use Rattle.std.proofs.Common.{◌≡◌, ◌∙◌, ◌<◌, None, Some, ap, length, option_map, slice_index_or}
use Rattle.std.proofs.Common.{subst, sym}
use Rattle.std.specs.Prelude.{option_and_then}
use Rattle.std.proofs.lemmas.List.{length-map}
use Rattle.threads.specs.Found.{LeadsBelow}
use Rattle.threads.specs.Message.{plain_message, plain_messages}
use Rattle.threads.specs.Subjects.{parents}
use Rattle.threads.specs.Threads.{parent, parent_by, place_of}
use Rattle.threads.proofs.FoundLemmas.{all_parents_long, parents_below}
use Rattle.threads.proofs.threads.Threads.parent.Goals as goal

pub parent_at-requires-clause-within : goal.parent_at-requires-clause-within
parent_at-requires-clause-within c =
    let ms = plain_messages c.self.inside.messages.items in
    let kept = c.self.invariant.worked_out c.in-Some.found c.in-Some.is in
    let lt : c.in_ok-place.place < length ms =
    subst (λ t. c.in_ok-place.place < length t.messages)
    (sym c.self.view_is) c.in_ok-place.ensures.within in
    subst (λ n. c.in_ok-place.place < n)
    (sym (ap length kept.the_parents ∙ all_parents_long c.self.inside.options ms)) lt

pub parent_at-requires-clause-leads : goal.parent_at-requires-clause-leads
parent_at-requires-clause-leads c =
    let ms = plain_messages c.self.inside.messages.items in
    let kept = c.self.invariant.worked_out c.in-Some.found c.in-Some.is in
    let size : length ms ≡ length c.as_slice.result.now =
    length-map c.self.inside.messages.items plain_message
    ∙ ap length (sym c.as_slice.ensures.value) in
    subst (λ l. LeadsBelow (length c.as_slice.result.now) l) (sym kept.the_parents)
    (subst (λ n. LeadsBelow n (parents c.self.inside.options ms)) size
    (parents_below c.self.inside.options ms))

pub returns-in-Some : goal.returns-in-Some
returns-in-Some c =
    let ms = plain_messages c.self.inside.messages.items in
    let kept = c.self.invariant.worked_out c.in-Some.found c.in-Some.is in
    let there : Some c.in_ok-place.place ≡ place_of ms c.args.id =
    c.in_ok-place.ensures.value ∙ ap (λ t. place_of t.messages c.args.id) (sym c.self.view_is) in
    c.parent_at.ensures
    ∙ ap (λ l. option_map (parent_by (plain_messages l))
    (slice_index_or c.in-Some.found.parents.items c.in_ok-place.place None))
    c.as_slice.ensures.value
    ∙ ap (λ l. option_map (parent_by ms)
    (slice_index_or l c.in_ok-place.place None)) kept.the_parents
    ∙ ap (option_and_then (λ p. option_map (parent_by ms) (slice_index_or
    (parents c.self.inside.options ms) p None))) there
    ∙ ap (λ t. parent t c.args.id) c.self.view_is
