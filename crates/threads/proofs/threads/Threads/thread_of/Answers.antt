use Rattle.std.proofs.Common.{◌≡◌, ◌∙◌, ◌<◌, Some, ap, length, map, option_map, slice_index, subst}
use Rattle.std.proofs.Common.{sym}
use Rattle.std.specs.List.{range_with_len}
use Rattle.std.proofs.lemmas.List.{length-map}
use Rattle.threads.specs.Found.{AreWithin}
use Rattle.threads.specs.Message.{at, plain_message, plain_messages}
use Rattle.threads.specs.Subjects.{parents}
use Rattle.threads.specs.Threads.{place_of, root_of, thread_of}
use Rattle.threads.proofs.FoundLemmas.{all_roots_below, all_roots_long, root_there}
use Rattle.threads.proofs.threads.Threads.thread_of.Goals as goal

pub root_at-requires-clause-within : goal.root_at-requires-clause-within
root_at-requires-clause-within c =
    let ms = plain_messages c.self.inside.messages.items in
    let kept = c.self.invariant.worked_out c.in-Some-found.found c.in-Some-found.is in
    let lt : c.in-Some.place < length ms =
    subst (λ t. c.in-Some.place < length t.messages)
    (sym c.self.view_is) c.in-Some.ensures.within in
    subst (λ n. c.in-Some.place < n)
    (sym (ap length kept.the_roots ∙ all_roots_long c.self.inside.options ms)) lt

pub root_at-requires-clause-below : goal.root_at-requires-clause-below
root_at-requires-clause-below c =
    let ms = plain_messages c.self.inside.messages.items in
    let kept = c.self.invariant.worked_out c.in-Some-found.found c.in-Some-found.is in
    let size : length ms ≡ length c.as_slice.result.now =
    length-map c.self.inside.messages.items plain_message
    ∙ ap length (sym c.as_slice.ensures.value) in
    subst (λ l. AreWithin l (length c.as_slice.result.now)) (sym kept.the_roots)
    (subst (AreWithin (map (root_of (parents c.self.inside.options ms)) (range_with_len 0
    (length ms)))) size
    (all_roots_below c.self.inside.options ms))

pub returns-in-Some-found : goal.returns-in-Some-found
returns-in-Some-found c =
    let ms = plain_messages c.self.inside.messages.items in
    let all = parents c.self.inside.options ms in
    let place = c.in-Some.place in
    let kept = c.self.invariant.worked_out c.in-Some-found.found c.in-Some-found.is in
    let lt : place < length ms =
    subst (λ t. place < length t.messages) (sym c.self.view_is) c.in-Some.ensures.within in
    let there : Some place ≡ place_of ms c.args.id =
    c.in-Some.ensures.value ∙ ap (λ t. place_of t.messages c.args.id) (sym c.self.view_is) in
    ap Some (c.root_at.ensures
    ∙ ap (λ l. (at (plain_messages l)
    (slice_index c.in-Some-found.found.roots.items place)).id) c.as_slice.ensures.value
    ∙ ap (λ l. (at ms (slice_index l place)).id) kept.the_roots
    ∙ ap (λ r. (at ms r).id) (root_there c.self.inside.options ms place lt))
    ∙ ap (option_map (λ p. (at ms (root_of all p)).id)) there
    ∙ ap (λ t. thread_of t c.args.id) c.self.view_is
