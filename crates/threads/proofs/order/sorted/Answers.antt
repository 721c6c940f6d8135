use Rattle.std.proofs.Common.{subst, ap, ◌∙◌}
use Rattle.std.proofs.lemmas.List.{length-map}
use Rattle.std.proofs.lemmas.Fn.{always_returns_same}
use Rattle.std.specs.List.{range_with_len}
use Rattle.std.specs.List.Sorted.{IsPermutation}
use Rattle.threads.specs.Message.{plain_message, plain_messages}
use Rattle.threads.specs.Families.{places}
use Rattle.threads.specs.Order.{by_id}
use Rattle.mail_base.specs.Ordered.{in_order_by}
use Rattle.threads.proofs.SortLemmas.{moved_places, on_ids, sorted_entries, sorted_places}
use Rattle.threads.proofs.order.sorted.Goals as goal

pub returns-clause-entries : goal.returns-clause-entries
returns-clause-entries g c =
    sorted_entries (plain_messages c.args.messages.now) c.sort_by.new.self.items
    (subst (λ es. IsPermutation es c.sort_by.new.self.items) c.in_ok-entries.ensures
    c.sort_by.ensures.permutation)

pub returns-clause-moved : goal.returns-clause-moved
returns-clause-moved g c =
    let ms = plain_messages c.args.messages.now in
    subst (λ n. IsPermutation (range_with_len 0 n) (places c.sort_by.new.self.items))
    (length-map c.args.messages.now plain_message)
    (moved_places ms c.sort_by.new.self.items
    (subst (λ es. IsPermutation es c.sort_by.new.self.items) c.in_ok-entries.ensures
    c.sort_by.ensures.permutation))

pub returns-clause-sorted : goal.returns-clause-sorted
returns-clause-sorted g c = λ order strict answers.
    let ms = plain_messages c.args.messages.now in
    sorted_places order strict ms c.requires.distinct c.sort_by.new.self.items
    (subst (λ es. IsPermutation es c.sort_by.new.self.items) c.in_ok-entries.ensures
    c.sort_by.ensures.permutation)
    (c.in_ok-sort_by.ensures.sorted (λ a b. order a.id b.id) (on_ids order strict.order)
    (always_returns_same _ _ _
    (λ a r f' k. (k.met.1 order answers, λ i. record { 0 = k.met.0 i }))))
    ∙ ap (λ n. in_order_by (by_id order ms) (range_with_len 0 n))
    (length-map c.args.messages.now plain_message)
