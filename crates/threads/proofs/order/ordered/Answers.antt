use Rattle.std.proofs.Common.{◌≡◌, ◌∙◌, ◌<◌, ap, sym, subst, length, map, reverse}
use Rattle.std.proofs.lemmas.List.{length-map}
use Rattle.std.proofs.lemmas.Result.{IfOk-weaker}
use Rattle.std.specs.List.{flat_map, range_with_len}
use Rattle.std.specs.List.Sorted.{IsPermutation}
use Rattle.threads.specs.Families.{AreFamilies, ArePut, CanWalk, below, places}
use Rattle.threads.specs.Message.{plain_message, plain_messages}
use Rattle.threads.specs.Order.{by_id, id_at, tree_of}
use Rattle.mail_base.specs.Ordered.{in_order_by}
use Rattle.threads.specs.Walk.{Each}
use Rattle.threads.proofs.FamilyLemmas.{once, ordered, put, roots_within, walks}
use Rattle.threads.proofs.order.ordered.Goals as goal

pub walk-requires-clause-within : goal.walk-requires-clause-within
walk-requires-clause-within g c =
    let ms = plain_messages c.args.messages.now in
    let es = c.in_ok-entries.entries.items in
    let families = c.in_ok-families.families in
    let made : AreFamilies c.args.parents.now (places (reverse es)) families =
    subst (λ l. AreFamilies c.args.parents.now (places l) families)
    (c.deref.ensures.value ∙ c.reverse.ensures.items) c.in_ok-families.ensures in
    subst (λ n. Each (λ p. p < n) (reverse families.roots.items))
    (length-map c.args.messages.now plain_message)
    (roots_within ms c.args.parents.now es families c.requires.parents
    c.in_ok-entries.ensures.entries made)

pub walk-requires-clause-trees : goal.walk-requires-clause-trees
walk-requires-clause-trees g c =
    let ms = plain_messages c.args.messages.now in
    let es = c.in_ok-entries.entries.items in
    let families = c.in_ok-families.families in
    let made : AreFamilies c.args.parents.now (places (reverse es)) families =
    subst (λ l. AreFamilies c.args.parents.now (places l) families)
    (c.deref.ensures.value ∙ c.reverse.ensures.items) c.in_ok-families.ensures in
    subst (CanWalk (below families.children.items))
    (length-map c.args.messages.now plain_message)
    (walks ms c.args.parents.now es families c.requires.parents
    c.in_ok-entries.ensures.entries made)

pub returns-clause-order : goal.returns-clause-order
returns-clause-order g c = λ order strict answers.
    let ms = plain_messages c.args.messages.now in
    let es = c.in_ok-entries.entries.items in
    let families = c.in_ok-families.families in
    let made : AreFamilies c.args.parents.now (places (reverse es)) families =
    subst (λ l. AreFamilies c.args.parents.now (places l) families)
    (c.deref.ensures.value ∙ c.reverse.ensures.items) c.in_ok-families.ensures in
    let size = length-map c.args.messages.now plain_message in
    let sorted : places es ≡ in_order_by (by_id order ms) (range_with_len 0 (length ms)) =
    c.in_ok-entries.ensures.sorted order strict answers
    ∙ ap (λ n. in_order_by (by_id order ms) (range_with_len 0 n)) (sym size) in
    IfOk-weaker c.walk.result _ _ (λ ids e. e
    ∙ ap (λ n. map (id_at ms)
    (flat_map (tree_of (below families.children.items) n) (reverse families.roots.items)))
    (sym size)
    ∙ ordered ms c.args.parents.now es families c.requires.parents
    c.in_ok-entries.ensures.entries made order strict sorted) c.walk.ensures

pub returns-clause-once : goal.returns-clause-once
returns-clause-once g c =
    let ms = plain_messages c.args.messages.now in
    let es = c.in_ok-entries.entries.items in
    let families = c.in_ok-families.families in
    let made : AreFamilies c.args.parents.now (places (reverse es)) families =
    subst (λ l. AreFamilies c.args.parents.now (places l) families)
    (c.deref.ensures.value ∙ c.reverse.ensures.items) c.in_ok-families.ensures in
    let size = length-map c.args.messages.now plain_message in
    let moved : IsPermutation (range_with_len 0 (length ms)) (places es) =
    subst (λ n. IsPermutation (range_with_len 0 n) (places es)) (sym size)
    c.in_ok-entries.ensures.moved in
    IfOk-weaker c.walk.result _ _ (λ ids e.
    subst (IsPermutation (map (λ m. m.id) ms)) (sym (e
    ∙ ap (λ n. map (id_at ms)
    (flat_map (tree_of (below families.children.items) n) (reverse families.roots.items)))
    (sym size)))
    (once ms c.args.parents.now es families c.requires.parents
    c.in_ok-entries.ensures.entries made moved)) c.walk.ensures

pub returns-clause-put : goal.returns-clause-put
returns-clause-put g c =
    let ms = plain_messages c.args.messages.now in
    let es = c.in_ok-entries.entries.items in
    let families = c.in_ok-families.families in
    let made : AreFamilies c.args.parents.now (places (reverse es)) families =
    subst (λ l. AreFamilies c.args.parents.now (places l) families)
    (c.deref.ensures.value ∙ c.reverse.ensures.items) c.in_ok-families.ensures in
    let size = length-map c.args.messages.now plain_message in
    IfOk-weaker c.walk.result _ _ (λ ids e.
    subst (ArePut ms c.args.parents.now) (sym (e
    ∙ ap (λ n. map (id_at ms)
    (flat_map (tree_of (below families.children.items) n) (reverse families.roots.items)))
    (sym size)))
    (put ms c.args.parents.now es families c.requires.parents
    c.in_ok-entries.ensures.entries made)) c.walk.ensures
