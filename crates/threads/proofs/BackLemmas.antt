-- Each place of the trees of all roots stands behind its parent.
use Rattle.std.proofs.Common.{◌≡◌, ◌∙◌, ℕ, zero, suc, ◌+◌, ◌<◌, List, [], ◌∷◌, ◌++◌, length}
use Rattle.std.proofs.Common.{Option, Some, None, refl, sym, ap, subst, arith, nat_eq}
use Rattle.std.proofs.Common.{slice_get, slice_index_or, option_map}
use Rattle.std.proofs.lemmas.Bool.{eqb-true}
use Rattle.std.proofs.lemmas.List.{append-nil, append_assoc, length-append, length-map, get_or-map}
use Rattle.std.proofs.lemmas.List.Quantifiers.{position-Some}
use Rattle.std.proofs.lemmas.Option.{slice_get-map, slice_get_within}
use Rattle.std.specs.List.{flat_map}
use Rattle.std.specs.Prelude.{option_and_then}
use Rattle.mail_base.specs.declared.kind.Id.{Id}
use Rattle.threads.specs.Families.{ArePut, CanWalk, LeadsBack}
use Rattle.threads.specs.Found.{AreDistinct}
use Rattle.threads.specs.Links.{target}
use Rattle.threads.specs.Message.{PlainMessage, no_message, numbers}
use Rattle.threads.specs.Order.{ParentsFirst, id_at, tree_of}
use Rattle.threads.specs.Subjects.{parents}
use Rattle.threads.specs.Threads.{PlainThreads, parent, parent_by, place_of}
use Rattle.threads.specs.Walk.{Each}
use Rattle.threads.specs.declared.options.Parent.{Parent}
use Rattle.threads.specs.declared.step.Step.{Step}
use Rattle.threads.proofs.CycleLemmas.{Each-join, Each-map}
use Rattle.threads.proofs.OrderLemmas.{same_id}

same_some : {X : Type 0} (p q : X) → Some p ≡ Some q → p ≡ q
same_some p q e = cc

none_some : {X : Type 0} (q : X) → None ≡ Some q → ⊥
none_some q e = cc

-- what leads on from a place leads into a list
abbrev LeadsInto : (ℕ → Option ℕ) → List ℕ → ℕ → Type 0
LeadsInto on done p = (q : ℕ) → on p ≡ Some q → (j : ℕ) × (slice_get done j ≡ Some q)

-- each place leads to one that stands before it, or in a list before all
abbrev Behind : (ℕ → Option ℕ) → List ℕ → List ℕ → Type 0
Behind on done [] = Unit {0}
Behind on done (x ∷ xs) = LeadsInto on done x × Behind on (done ++ x ∷ []) xs

stays : (xs ys : List ℕ) (j q : ℕ) → slice_get xs j ≡ Some q → slice_get (xs ++ ys) j ≡ Some q
stays [] ys j q e = absurd (none_some q e)
stays (x ∷ xs) ys zero q e = e
stays (x ∷ xs) ys (suc j) q e = stays xs ys j q e

last_stands : (xs : List ℕ) (p : ℕ) → slice_get (xs ++ p ∷ []) (length xs) ≡ Some p
last_stands [] p = refl
last_stands (x ∷ xs) p = last_stands xs p

module _ (on : ℕ → Option ℕ) where
  Behind-append : (done xs ys : List ℕ) → Behind on done xs → Behind on (done ++ xs) ys
      → Behind on done (xs ++ ys)
  Behind-append done [] ys first next = subst (λ l. Behind on l ys) (append-nil done) next
  Behind-append done (x ∷ xs) ys first next = (
    first.0,
    Behind-append (done ++ x ∷ []) xs ys first.1
        (subst (λ l. Behind on l ys) (sym (append_assoc done (x ∷ []) xs)) next),
  )

  trees_behind : (tree : ℕ → List ℕ) (cs done : List ℕ)
      → ((c : ℕ) (before : List ℕ) → LeadsInto on before c → Behind on before (tree c))
      → Each (LeadsInto on done) cs → Behind on done (flat_map tree cs)
  trees_behind tree [] done each leads = tt
  trees_behind tree (c ∷ cs) done each leads =
      Behind-append done (tree c) (flat_map tree cs) (each c done leads.0)
      (trees_behind tree cs (done ++ tree c) each
      (Each-map (LeadsInto on done) (LeadsInto on (done ++ tree c))
      (λ x into q is. let there = into q is in (there.0, stays done (tree c) there.0 q there.1))
      cs leads.1))

  leads_back : (done xs : List ℕ) → Behind on done xs → (i p q : ℕ) → slice_get xs i ≡ Some p
      → on p ≡ Some q
      → (j : ℕ) × (j < length done + i) × (slice_get (done ++ xs) j ≡ Some q)
  leads_back done [] behind i p q e is = absurd (none_some p e)
  leads_back done (x ∷ xs) behind zero p q e is =
      let there = behind.0 q (ap on (same_some x p e) ∙ is) in (
        there.0,
        omega (arith, slice_get_within done there.0 q there.1),
        stays done (x ∷ xs) there.0 q there.1,
      )
  leads_back done (x ∷ xs) behind (suc i) p q e is =
      let there = leads_back (done ++ x ∷ []) xs behind.1 i p q e is in (
        there.0,
        omega (arith, there.1, length-append done (x ∷ [])),
        ap (λ l. slice_get l there.0) (sym (append_assoc done (x ∷ []) xs)) ∙ there.2,
      )

  module _ (children : ℕ → List ℕ) (follow : (p : ℕ) → Each (λ c. on c ≡ Some p) (children p)) where
    tree_behind : (n p : ℕ) (done : List ℕ) → LeadsInto on done p
        → Behind on done (tree_of children n p)
    tree_behind zero p done leads = (leads, tt)
    tree_behind (suc n) p done leads = (
      leads,
      trees_behind (tree_of children n) (children p) (done ++ p ∷ []) (tree_behind n)
          (Each-map (λ c. on c ≡ Some p) (LeadsInto on (done ++ p ∷ []))
          (λ c is q e. (
            length done,
            last_stands done p ∙ ap Some (same_some p q (sym is ∙ e)),
          )) (children p) (follow p)),
    )

    pub trees_back : (n : ℕ) (roots : List ℕ) → Each (λ r. on r ≡ None) roots
        → LeadsBack on (flat_map (tree_of children n) roots)
    trees_back n roots ends i p q e is =
        let there = leads_back [] (flat_map (tree_of children n) roots)
        (trees_behind (tree_of children n) roots [] (tree_behind n)
        (Each-map (λ r. on r ≡ None) (LeadsInto on [])
        (λ r none q is. absurd (none_some q (sym none ∙ is))) roots ends)) i p q e is in
        (there.0, omega (arith, there.1), there.2)

-- the trees of places below a number stand below it
module _ (children : ℕ → List ℕ) (n : ℕ) (walks : CanWalk children n) where
  trees_within : (m : ℕ) (cs : List ℕ)
      → ((c : ℕ) → c < n → Each (λ p. p < n) (tree_of children m c)) → Each (λ p. p < n) cs
      → Each (λ p. p < n) (flat_map (tree_of children m) cs)
  trees_within m [] each within = tt
  trees_within m (c ∷ cs) each within =
      Each-join (λ p. p < n) (tree_of children m c) (flat_map (tree_of children m) cs)
      (each c within.0) (trees_within m cs each within.1)

  tree_within : (m c : ℕ) → c < n → Each (λ p. p < n) (tree_of children m c)
  tree_within zero c lt = (lt, tt)
  tree_within (suc m) c lt =
      (lt, trees_within m (children c) (tree_within m) (walks.within c lt))

  pub all_within : (m : ℕ) (cs : List ℕ) → Each (λ p. p < n) cs
      → Each (λ p. p < n) (flat_map (tree_of children m) cs)
  all_within m cs = trees_within m cs (tree_within m)

Each-get : (P : ℕ → Type 0) (xs : List ℕ) (i p : ℕ) → Each P xs → slice_get xs i ≡ Some p → P p
Each-get P [] i p all e = absurd (none_some p e)
Each-get P (x ∷ xs) zero p all e = subst P (same_some x p e) all.0
Each-get P (x ∷ xs) (suc i) p all e = Each-get P xs i p all.1 e

same_number : (a b : Id) → a.0 ≡ b.0 → a ≡ b
same_number a b e = λ i. record { 0 = e i }

-- where the message at a place has a parent, that is where a step leads
led_on : (messages : List PlainMessage) (s : Option Step) (above : Parent)
    → option_map (parent_by messages) s ≡ Some above
    → (q : ℕ) × (option_map (λ t. t.place) s ≡ Some q) × (above.id ≡ id_at messages q)
led_on messages None above e = absurd (none_some above e)
led_on messages (Some s) above e =
    (s.place, refl, ap (λ (a : Parent). a.id) (sym (same_some (parent_by messages s) above e)))

module _ (threads : PlainThreads) (distinct : AreDistinct threads.messages) where
  -- who has a parent stands at its place
  has_parent : (p : ℕ) (above : Parent) → p < length threads.messages
      → parent threads (id_at threads.messages p) ≡ Some above
      → (q : ℕ) × (target (parents threads.options threads.messages) p ≡ Some q)
      × (above.id ≡ id_at threads.messages q)
  has_parent p above lt e = by_place (place_of messages (id_at messages p)) refl e
    where
      messages : List PlainMessage
      messages = threads.messages

      steps : List (Option Step)
      steps = parents threads.options threads.messages

      by_place : (t : Option ℕ) → place_of messages (id_at messages p) ≡ t
          → option_and_then (λ place. option_map (parent_by messages)
          (slice_index_or steps place None)) t ≡ Some above
          → (q : ℕ) × (target steps p ≡ Some q) × (above.id ≡ id_at messages q)
      by_place None is found = absurd (none_some above found)
      by_place (Some place) is found =
          let there = position-Some (nat_eq (id_at messages p).0) (numbers messages) place 0 is in
          let within : place < length messages =
          subst (λ n. place < n) (length-map messages (λ m. m.id.0)) there.0 in
          let own = get_or-map (λ (m : PlainMessage). m.id.0) messages place no_message 0 within in
          let same : p ≡ place = same_id messages distinct p place lt within
          (same_number (id_at messages p) (id_at messages place)
          (eqb-true _ _ there.1 ∙ own)) in
          led_on messages (slice_index_or steps p None) above
          (ap (λ k. option_map (parent_by messages) (slice_index_or steps k None)) same ∙ found)

  pub parents_first : (ids : List Id)
      → ArePut threads.messages (parents threads.options threads.messages) ids
      → ParentsFirst threads ids
  parents_first ids put i id above e is =
      by_place (slice_get put.places i) refl
      (sym (slice_get-map (id_at messages) put.places i)
      ∙ ap (λ l. slice_get l i) (sym put.the_ids) ∙ e)
    where
      messages : List PlainMessage
      messages = threads.messages

      by_place : (t : Option ℕ) → slice_get put.places i ≡ t
          → option_map (id_at messages) t ≡ Some id
          → (j : ℕ) × (j < i) × (slice_get ids j ≡ Some above.id)
      by_place None at_i same = absurd (none_some id same)
      by_place (Some p) at_i same =
          let own = same_some (id_at messages p) id same in
          let up = has_parent p above (Each-get (λ q. q < length messages) put.places i p
          put.within at_i) (ap (parent threads) own ∙ is) in
          let there = put.back i p up.0 at_i up.1 in (
            there.0,
            there.1,
            ap (λ l. slice_get l there.0) put.the_ids
                ∙ slice_get-map (id_at messages) put.places there.0
                ∙ ap (option_map (id_at messages)) there.2 ∙ ap Some (sym up.2),
          )
