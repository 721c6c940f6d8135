-- Lists of messages: who is among them, and what keeps them in order.
use Rattle.std.proofs.Common.{Bool, List, [], ap, false, inl, inr, refl, subst, sym, true, ℕ}
use Rattle.std.proofs.Common.{⊎_elim, ◌||◌, ◌∙◌, ◌∷◌, ◌≡◌, ◌≢◌, ◌⊎◌}
use Rattle.std.proofs.lemmas.Bool.{cases_Bool, cond-false, cond-true, false_from_ne_true, or_left}
use Rattle.std.specs.Str.{bytes_eq}
use Rattle.folder_stops.specs.Messages.{IsInOrder, IsLooser, IsSingle, Must, StoredMessage, loosen}
use Rattle.folder_stops.specs.Messages.{loosened, taken, with_message}
use Rattle.folder_stops.specs.Shape.{IsOrder}
use Rattle.folder_stops.specs.Words.{Among, has}
use Rattle.folder_stops.proofs.Words.{apart, same}

-- who is in a list of messages

pub among_with : (before : List ℕ → List ℕ → Bool) (x m : StoredMessage) (all : List StoredMessage)
    → Among x (with_message before m all) → (x ≡ m) ⊎ Among x all
among_with before x m [] (inl is) = inl is
among_with before x m [] (inr later) = absurd later
among_with before x m (n ∷ all) in_it = ⊎_elim
    (λ (e : before m.key n.key ≡ true). subst (Among x) (cond-true (before m.key n.key) _ _ e)
    in_it)
    (λ (e : before m.key n.key ≡ false). ⊎_elim {C = (x ≡ m) ⊎ Among x (n ∷ all)}
    (λ (is : x ≡ n). inr (inl is))
    (λ (later : Among x (with_message before m all)). ⊎_elim {C = (x ≡ m) ⊎ Among x (n ∷ all)}
    (λ (is : x ≡ m). inl is) (λ (old : Among x all). inr (inr old))
    (among_with before x m all later))
    (subst (Among x) (cond-false (before m.key n.key) _ _ e) in_it))
    (cases_Bool (before m.key n.key))

pub with_new : (before : List ℕ → List ℕ → Bool) (m : StoredMessage) (all : List StoredMessage)
    → Among m (with_message before m all)
with_new before m [] = inl refl
with_new before m (n ∷ all) = ⊎_elim
    (λ (e : before m.key n.key ≡ true). subst (Among m) (sym (cond-true (before m.key n.key) _ _ e))
    (inl refl))
    (λ (e : before m.key n.key ≡ false). subst (Among m)
    (sym (cond-false (before m.key n.key) _ _ e)) (inr (with_new before m all)))
    (cases_Bool (before m.key n.key))

pub with_old : (before : List ℕ → List ℕ → Bool) (x m : StoredMessage) (all : List StoredMessage)
    → Among x all → Among x (with_message before m all)
with_old before x m [] in_it = absurd in_it
with_old before x m (n ∷ all) (inl is) = ⊎_elim
    (λ (e : before m.key n.key ≡ true). subst (Among x) (sym (cond-true (before m.key n.key) _ _ e))
    (inr (inl is)))
    (λ (e : before m.key n.key ≡ false). subst (Among x)
    (sym (cond-false (before m.key n.key) _ _ e)) (inl is))
    (cases_Bool (before m.key n.key))
with_old before x m (n ∷ all) (inr later) = ⊎_elim
    (λ (e : before m.key n.key ≡ true). subst (Among x) (sym (cond-true (before m.key n.key) _ _ e))
    (inr (inr later)))
    (λ (e : before m.key n.key ≡ false). subst (Among x)
    (sym (cond-false (before m.key n.key) _ _ e)) (inr (with_old before x m all later)))
    (cases_Bool (before m.key n.key))

step_taken : (x m : StoredMessage) (key : List ℕ) (all : List StoredMessage)
    → (Among x (taken key all) → Among x all × (x.key ≢ key)) → Among x (taken key (m ∷ all))
    → Among x (m ∷ all) × (x.key ≢ key)
step_taken x m key all rest in_it = ⊎_elim here there (cases_Bool (bytes_eq m.key key))
  where
    here : bytes_eq m.key key ≡ true → Among x (m ∷ all) × (x.key ≢ key)
    here e = let more = rest (subst (Among x) (cond-true (bytes_eq m.key key) _ _ e) in_it) in
        (inr more.0, more.1)

    is_first : bytes_eq m.key key ≡ false → x ≡ m → Among x (m ∷ all) × (x.key ≢ key)
    is_first e is = (
      inl is,
      λ at.
          let t : bytes_eq m.key key ≡ true =
          subst (λ (k : List ℕ). bytes_eq k key ≡ true) (ap (λ (y : StoredMessage). y.key) is)
          (subst (λ (k : List ℕ). bytes_eq x.key k ≡ true) at (same x.key)) in cc,
    )

    is_later : Among x (taken key all) → Among x (m ∷ all) × (x.key ≢ key)
    is_later later = let more = rest later in (inr more.0, more.1)

    there : bytes_eq m.key key ≡ false → Among x (m ∷ all) × (x.key ≢ key)
    there e = ⊎_elim (is_first e) is_later
        (subst (Among x) (cond-false (bytes_eq m.key key) _ _ e) in_it)

pub among_taken : (x : StoredMessage) (key : List ℕ) (all : List StoredMessage)
    → Among x (taken key all) → Among x all × (x.key ≢ key)
among_taken x key [] in_it = absurd in_it
among_taken x key (m ∷ all) in_it = step_taken x m key all (among_taken x key all) in_it

pub taken_among : (x : StoredMessage) (key : List ℕ) (all : List StoredMessage) → Among x all
    → x.key ≢ key → Among x (taken key all)
taken_among x key [] in_it ne = absurd in_it
taken_among x key (m ∷ all) (inl is) ne =
    subst (Among x) (sym (cond-false (bytes_eq m.key key) _ _
    (apart m.key key (λ at. ne (ap (λ (y : StoredMessage). y.key) is ∙ at))))) (inl is)
taken_among x key (m ∷ all) (inr later) ne = ⊎_elim
    (λ (e : bytes_eq m.key key ≡ true). subst (Among x) (sym (cond-true (bytes_eq m.key key) _ _ e))
    (taken_among x key all later ne))
    (λ (e : bytes_eq m.key key ≡ false). subst (Among x)
    (sym (cond-false (bytes_eq m.key key) _ _ e)) (inr (taken_among x key all later ne)))
    (cases_Bool (bytes_eq m.key key))

pub loosened_among : (keys : List (List ℕ)) (m : StoredMessage) (all : List StoredMessage)
    → Among m all → Among (loosen keys m) (loosened keys all)
loosened_among keys m [] in_it = absurd in_it
loosened_among keys m (n ∷ all) (inl is) = inl (ap (loosen keys) is)
loosened_among keys m (n ∷ all) (inr later) = inr (loosened_among keys m all later)

pub among_loosened : (keys : List (List ℕ)) (x : StoredMessage) (all : List StoredMessage)
    → Among x (loosened keys all) → (m : StoredMessage) × Among m all × (x ≡ loosen keys m)
among_loosened keys x [] in_it = absurd in_it
among_loosened keys x (n ∷ all) (inl is) = (n, inl refl, is)
among_loosened keys x (n ∷ all) (inr later) = let rest = among_loosened keys x all later in
    (rest.0, inr rest.1, rest.2)

-- if the loosened one must stay, so must it
pub tight : (keys : List (List ℕ)) (m : StoredMessage) → Must (loosen keys m) → Must m
tight keys m must = ⊎_elim
    (λ (e : m.may_go ≡ true).
    let t : (m.may_go || has keys m.key) ≡ true = or_left m.may_go (has keys m.key) e in
    absurd (cc))
    (λ (e : m.may_go ≡ false). e)
    (cases_Bool m.may_go)

-- lists that stay in order, and in which no two that must stay have one key

pub single_less : (key : List ℕ) (all : List StoredMessage) → IsSingle all
    → IsSingle (taken key all)
single_less key [] s = tt
single_less key (m ∷ all) s = ⊎_elim
    (λ (e : bytes_eq m.key key ≡ true). subst IsSingle (sym (cond-true (bytes_eq m.key key) _ _ e))
    (single_less key all s.1))
    (λ (e : bytes_eq m.key key ≡ false). subst IsSingle
    (sym (cond-false (bytes_eq m.key key) _ _ e))
    ((λ n in_it. s.0 n (among_taken n key all in_it).0), single_less key all s.1))
    (cases_Bool (bytes_eq m.key key))

pub order_less : (before : List ℕ → List ℕ → Bool) (key : List ℕ) (all : List StoredMessage)
    → IsInOrder before all → IsInOrder before (taken key all)
order_less before key [] s = tt
order_less before key (m ∷ all) s = ⊎_elim
    (λ (e : bytes_eq m.key key ≡ true). subst (IsInOrder before)
    (sym (cond-true (bytes_eq m.key key) _ _ e)) (order_less before key all s.1))
    (λ (e : bytes_eq m.key key ≡ false). subst (IsInOrder before)
    (sym (cond-false (bytes_eq m.key key) _ _ e))
    ((λ n in_it. s.0 n (among_taken n key all in_it).0), order_less before key all s.1))
    (cases_Bool (bytes_eq m.key key))

pub single_loosened : (keys : List (List ℕ)) (all : List StoredMessage) → IsSingle all
    → IsSingle (loosened keys all)
single_loosened keys [] s = tt
single_loosened keys (m ∷ all) s = (
  (λ n in_it must must'. let was = among_loosened keys n all in_it in
      let must_was : Must (loosen keys was.0) = sym (ap (λ (y : StoredMessage). y.may_go) was.2)
      ∙ must' in
      λ e. s.0 was.0 was.1 (tight keys m must) (tight keys was.0 must_was)
      (e ∙ ap (λ (y : StoredMessage). y.key) was.2)),
  single_loosened keys all s.1,
)

pub order_loosened : (before : List ℕ → List ℕ → Bool) (keys : List (List ℕ))
    (all : List StoredMessage) → IsInOrder before all → IsInOrder before (loosened keys all)
order_loosened before keys [] s = tt
order_loosened before keys (m ∷ all) s = (
  (λ n in_it. let was = among_loosened keys n all in_it in
      ap (λ (y : StoredMessage). before y.key m.key) was.2 ∙ s.0 was.0 was.1),
  order_loosened before keys all s.1,
)

-- they were in order before some might go
pub order_back : (before : List ℕ → List ℕ → Bool) (keys : List (List ℕ)) (all : List StoredMessage)
    → IsInOrder before (loosened keys all) → IsInOrder before all
order_back before keys [] o = tt
order_back before keys (m ∷ all) o = (
  (λ n in_it. o.0 (loosen keys n) (loosened_among keys n all in_it)),
  order_back before keys all o.1,
)

-- the new one has a key that none has that must stay
pub single_with : (before : List ℕ → List ℕ → Bool) (m : StoredMessage) (all : List StoredMessage)
    → ((n : StoredMessage) → Among n all → Must m → Must n → m.key ≢ n.key) → IsSingle all
    → IsSingle (with_message before m all)
single_with before m [] new s = ((λ n in_it. absurd in_it), tt)
single_with before m (x ∷ all) new s = ⊎_elim
    (λ (e : before m.key x.key ≡ true). subst IsSingle (sym (cond-true (before m.key x.key) _ _ e))
    (new, s))
    (λ (e : before m.key x.key ≡ false). subst IsSingle
    (sym (cond-false (before m.key x.key) _ _ e)) (
      (λ n in_it must must'. ⊎_elim
          (λ (is : n ≡ m). λ at.
          new x (inl refl) (sym (ap (λ (y : StoredMessage). y.may_go) is) ∙ must') must
          (sym (at ∙ ap (λ (y : StoredMessage). y.key) is)))
          (λ (old : Among n all). s.0 n old must must')
          (among_with before n m all in_it)),
      single_with before m all (λ n in_it. new n (inr in_it)) s.1,
    ))
    (cases_Bool (before m.key x.key))

-- of two keys at most one stands before the other
pub asym : (before : List ℕ → List ℕ → Bool) → IsOrder before → (a b : List ℕ) → before a b ≡ true
    → before b a ≡ false
asym before order a b lt = false_from_ne_true (before b a) (λ back.
    let no : before a a ≡ false = order.never a in
    let yes : before a a ≡ true = order.trans a b a lt back in cc)

pub order_with : (before : List ℕ → List ℕ → Bool) → IsOrder before
    → (m : StoredMessage) (all : List StoredMessage) → IsInOrder before all
    → IsInOrder before (with_message before m all)
order_with before order m [] s = ((λ n in_it. absurd in_it), tt)
order_with before order m (x ∷ all) s = ⊎_elim
    (λ (e : before m.key x.key ≡ true). subst (IsInOrder before)
    (sym (cond-true (before m.key x.key) _ _ e)) (
      (λ n in_it. ⊎_elim
          (λ (is : n ≡ x). ap (λ (y : StoredMessage). before y.key m.key) is ∙ asym before order
          m.key
          x.key e)
          (λ (later : Among n all). ⊎_elim
          (λ (t : before n.key m.key ≡ true).
          let u : before n.key x.key ≡ true = order.trans n.key m.key x.key t e in
          let f : before n.key x.key ≡ false = s.0 n later in absurd (cc))
          (λ (f : before n.key m.key ≡ false). f)
          (cases_Bool (before n.key m.key)))
          in_it),
      s,
    ))
    (λ (e : before m.key x.key ≡ false). subst (IsInOrder before)
    (sym (cond-false (before m.key x.key) _ _ e)) (
      (λ n in_it. ⊎_elim
          (λ (is : n ≡ m). ap (λ (y : StoredMessage). before y.key x.key) is ∙ e)
          (λ (old : Among n all). s.0 n old)
          (among_with before n m all in_it)),
      order_with before order m all s.1,
    ))
    (cases_Bool (before m.key x.key))

-- the same messages, of which no fewer may go

pub looser_there : (all more : List StoredMessage) (m : StoredMessage) → IsLooser all more
    → Among m all → (n : StoredMessage) × Among n more × (m.key ≡ n.key) × (m.core ≡ n.core)
looser_there [] more m loose in_it = absurd in_it
looser_there (x ∷ all) [] m loose in_it = absurd loose
looser_there (x ∷ all) (y ∷ more) m loose (inl is) = (
  y,
  inl refl,
  ap (λ (z : StoredMessage). z.key) is ∙ loose.0,
  ap (λ (z : StoredMessage). z.core) is ∙ loose.1,
)
looser_there (x ∷ all) (y ∷ more) m loose (inr later) = let rest =
    looser_there all more m loose.3 later in (rest.0, inr rest.1, rest.2, rest.3)

pub looser_back : (all more : List StoredMessage) (n : StoredMessage) → IsLooser all more
    → Among n more → (m : StoredMessage) × Among m all × (m.key ≡ n.key) × (m.core ≡ n.core)
    × (Must n → Must m)
looser_back all [] n loose in_it = absurd in_it
looser_back [] (y ∷ more) n loose in_it = absurd loose
looser_back (x ∷ all) (y ∷ more) n loose (inl is) = (
  x,
  inl refl,
  loose.0 ∙ sym (ap (λ (z : StoredMessage). z.key) is),
  loose.1 ∙ sym (ap (λ (z : StoredMessage). z.core) is),
  λ must.
      loose.2 (sym (ap (λ (z : StoredMessage). z.may_go) is) ∙ must),
)
looser_back (x ∷ all) (y ∷ more) n loose (inr later) = let rest =
    looser_back all more n loose.3 later in (rest.0, inr rest.1, rest.2, rest.3, rest.4)

pub single_looser : (all more : List StoredMessage) → IsLooser all more → IsSingle all
    → IsSingle more
single_looser all [] loose single = tt
single_looser [] (n ∷ more) loose single = absurd loose
single_looser (m ∷ all) (n ∷ more) loose single = (
  (λ o in_it must must'.
      let at = looser_back all more o loose.3 in_it in
      λ e. single.0 at.0 at.1 (loose.2 must) (at.4 must') (loose.0 ∙ e ∙ sym at.2)),
  single_looser all more loose.3 single.1,
)

pub order_looser : (before : List ℕ → List ℕ → Bool) (all more : List StoredMessage)
    → IsLooser all more → IsInOrder before all → IsInOrder before more
order_looser before all [] loose order = tt
order_looser before [] (n ∷ more) loose order = absurd loose
order_looser before (m ∷ all) (n ∷ more) loose order = (
  (λ o in_it.
      let at = looser_back all more o loose.3 in_it in
      (λ i. before (sym at.2 i) (sym loose.0 i)) ∙ order.0 at.0 at.1),
  order_looser before all more loose.3 order.1,
)
