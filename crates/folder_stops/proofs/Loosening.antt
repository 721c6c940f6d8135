-- The messages that others change while some may go.
use Rattle.std.proofs.Common.{Bool, List, None, Option, Some, [], ap, false, if◌then◌else◌, inl}
use Rattle.std.proofs.Common.{inr, refl, subst, sym, true, ℕ, ⊎_elim, ◌∙◌, ◌∷◌, ◌≡◌}
use Rattle.std.proofs.lemmas.Bool.{cases_Bool, cond-false, cond-true}
use Rattle.std.specs.Str.{bytes_eq}
use Rattle.disk_model.specs.Journal.{Action, Appends, Puts, Removes, Renames, Writes}
use Rattle.disk_model.specs.State.{File, State, can_make, can_take, file_at, name_at}
use Rattle.folder_stops.specs.Messages.{IsLoose, IsSingle, Must, StoredMessage, arrived, loosen}
use Rattle.folder_stops.specs.Messages.{loosened, taken, with_message}
use Rattle.folder_stops.specs.Others.{with_action, with_move, with_put}
use Rattle.folder_stops.specs.Shape.{Shape}
use Rattle.folder_stops.specs.Words.{Among, has}
use Rattle.folder_stops.proofs.Messages.{among_taken, among_with}

-- the messages that others change, loosened before or after

loosened_with : (before : List ℕ → List ℕ → Bool) (keys : List (List ℕ)) (m : StoredMessage)
    (all : List StoredMessage) → loosened keys (with_message before m all)
    ≡ with_message before (loosen keys m) (loosened keys all)
loosened_with before keys m [] = refl
loosened_with before keys m (n ∷ all) = ⊎_elim
    (λ (e : before m.key n.key ≡ true). ap (loosened keys) (cond-true (before m.key n.key) _ _ e)
    ∙ sym (cond-true (before m.key n.key) _ _ e))
    (λ (e : before m.key n.key ≡ false). ap (loosened keys) (cond-false (before m.key n.key) _ _ e)
    ∙ ap (λ (l : List StoredMessage). loosen keys n ∷ l) (loosened_with before keys m all)
    ∙ sym (cond-false (before m.key n.key) _ _ e))
    (cases_Bool (before m.key n.key))

loosened_taken : (keys : List (List ℕ)) (key : List ℕ) (all : List StoredMessage)
    → loosened keys (taken key all) ≡ taken key (loosened keys all)
loosened_taken keys key [] = refl
loosened_taken keys key (n ∷ all) = ⊎_elim
    (λ (e : bytes_eq n.key key ≡ true). ap (loosened keys) (cond-true (bytes_eq n.key key) _ _ e)
    ∙ loosened_taken keys key all ∙ sym (cond-true (bytes_eq n.key key) _ _ e))
    (λ (e : bytes_eq n.key key ≡ false). ap (loosened keys) (cond-false (bytes_eq n.key key) _ _ e)
    ∙ ap (λ (l : List StoredMessage). loosen keys n ∷ l) (loosened_taken keys key all)
    ∙ sym (cond-false (bytes_eq n.key key) _ _ e))
    (cases_Bool (bytes_eq n.key key))

module _ (shape : Shape) (keys : List (List ℕ)) where
  loosened_if : (b : Bool) (x y x' y' : List StoredMessage) → loosened keys x ≡ x' → loosened keys y
      ≡ y' → loosened keys (if b then x else y) ≡ (if b then x' else y')
  loosened_if true x y x' y' e f = e
  loosened_if false x y x' y' e f = f

  loosened_put : (at : Option (List ℕ)) (bytes : List ℕ) (all : List StoredMessage)
      → loosened keys (with_put shape [] at bytes all)
      ≡ with_put shape keys at bytes (loosened keys all)
  loosened_put None bytes all = refl
  loosened_put (Some key) bytes all =
      loosened_if (shape.counts bytes) _ _ _ _
      (loosened_with shape.before keys (arrived [] key bytes) all) refl

  loosened_move : (file : Option (Option ℕ)) (a b : Option (List ℕ)) (files : List File)
      (all : List StoredMessage) → loosened keys (with_move shape [] file a b files all)
      ≡ with_move shape keys file a b files (loosened keys all)
  loosened_move None a b files all = refl
  loosened_move (Some None) a b files all = refl
  loosened_move (Some (Some n)) None None files all = refl
  loosened_move (Some (Some n)) None (Some key) files all =
      loosened_if (shape.counts (file_at files n).bytes) _ _ _ _
      (loosened_with shape.before keys (arrived [] key (file_at files n).bytes) all) refl
  loosened_move (Some (Some n)) (Some key) None files all = loosened_taken keys key all
  loosened_move (Some (Some n)) (Some key) (Some other) files all = refl

  pub loosened_action : (action : Action) (s : State) (all : List StoredMessage)
      → loosened keys (with_action shape [] action s all)
      ≡ with_action shape keys action s (loosened keys all)
  loosened_action (Appends path piece) s all = refl
  loosened_action (Writes path bytes) s all = refl
  loosened_action (Removes path) s all = refl
  loosened_action (Puts path bytes) s all =
      loosened_if (can_make s.names path) _ _ _ _ (loosened_put (shape.slot path) bytes all) refl
  loosened_action (Renames from to) s all =
      loosened_if (can_take s.names to) _ _ _ _
      (loosened_move (name_at s.names from) (shape.slot from) (shape.slot to) s.files all) refl

module _ (shape : Shape) (keys : List (List ℕ)) where
  loose_with : (key core : List ℕ) (all : List StoredMessage) → IsLoose keys all
      → IsLoose keys (with_message shape.before (arrived keys key core) all)
  loose_with key core all loose m in_it is = ⊎_elim
      (λ (e : m ≡ arrived keys key core). ap (λ (y : StoredMessage). y.may_go) e
      ∙ sym (ap (λ (y : StoredMessage). has keys y.key) e) ∙ is)
      (λ (old : Among m all). loose m old is)
      (among_with shape.before m (arrived keys key core) all in_it)

  loose_if : (b : Bool) (x y : List StoredMessage) → IsLoose keys x → IsLoose keys y
      → IsLoose keys (if b then x else y)
  loose_if true x y e f = e
  loose_if false x y e f = f

  loose_move : (file : Option (Option ℕ)) (a b : Option (List ℕ)) (s : State)
      (all : List StoredMessage) → IsLoose keys all
      → IsLoose keys (with_move shape keys file a b s.files all)
  loose_move None a b s all loose = loose
  loose_move (Some None) a b s all loose = loose
  loose_move (Some (Some n)) None None s all loose = loose
  loose_move (Some (Some n)) None (Some key) s all loose =
      loose_if (shape.counts (file_at s.files n).bytes) _ _
      (loose_with key (file_at s.files n).bytes all loose) loose
  loose_move (Some (Some n)) (Some key) None s all loose =
      λ m in_it. loose m (among_taken m key all in_it).0
  loose_move (Some (Some n)) (Some key) (Some other) s all loose = loose

  loose_put : (at : Option (List ℕ)) (bytes : List ℕ) (all : List StoredMessage) → IsLoose keys all
      → IsLoose keys (with_put shape keys at bytes all)
  loose_put None bytes all loose = loose
  loose_put (Some key) bytes all loose =
      loose_if (shape.counts bytes) _ _ (loose_with key bytes all loose) loose

  pub loose_action : (action : Action) (s : State) (all : List StoredMessage) → IsLoose keys all
      → IsLoose keys (with_action shape keys action s all)
  loose_action (Appends path piece) s all loose = loose
  loose_action (Writes path bytes) s all loose = loose
  loose_action (Removes path) s all loose = loose
  loose_action (Puts path bytes) s all loose = ⊎_elim
      (λ (e : can_make s.names path ≡ true). subst (IsLoose keys)
      (sym (cond-true (can_make s.names path) _ _ e)) (loose_put (shape.slot path) bytes all loose))
      (λ (e : can_make s.names path ≡ false). subst (IsLoose keys)
      (sym (cond-false (can_make s.names path) _ _ e)) loose)
      (cases_Bool (can_make s.names path))
  loose_action (Renames from to) s all loose = ⊎_elim
      (λ (e : can_take s.names to ≡ true). subst (IsLoose keys)
      (sym (cond-true (can_take s.names to) _ _ e))
      (loose_move (name_at s.names from) (shape.slot from) (shape.slot to) s all loose))
      (λ (e : can_take s.names to ≡ false). subst (IsLoose keys)
      (sym (cond-false (can_take s.names to) _ _ e)) loose)
      (cases_Bool (can_take s.names to))

-- two messages that must stay and have one key are one
pub single_same : (all : List StoredMessage) (m n : StoredMessage) → IsSingle all → Among m all
    → Among n all → Must m → Must n → m.key ≡ n.key → m ≡ n
single_same [] m n s in_m in_n must must' e = absurd in_m
single_same (x ∷ all) m n s (inl a) (inl b) must must' e = a ∙ sym b
single_same (x ∷ all) m n s (inl a) (inr b) must must' e =
    absurd (s.0 n b (sym (ap (λ (y : StoredMessage). y.may_go) a) ∙ must) must'
    (sym (ap (λ (y : StoredMessage). y.key) a) ∙ e))
single_same (x ∷ all) m n s (inr a) (inl b) must must' e =
    absurd (s.0 m a (sym (ap (λ (y : StoredMessage). y.may_go) b) ∙ must') must
    (sym (ap (λ (y : StoredMessage). y.key) b) ∙ sym e))
single_same (x ∷ all) m n s (inr a) (inr b) must must' e = single_same all m n s.1 a b must must' e
