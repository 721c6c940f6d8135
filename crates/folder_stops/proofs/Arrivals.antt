-- The order and the keys of messages to which others bring more, beside an item.
use Rattle.std.proofs.Common.{Bool, List, None, Option, Some, [], ap, false, if◌then◌else◌, inl}
use Rattle.std.proofs.Common.{inr, refl, subst, sym, true, ℕ, ⊎_elim, ◌||◌, ◌∙◌, ◌∷◌, ◌≡◌, ◌≢◌}
use Rattle.std.proofs.lemmas.Bool.{cases_Bool, or_left, or_right}
use Rattle.std.specs.Str.{bytes_eq}
use Rattle.disk_model.specs.Journal.{Action, Appends, Puts, Removes, Renames, Writes}
use Rattle.disk_model.specs.State.{State, can_make, can_take, file_at, name_at}
use Rattle.folder_stops.specs.Appends.{HoldsBeside, IsVacant, NewItem, Spares}
use Rattle.folder_stops.specs.Messages.{IsSingle, Must, StoredMessage, arrived, loosen, loosened}
use Rattle.folder_stops.specs.Messages.{with_message}
use Rattle.folder_stops.specs.Others.{MayDo, MayMove, MayPut, with_action, with_move, with_put}
use Rattle.folder_stops.specs.Rows.{Holds, IsUnused}
use Rattle.folder_stops.specs.Shape.{Shape}
use Rattle.folder_stops.specs.Words.{Among, has}
use Rattle.folder_stops.proofs.Messages.{among_loosened, loosened_among, single_less, single_with}
use Rattle.folder_stops.proofs.Words.{apart, same}
use Rattle.folder_stops.proofs.Sparing as P

module _ (shape : Shape) (item : NewItem) where
  -- the item's key
  abbrev keys : List (List ℕ)
  keys = item.key ∷ []

  pub loose_key : (all : List StoredMessage) (m : StoredMessage) → Among m (loosened keys all)
      → m.key
      ≡ item.key → m.may_go ≡ true
  loose_key all m in_it e =
      let was = among_loosened keys m all in_it in
      let has_it : bytes_eq item.key was.0.key ≡ true =
      subst (λ (k : List ℕ). bytes_eq item.key k ≡ true)
      (sym e ∙ ap (λ (y : StoredMessage). y.key) was.2) (same item.key) in
      ap (λ (y : StoredMessage). y.may_go) was.2
      ∙ or_right was.0.may_go (has keys was.0.key)
      (or_left (bytes_eq item.key was.0.key) false has_it)

  pub still_must : (m : StoredMessage) → Must m → m.key ≢ item.key → Must (loosen keys m)
  still_must m must ne =
      let e : bytes_eq item.key m.key ≡ false = apart item.key m.key (λ at. ne (sym at)) in
      ap (λ (b : Bool). b || (bytes_eq item.key m.key || false)) must
      ∙ ap (λ (b : Bool). b || false) e

  single_arrival : (key core : List ℕ) (all : List StoredMessage) (s : State) → key ≢ item.key
      → IsUnused shape key s.names → HoldsBeside shape item all s → IsSingle all
      → IsSingle (with_message shape.before (arrived [] key core) all)
  single_arrival key core all s ne unused holds single =
      single_with shape.before (arrived [] key core) all
      (λ n in_all must must' e.
      let at = (holds.rows s.names (inl refl)).present (loosen keys n)
      (loosened_among keys n all in_all) (still_must n must' (λ f. ne (e ∙ f))) in
      unused at.0 at.1 at.2 (at.3.0 ∙ ap Some (sym e), at.3.1)) single

  single_if : (b : Bool) (x y : List StoredMessage) → IsSingle x → IsSingle y
      → IsSingle (if b then x else y)
  single_if true x y e f = e
  single_if false x y e f = f

  single_put : (at : Option (List ℕ)) (bytes : List ℕ) (all : List StoredMessage) (s : State)
      → at ≢ Some item.key → MayPut shape at s.names → HoldsBeside shape item all s → IsSingle all
      → IsSingle (with_put shape [] at bytes all)
  single_put None bytes all s ne may holds single = single
  single_put (Some key) bytes all s ne may holds single =
      single_if (shape.counts bytes) _ _
      (single_arrival key bytes all s (λ e. ne (ap Some e)) may holds single) single

  single_move : (file : Option (Option ℕ)) (a b : Option (List ℕ)) (all : List StoredMessage)
      (s : State) → ((n : ℕ) → file ≡ Some (Some n) → b ≢ Some item.key)
      → MayMove shape file a b s → HoldsBeside shape item all s → IsSingle all
      → IsSingle (with_move shape [] file a b s.files all)
  single_move None a b all s ne may holds single = single
  single_move (Some None) a b all s ne may holds single = single
  single_move (Some (Some n)) None None all s ne may holds single = single
  single_move (Some (Some n)) None (Some key) all s ne may holds single =
      single_if (shape.counts (file_at s.files n).bytes) _ _
      (single_arrival key (file_at s.files n).bytes all s (λ e. ne n refl (ap Some e)) may.0
      holds single) single
  single_move (Some (Some n)) (Some key) None all s ne may holds single =
      single_less key all single
  single_move (Some (Some n)) (Some key) (Some other) all s ne may holds single = single

  pub single_action : (action : Action) (all : List StoredMessage) (s : State)
      → MayDo shape action s
      → Spares shape item action → IsVacant shape item s → HoldsBeside shape item all s
      → IsSingle all → IsSingle (with_action shape [] action s all)
  single_action (Appends path piece) all s may spares vacant holds single = single
  single_action (Writes path bytes) all s may spares vacant holds single = single
  single_action (Removes path) all s may spares vacant holds single = single
  single_action (Puts path bytes) all s may spares vacant holds single =
      single_if (can_make s.names path) _ _
      (single_put (shape.slot path) bytes all s spares.1 may holds single) single
  single_action (Renames from to) all s may spares vacant holds single =
      single_if (can_take s.names to) _ _
      (single_move (name_at s.names from) (shape.slot from) (shape.slot to) all s
      (λ n is. P.not_come shape item from to s (shape.slot from) (shape.slot to) n refl refl is
      (subst (λ (o : Option (Option ℕ)). MayMove shape o (shape.slot from) (shape.slot to) s) is
      may.1) spares.2 spares.3 vacant) may.1 holds single) single

-- Where no file has a key, no message with it must stay, so that of an append the item alone may
-- go.

none_more : (key : List ℕ) (m : StoredMessage) → (Must m → m.key ≢ key) → loosen (key ∷ []) m ≡ m
none_more key m never = λ i. record { key = m.key; core = m.core; may_go = stays i }
  where
    stays : (m.may_go || has (key ∷ []) m.key) ≡ m.may_go
    stays = ⊎_elim {C = (m.may_go || has (key ∷ []) m.key) ≡ m.may_go}
        (λ (may : m.may_go ≡ true). or_left m.may_go (has (key ∷ []) m.key) may ∙ sym may)
        (λ (must : m.may_go ≡ false). ap (λ (b : Bool). b || has (key ∷ []) m.key) must
        ∙ ap (λ (b : Bool). b || false) (apart key m.key (λ e. never must (sym e))) ∙ sym must)
        (cases_Bool m.may_go)

none_loosened : (key : List ℕ) (all : List StoredMessage)
    → ((m : StoredMessage) → Among m all → Must m → m.key ≢ key) → loosened (key ∷ []) all ≡ all
none_loosened key [] never = refl
none_loosened key (m ∷ all) never =
    λ i. none_more key m (never m (inl refl)) i ∷ none_loosened key all (λ n in_it.
    never n (inr in_it)) i

pub item_alone : (shape : Shape) (key : List ℕ) (all : List StoredMessage) (s : State)
    → Holds shape all s → IsUnused shape key s.names → loosened (key ∷ []) all ≡ all
item_alone shape key all s h unused = none_loosened key all (λ m in_all must e.
    let at = (h.rows s.names (inl refl)).present m in_all must in
    unused at.0 at.1 at.2 (at.3.0 ∙ ap Some e, at.3.1))
