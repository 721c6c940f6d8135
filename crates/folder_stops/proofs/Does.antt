-- What calls did one after the other.
use Rattle.std.proofs.Common.{Bool, Err, List, Ok, Option, Result, [], false, inl, inr, map, subst}
use Rattle.std.proofs.Common.{None, Some, refl, sym, true, ℕ, ◌++◌, ◌==◌, ◌||◌, ◌∷◌, ◌≡◌, ◌∙◌}
use Rattle.std.proofs.lemmas.Bool.{and_parts}
use Rattle.disk_model.specs.Looking.{LooksOnly, all_look, is_look}
use Rattle.disk_model.specs.Tree.{TreeNode}
use Rattle.disk_model.specs.Journal.{Action, Answer, Call, Create, Cut, Done, Entry, ListDir}
use Rattle.disk_model.specs.Journal.{MakeDir, Others, Own, Past, ReadAll, ReadFront, Refused}
use Rattle.disk_model.specs.Journal.{Remove, Rename, StatPath, Sync, SyncDir, WriteAt}
use Rattle.disk_model.specs.State.{State}
use Rattle.disk_model.specs.Judge.{Called}
use Rattle.disk_model.specs.declared.answers.DiskError.{DiskError}
use Rattle.folder_stops.specs.Along.{Grown}
use Rattle.folder_stops.specs.Does.{AllOwn, AreElsewhere, Does, IsElsewhere, IsOurs, IsWithin}
use Rattle.folder_stops.specs.Does.{MakesAt}
use Rattle.folder_stops.specs.Shape.{Shape}
use Rattle.folder_stops.proofs.Along.{IsRefused, done_grown, grown_map, grown_none, grown_then}
use Rattle.folder_stops.proofs.Along.{refused_grown}

false_true : ◌≡◌ {A = Bool} false true → ⊥
false_true e = cc

pub own_append : (Q : Call → Answer → Type 0) (xs ys : List Entry) → AllOwn Q xs → AllOwn Q ys
    → AllOwn Q (xs ++ ys)
own_append Q [] ys first rest = rest
own_append Q (Own call answer ∷ xs) ys first rest = (first.0, own_append Q xs ys first.1 rest)
own_append Q (Others action ∷ xs) ys first rest = own_append Q xs ys first rest

own_step : (Q : Call → Answer → Type 0) (actions : List Action) (call : Call) (answer : Answer)
    → Q call answer → AllOwn Q (map Others actions ++ Own call answer ∷ [])
own_step Q [] call answer is = (is, tt)
own_step Q (action ∷ actions) call answer is = own_step Q actions call answer is

own_refused : (Q : Call → Answer → Type 0) (call : Call) (s : State) (es : List Entry)
    → ((why : DiskError) (wrote : ℕ) → Q call (Refused why wrote)) → IsRefused call s es
    → AllOwn Q es
own_refused Q call s es is (inl none) = subst (AllOwn Q) (sym none) tt
own_refused Q call s es is (inr some) =
    subst (AllOwn Q) (sym some.3)
    (own_step Q some.0 call (Refused some.1 some.2) (is some.1 some.2))

module _ (home : List ℕ → Bool) (making : List ℕ → Option (List ℕ)) (made : Option (List ℕ)) where
  pub does_none : (a : Option Past) → Does home making made a a
  does_none a = record { grown = grown_none a _ (λ s. tt) }

  pub does_then : {a b c : Option Past} → Does home making made a b → Does home making made b c
      → Does home making made a c
  does_then {a} {b} {c} first rest =
      record {
        grown = grown_then a b c _ _ _ first.grown rest.grown (λ s xs ys one two.
            own_append (IsOurs home making made) xs ys one two);
      }

  look_within : (call : Call) → is_look call ≡ true
      → IsWithin home call × MakesAt making made Done call
  look_within (ListDir dir) is = (tt, tt)
  look_within (StatPath p) is = (tt, tt)
  look_within (ReadFront p size) is = (tt, tt)
  look_within (ReadAll p limit) is = (tt, tt)
  look_within (Create p) is = absurd (false_true is)
  look_within (WriteAt p from piece) is = absurd (false_true is)
  look_within (Cut p size) is = absurd (false_true is)
  look_within (Sync p) is = absurd (false_true is)
  look_within (Rename from to) is = absurd (false_true is)
  look_within (Remove p) is = absurd (false_true is)
  look_within (SyncDir dir) is = absurd (false_true is)
  look_within (MakeDir p) is = absurd (false_true is)

  -- looks change nothing and begin nothing
  own_looks : (entries : List Entry) → all_look entries ≡ true
      → AllOwn (IsOurs home making made) entries
  own_looks [] look = tt
  own_looks (Own call Done ∷ entries) look =
      let both = and_parts (is_look call) (all_look entries) look in
      (look_within call both.0, own_looks entries both.1)
  own_looks (Own call (Refused why wrote) ∷ entries) look =
      let both = and_parts (is_look call || wrote == 0) (all_look entries) look in (
        (λ changed. (look_within call (only (is_look call) (wrote == 0) both.0 changed)).0, tt),
        own_looks entries both.1,
      )
    where
      only : (a b : Bool) → (a || b) ≡ true → b ≡ false → a ≡ true
      only true b is none = refl
      only false b is none = absurd (false_true (sym none ∙ is))
  own_looks (Others action ∷ entries) look =
      own_looks entries (and_parts true (all_look entries) look).1

  looks_grown : (a b : Option Past) → LooksOnly a b
      → Grown a b (λ s entries. AllOwn (IsOurs home making made) entries)
  looks_grown None b looks = looks
  looks_grown (Some past) None looks = absurd looks
  looks_grown (Some past) (Some next) looks = record {
    same_first = looks.same_first;
    more = looks.more;
    journal = looks.journal;
    along = own_looks looks.more looks.look;
  }

  pub does_looked : {a b : Option Past} → LooksOnly a b → Does home making made a b
  does_looked {a} {b} looks = record { grown = looks_grown a b looks }

  -- a refused call makes nothing
  pub does_refused : {T : Type 0} {e : DiskError} {call : Call}
      {wanted : List TreeNode → Result T DiskError} {a b : Option Past}
      → Called (Err e) call wanted a b → IsWithin home call → Does home making made a b
  does_refused {T} {e} {call} {wanted} {a} {b} took within = record {
    grown = grown_map a b _ _ (refused_grown e call wanted a b took.goes) (λ s es is.
        own_refused (IsOurs home making made) call s es (λ why wrote. (λ changed. within, tt)) is);
  }

  pub does_call : {T : Type 0} {result : Result T DiskError} {call : Call}
      {wanted : List TreeNode → Result T DiskError} {a b : Option Past}
      → Called result call wanted a b → IsWithin home call → MakesAt making made Done call
      → Does home making made a b
  does_call {result = Ok v} {call} {wanted} {a} {b} took within makes = record {
    grown = grown_map a b _ _ (done_grown v call wanted a b took.goes) (λ s es is.
        subst (AllOwn (IsOurs home making made)) (sym is.1)
        (own_step (IsOurs home making made) is.0 call Done (within, makes)));
  }
  does_call {result = Err e} took within makes = does_refused took within

-- what is changed inside one folder is elsewhere for another one
module _ (shape : Shape) (home : List ℕ → Bool)
    (apart : (x : List ℕ) → home x ≡ true → shape.home x ≡ false) where
  call_elsewhere : (call : Call) → IsWithin home call → IsElsewhere shape call
  call_elsewhere (ListDir dir) is = tt
  call_elsewhere (StatPath p) is = tt
  call_elsewhere (ReadFront p size) is = tt
  call_elsewhere (ReadAll p limit) is = tt
  call_elsewhere (Create p) is = apart p is
  call_elsewhere (WriteAt p from piece) is = apart p is
  call_elsewhere (Cut p size) is = apart p is
  call_elsewhere (Sync p) is = apart p is
  call_elsewhere (Rename from to) is = (apart from is.0, apart to is.1)
  call_elsewhere (Remove p) is = apart p is
  call_elsewhere (SyncDir dir) is = tt
  call_elsewhere (MakeDir p) is = apart p is

  pub all_elsewhere : (making : List ℕ → Option (List ℕ)) (made : Option (List ℕ))
      (entries : List Entry) → AllOwn (IsOurs home making made) entries → AreElsewhere shape entries
  all_elsewhere making made [] is = tt
  all_elsewhere making made (Own call Done ∷ entries) is =
      (call_elsewhere call is.0.0, all_elsewhere making made entries is.1)
  all_elsewhere making made (Own call (Refused why wrote) ∷ entries) is = (
    λ changed. call_elsewhere call (is.0.0 changed),
    all_elsewhere making made entries is.1,
  )
  all_elsewhere making made (Others action ∷ entries) is = all_elsewhere making made entries is
