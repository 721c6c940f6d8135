-- By which calls the making of a folder goes on, and what they do not bring about.
use Rattle.std.proofs.Common.{◌≡◌, ◌∷◌, ◌++◌, [], ℕ, List, Option, Result}
use Rattle.std.proofs.Common.{Ok, Err, inl, inr, map, refl, subst, sym}
use Rattle.disk_model.specs.Journal.{Action, Answer, Call, Create, Cut, Done, Entry, ListDir}
use Rattle.disk_model.specs.Journal.{MakeDir, Others, Own, Past, ReadAll, ReadFront, Refused}
use Rattle.disk_model.specs.Journal.{Remove}
use Rattle.disk_model.specs.Journal.{Rename, StatPath, Sync, SyncDir, WriteAt}
use Rattle.disk_model.specs.Judge.{Called, GoesOn, Grows}
use Rattle.disk_model.specs.State.{State}
use Rattle.disk_model.specs.Tree.{TreeNode, folder_of}
use Rattle.disk_model.specs.declared.answers.DiskError.{DiskError}
use Rattle.folder_core.proofs.SeenLemmas.{goes_as}
use Rattle.folder_changes.specs.Calls.{AreCalls, GoesBy}
use Rattle.folder_changes.specs.Refused.{refuses}
use Rattle.folder_changes.proofs.TraceLemmas.{IsUnmade}
use Rattle.folder_stops.specs.Does.{AllOwn}
use Rattle.folder_stops.proofs.Along.{IsRefused, done_grown, grown_map, grown_none, grown_then}
use Rattle.folder_stops.proofs.Along.{refused_grown}
use Rattle.folder_stops.proofs.Does.{own_append}
use Rattle.folder_makes.specs.Parts.{IsMaking, MakesBy}
use Rattle.folder_drivers.proofs.NodeLemmas.{KeepsFolder, Leaves, Unmakes, created_leaves}
use Rattle.folder_drivers.proofs.NodeLemmas.{folder_left, folder_unmade, kept_leaves, made_keeps}
use Rattle.folder_drivers.proofs.NodeLemmas.{made_leaves, make_unmade}

pub own_step : (Q : Call → Answer → Type 0) (actions : List Action) (call : Call) (answer : Answer)
    → Q call answer → AllOwn Q (map Others actions ++ Own call answer ∷ [])
own_step Q [] call answer is = (is, tt)
own_step Q (action ∷ actions) call answer is = own_step Q actions call answer is

pub own_as : (P Q : Call → Answer → Type 0) (entries : List Entry)
    → ((call : Call) (answer : Answer) → P call answer → Q call answer) → AllOwn P entries
    → AllOwn Q entries
own_as P Q [] turns all = tt
own_as P Q (Own call answer ∷ entries) turns all =
    (turns call answer all.0, own_as P Q entries turns all.1)
own_as P Q (Others action ∷ entries) turns all = own_as P Q entries turns all

own_refused : (Q : Call → Answer → Type 0) (call : Call) (s : State) (es : List Entry)
    → ((answer : Answer) → Q call answer) → IsRefused call s es → AllOwn Q es
own_refused Q call s es is (inl none) = subst (AllOwn Q) (sym none) tt
own_refused Q call s es is (inr some) =
    subst (AllOwn Q) (sym some.3)
    (own_step Q some.0 call (Refused some.1 some.2) (is (Refused some.1 some.2)))

-- one kind of calls for another
making_as : (D F E G : List ℕ → Type 0) → ((p : List ℕ) → D p → E p)
    → ((p : List ℕ) → F p → G p) → (call : Call) → IsMaking D F call → IsMaking E G call
making_as D F E G dirs files (ListDir dir) is = tt
making_as D F E G dirs files (StatPath path) is = is
making_as D F E G dirs files (ReadFront path size) is = is
making_as D F E G dirs files (ReadAll path limit) is = is
making_as D F E G dirs files (Create path) is = files path is
making_as D F E G dirs files (WriteAt path at piece) is = is
making_as D F E G dirs files (Cut path size) is = is
making_as D F E G dirs files (Sync path) is = is
making_as D F E G dirs files (Rename from to) is = is
making_as D F E G dirs files (Remove path) is = is
making_as D F E G dirs files (SyncDir dir) is = tt
making_as D F E G dirs files (MakeDir path) is = dirs path is

pub by_as : (D F E G : List ℕ → Type 0) {a b : Option Past} → ((p : List ℕ) → D p → E p)
    → ((p : List ℕ) → F p → G p) → MakesBy D F a b → MakesBy E G a b
by_as D F E G {a} {b} dirs files by = record {
  grown = grown_map a b _ _ by.grown (λ s es all.
      own_as (λ call answer. IsMaking D F call) (λ call answer. IsMaking E G call) es
      (λ call answer is. making_as D F E G dirs files call is) all);
}

module _ (D F : List ℕ → Type 0) where
  abbrev Is : Call → Answer → Type 0
  Is call answer = IsMaking D F call

  pub by_none : (a : Option Past) → MakesBy D F a a
  by_none a = record { grown = grown_none a _ (λ s. tt) }

  pub by_call : {T : Type 0} (result : Result T DiskError) {call : Call}
      {wanted : List TreeNode → Result T DiskError} {a b : Option Past} → IsMaking D F call
      → Called result call wanted a b → MakesBy D F a b
  by_call (Ok v) {call} {wanted} {a} {b} is took = record {
    grown = grown_map a b _ _ (done_grown v call wanted a b took.goes) (λ s es done.
        subst (AllOwn Is) (sym done.1) (own_step Is done.0 call Done is));
  }
  by_call (Err e) {call} {wanted} {a} {b} is took = record {
    grown = grown_map a b _ _ (refused_grown e call wanted a b took.goes) (λ s es refused.
        own_refused Is call s es (λ answer. is) refused);
  }

  pub by_then : {a b c : Option Past} → MakesBy D F a b → MakesBy D F b c → MakesBy D F a c
  by_then {a} {b} {c} first rest = record {
    grown = grown_then a b c _ _ _ first.grown rest.grown (λ s xs ys one two.
        own_append Is xs ys one two);
  }

  are_calls : (entries : List Entry) → AllOwn Is entries → AreCalls (IsMaking D F) entries
  are_calls [] all = tt
  are_calls (Own call answer ∷ entries) all = (inr all.0, are_calls entries all.1)
  are_calls (Others action ∷ entries) all = are_calls entries all

  pub goes_by : (a b : Option Past) → MakesBy D F a b → GoesOn (GoesBy (IsMaking D F)) a b
  goes_by a b by = goes_as a b (λ p q grown. record {
    same_first = grown.same_first;
    more = grown.more;
    journal = grown.journal;
    calls = are_calls grown.more grown.along;
  }) by.grown

  pub by_grows : (a b : Option Past) → MakesBy D F a b → Grows a b
  by_grows a b by = goes_as a b (λ p q grown. record {
    same_first = grown.same_first;
    more = grown.more;
    journal = grown.journal;
  }) by.grown

  -- What they do not bring about.

  -- none of them makes what is made at this path, or a file in place of its folder
  pub record IsFresh (path : List ℕ) : Type 0 where
    pub dirs : (d : List ℕ) → D d → d ≡ path → ⊥
    pub files : (f : List ℕ) → F f → f ≡ path → ⊥
    pub around : (f : List ℕ) → F f → f ≡ folder_of path → ⊥

  -- they do not bring about that a call is refused
  abbrev pub IsQuiet : Call → Type 0
  IsQuiet (ListDir dir) = (f : List ℕ) → F f → f ≡ dir → ⊥
  IsQuiet (SyncDir dir) = (f : List ℕ) → F f → f ≡ dir → ⊥
  IsQuiet (MakeDir path) = IsFresh path
  IsQuiet (Create path) = IsFresh path
  IsQuiet call = ⊥

  read_leaves : (path : List ℕ) (limit : ℕ) (q : List ℕ) → Leaves (ReadAll path limit) q
  read_leaves path limit q Done state = refl
  read_leaves path limit q (Refused why wrote) state = refl

  list_leaves : (dir q : List ℕ) → Leaves (ListDir dir) q
  list_leaves dir q Done state = refl
  list_leaves dir q (Refused why wrote) state = refl

  keeps_folder : (q : List ℕ) → ((f : List ℕ) → F f → f ≡ q → ⊥) → (call : Call)
      → IsMaking D F call → KeepsFolder call q
  keeps_folder q apart (ListDir dir) is = folder_left (ListDir dir) q (list_leaves dir q)
  keeps_folder q apart (StatPath path) is = absurd is
  keeps_folder q apart (ReadFront path size) is = absurd is
  keeps_folder q apart (ReadAll path limit) is =
      folder_left (ReadAll path limit) q (read_leaves path limit q)
  keeps_folder q apart (Create path) is =
      folder_left (Create path) q (created_leaves path q (apart path is))
  keeps_folder q apart (WriteAt path at piece) is = absurd is
  keeps_folder q apart (Cut path size) is = absurd is
  keeps_folder q apart (Sync path) is = absurd is
  keeps_folder q apart (Rename from to) is = absurd is
  keeps_folder q apart (Remove path) is = absurd is
  keeps_folder q apart (SyncDir dir) is = folder_left (SyncDir dir) q (kept_leaves dir q)
  keeps_folder q apart (MakeDir path) is = made_keeps path q

  leaves_path : (q : List ℕ) → IsFresh q → (call : Call) → IsMaking D F call → Leaves call q
  leaves_path q fresh (ListDir dir) is = list_leaves dir q
  leaves_path q fresh (StatPath path) is = absurd is
  leaves_path q fresh (ReadFront path size) is = absurd is
  leaves_path q fresh (ReadAll path limit) is = read_leaves path limit q
  leaves_path q fresh (Create path) is = created_leaves path q (fresh.files path is)
  leaves_path q fresh (WriteAt path at piece) is = absurd is
  leaves_path q fresh (Cut path size) is = absurd is
  leaves_path q fresh (Sync path) is = absurd is
  leaves_path q fresh (Rename from to) is = absurd is
  leaves_path q fresh (Remove path) is = absurd is
  leaves_path q fresh (SyncDir dir) is = kept_leaves dir q
  leaves_path q fresh (MakeDir path) is = made_leaves path q (fresh.dirs path is)

  unmade_make : (path : List ℕ) → IsFresh path → (call : Call) → IsMaking D F call
      → Unmakes call (refuses (Create path))
  unmade_make path fresh call is =
      make_unmade call path (keeps_folder (folder_of path) fresh.around call is)
      (leaves_path path fresh call is)

  pub unmade : (later : Call) → IsQuiet later → IsUnmade (IsMaking D F) (refuses later)
  unmade (ListDir dir) quiet call answer state is not =
      folder_unmade call dir (keeps_folder dir quiet call is) answer state not
  unmade (SyncDir dir) quiet call answer state is not =
      folder_unmade call dir (keeps_folder dir quiet call is) answer state not
  unmade (MakeDir path) quiet call answer state is not =
      unmade_make path quiet call is answer state not
  unmade (Create path) quiet call answer state is not =
      unmade_make path quiet call is answer state not
  unmade (StatPath path) quiet call answer state is not = absurd quiet
  unmade (ReadFront path size) quiet call answer state is not = absurd quiet
  unmade (ReadAll path limit) quiet call answer state is not = absurd quiet
  unmade (WriteAt path at piece) quiet call answer state is not = absurd quiet
  unmade (Cut path size) quiet call answer state is not = absurd quiet
  unmade (Sync path) quiet call answer state is not = absurd quiet
  unmade (Rename from to) quiet call answer state is not = absurd quiet
  unmade (Remove path) quiet call answer state is not = absurd quiet
