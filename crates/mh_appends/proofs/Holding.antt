-- What a file of ours holds, call by call, while others leave it alone.
use Rattle.std.proofs.Common.{◌≡◌, ◌∙◌, ◌++◌, ◌+◌, ◌∷◌, [], ℕ, Bool, false, List, Option, Some}
use Rattle.std.proofs.Common.{None, ap, drop, get_or-set_same, if◌then◌else◌, inl, length}
use Rattle.std.proofs.Common.{map, option_and_then, refl, slice_set, subst, sym, take}
use Rattle.std.proofs.lemmas.Bool.{cond-true}
use Rattle.std.proofs.lemmas.List.{append-nil}
use Rattle.std.proofs.Math.Seq.{drop-nil}
use Rattle.std.specs.Str.{bytes_eq}
use Rattle.disk_model.specs.Journal.{Action, Answer, Call, Create, Done, Entry, Others, Own, Past}
use Rattle.disk_model.specs.Journal.{Rename, Sync, WriteAt}
use Rattle.disk_model.specs.State.{File, Name, State, after_done, after_entry, changed}
use Rattle.disk_model.specs.State.{durable, file_at, moved, name_at, name_in, run_entries, settled}
use Rattle.disk_model.specs.State.{synced}
use Rattle.disk_model.specs.State.{tree_of, with_made, without, written}
use Rattle.disk_model.specs.Tree.{is_root}
use Rattle.disk_model.proofs.Runs.{run_entries-append}
use Rattle.disk_model.proofs.Trees.{node_at-tree_of, node_by}
use Rattle.folder_core.specs.Directory.{file_at as file_in, node_file}
use Rattle.folder_drivers.proofs.Sturdy.{Sturdy, all_paths, sturdy_entry, sturdy_run}
use Rattle.folder_drivers.proofs.Touching.{Misses, own_same, same_node}
use Rattle.folder_stops.specs.Along.{Allows, Grown}
use Rattle.folder_stops.specs.Does.{AllOwn}
use Rattle.folder_stops.specs.Others.{SparesPath}
use Rattle.folder_stops.proofs.Along.{allows_left, allows_right, done_grown, grown_map, grown_then}
use Rattle.folder_stops.proofs.Rows.{named}
use Rattle.folder_stops.proofs.Sides.{spared}
use Rattle.folder_stops.proofs.Steps.{file_last}
use Rattle.folder_stops.proofs.Words.{found, same}
use Rattle.mh_appends.specs.Replacing.{WasDone, WroteFile}

-- the bytes of the file with this name
abbrev pub bytes_by : List File → Option (Option ℕ) → Option (List ℕ)
bytes_by files None = None
bytes_by files (Some None) = None
bytes_by files (Some (Some n)) = Some (file_at files n).bytes

by_name : (files : List File) (path : List ℕ) (at : Option (Option ℕ))
    → option_and_then node_file (node_by files path at) ≡ bytes_by files at
by_name files path None = refl
by_name files path (Some None) = refl
by_name files path (Some (Some n)) = refl

pub bytes_in : (s : State) (path : List ℕ) → file_in (tree_of s) path
    ≡ bytes_by s.files (name_at s.names path)
bytes_in s path = ap (option_and_then node_file) (node_at-tree_of s path)
    ∙ by_name s.files path (name_at s.names path)

-- A file of these bytes has the name.
record HasBytes (path bytes : List ℕ) (s : State) : Type 0 where
  n : ℕ
  at : name_at s.names path ≡ Some (Some n)
  bytes_are : (file_at s.files n).bytes ≡ bytes

none_some : {A : Type 0} (x : A) → ◌≡◌ {A = Option A} None (Some x) → ⊥
none_some x e = cc

some_same : (x y : List ℕ) → ◌≡◌ {A = Option (List ℕ)} (Some x) (Some y) → x ≡ y
some_same x y e = cc

has_bytes : (path bytes : List ℕ) (s : State) → file_in (tree_of s) path ≡ Some bytes
    → HasBytes path bytes s
has_bytes path bytes s is = by (name_at s.names path) refl (sym (bytes_in s path) ∙ is)
  where
    by : (at : Option (Option ℕ)) → name_at s.names path ≡ at
        → bytes_by s.files (name_at s.names path) ≡ Some bytes → HasBytes path bytes s
    by None e some = absurd (none_some bytes (sym (ap (bytes_by s.files) e) ∙ some))
    by (Some None) e some = absurd (none_some bytes (sym (ap (bytes_by s.files) e) ∙ some))
    by (Some (Some n)) e some = record {
      n = n;
      at = e;
      bytes_are = some_same _ bytes (sym (ap (bytes_by s.files) e) ∙ some);
    }

holds_bytes : (path bytes : List ℕ) (s : State) (n : ℕ) → name_at s.names path ≡ Some (Some n)
    → (file_at s.files n).bytes ≡ bytes → file_in (tree_of s) path ≡ Some bytes
holds_bytes path bytes s n at are =
    bytes_in s path ∙ ap (bytes_by s.files) at ∙ ap Some are

-- Our own calls.

first_name : (path : List ℕ) (n : ℕ) (names : List Name) → is_root path ≡ false
    → name_at (named path n ∷ names) path ≡ Some (Some n)
first_name path n names no_root =
    ap (λ (root : Bool). if root then Some None else name_in (named path n ∷ names) path) no_root
    ∙ cond-true (bytes_eq path path) (Some (Some n)) (name_in names path) (same path)

pub created : (path : List ℕ) (s : State) → is_root path ≡ false
    → file_in (tree_of (after_done (Create path) s)) path ≡ Some []
created path s no_root =
    holds_bytes path [] (with_made path [] s) (length s.files)
    (first_name path (length s.files) s.names no_root)
    (ap (λ (f : File). f.bytes) (file_last s.files (durable [] s.clock)))

set_bytes : (path bytes : List ℕ) (n : ℕ) (file : File) (clock' : ℕ) (s : State) → Sturdy s
    → name_at s.names path ≡ Some (Some n) → file.bytes ≡ bytes
    → file_in (tree_of (record s { files = slice_set s.files n file; clock = clock' })) path
    ≡ Some bytes
set_bytes path bytes n file clock' s sturdy at are =
    holds_bytes path bytes (record s { files = slice_set s.files n file; clock = clock' }) n at
    (ap (λ (f : File). f.bytes) (get_or-set_same s.files n file (durable [] 0)
    (sturdy.below s.names (named path n) n (inl refl) (found path s.names n at) refl)) ∙ are)

pub wrote : (path bytes : List ℕ) (s : State) → Sturdy s → file_in (tree_of s) path ≡ Some []
    → file_in (tree_of (after_done (WriteAt path 0 bytes) s)) path ≡ Some bytes
wrote path bytes s sturdy is =
    let has = has_bytes path [] s is in
    subst (λ (o : Option (Option ℕ)). file_in (tree_of (changed o (written 0 bytes) s)) path
    ≡ Some bytes) (sym has.at)
    (set_bytes path bytes has.n (written 0 bytes s.clock (file_at s.files has.n)) (s.clock + 1) s
    sturdy has.at
    (ap (λ (l : List ℕ). (take 0 (l ++ []) ++ bytes) ++ drop (0 + length bytes) l) has.bytes_are
    ∙ ap (λ (l : List ℕ). bytes ++ l) (drop-nil (0 + length bytes)) ∙ append-nil bytes))

pub put_down : (path bytes : List ℕ) (s : State) → Sturdy s
    → file_in (tree_of s) path ≡ Some bytes
    → file_in (tree_of (after_done (Sync path) s)) path ≡ Some bytes
put_down path bytes s sturdy is =
    let has = has_bytes path bytes s is in
    subst (λ (o : Option (Option ℕ)). file_in (tree_of (settled o s)) path ≡ Some bytes)
    (sym has.at)
    (set_bytes path bytes has.n (synced (file_at s.files has.n)) s.clock s sturdy has.at
    has.bytes_are)

pub moved_to : (from to bytes : List ℕ) (s : State) → is_root to ≡ false
    → file_in (tree_of s) from ≡ Some bytes
    → file_in (tree_of (after_done (Rename from to) s)) to ≡ Some bytes
moved_to from to bytes s no_root is =
    let has = has_bytes from bytes s is in
    subst (λ (o : Option (Option ℕ)). file_in (tree_of (moved o from to s)) to ≡ Some bytes)
    (sym has.at)
    (holds_bytes to bytes (moved (Some (Some has.n)) from to s) has.n
    (first_name to has.n (without to (without from s.names)) no_root) has.bytes_are)

-- Along entries.

-- others leave the file at the path alone
abbrev pub Spared : List ℕ → List Entry → State → Type 0
Spared path entries s = Allows (λ action s. SparesPath path action) entries s

-- what others may do is less
pub allows_as : (P Q : Action → State → Type 0) → ((action : Action) (s : State) → P action s
    → Q action s) → (entries : List Entry) (s : State) → Allows P entries s → Allows Q entries s
allows_as P Q f [] s all = tt
allows_as P Q f (Own call answer ∷ entries) s all =
    allows_as P Q f entries (after_entry s (Own call answer)) all
allows_as P Q f (Others action ∷ entries) s all =
    (f action s all.0, allows_as P Q f entries (after_entry s (Others action)) all.1)

-- the file has these bytes behind the entries, where it has others before
abbrev pub Becomes : List ℕ → Option (List ℕ) → Option (List ℕ) → State → List Entry → Type 0
Becomes path from to s entries = Sturdy s → Spared path entries s
    → file_in (tree_of s) path ≡ from → file_in (tree_of (run_entries entries s)) path ≡ to

module _ (path : List ℕ) where
  pub becomes_then : {from mid to : Option (List ℕ)} (s : State) (xs ys : List Entry)
      → Becomes path from mid s xs → Becomes path mid to (run_entries xs s) ys
      → Becomes path from to s (xs ++ ys)
  becomes_then {from} {mid} {to} s xs ys first next sturdy spared is =
      ap (λ (t : State). file_in (tree_of t) path) (run_entries-append xs ys s)
      ∙ next (sturdy_run xs s sturdy) (allows_right _ xs ys s spared)
      (first sturdy (allows_left _ xs ys s spared) is)

  -- what others do leaves it
  others_same : (action : Action) (s : State) → Sturdy s → SparesPath path action
      → file_in (tree_of (after_entry s (Others action))) path ≡ file_in (tree_of s) path
  others_same action s sturdy spares =
      let is = spared all_paths path action s spares sturdy in
      ap (option_and_then node_file)
      (same_node path s (after_entry s (Others action)) (record { name = is.name; file = is.file }))

  -- and so does a call of ours elsewhere
  pub own_stays : (call : Call) (answer : Answer) (s : State) → Sturdy s → Misses path call
      → file_in (tree_of (after_entry s (Own call answer))) path ≡ file_in (tree_of s) path
  own_stays call answer s sturdy misses =
      ap (option_and_then node_file)
      (same_node path s (after_entry s (Own call answer))
      (own_same path call answer s sturdy misses))

  -- entries in which our own calls are elsewhere
  pub stays_along : {bytes : Option (List ℕ)} (entries : List Entry) (s : State)
      → AllOwn (λ call answer. Misses path call) entries → Becomes path bytes bytes s entries
  stays_along [] s all sturdy spared is = is
  stays_along (Own call answer ∷ entries) s all sturdy spared is =
      stays_along entries (after_entry s (Own call answer)) all.1
      (sturdy_entry (Own call answer) s sturdy) spared
      (own_stays call answer s sturdy all.0 ∙ is)
  stays_along (Others action ∷ entries) s all sturdy spared is =
      stays_along entries (after_entry s (Others action)) all
      (sturdy_entry (Others action) s sturdy) spared.1
      (others_same action s sturdy spared.0 ∙ is)

  -- one call of ours behind what others do
  step_becomes : {from to : Option (List ℕ)} (call : Call) (actions : List Action) (s : State)
      → ((t : State) → Sturdy t → file_in (tree_of t) path ≡ from
      → file_in (tree_of (after_done call t)) path ≡ to)
      → Becomes path from to s (map Others actions ++ Own call Done ∷ [])
  step_becomes call [] s does sturdy spared is = does s sturdy is
  step_becomes call (action ∷ actions) s does sturdy spared is =
      step_becomes call actions (after_entry s (Others action)) does
      (sturdy_entry (Others action) s sturdy) spared.1
      (others_same action s sturdy spared.0 ∙ is)

  pub done_becomes : {from to : Option (List ℕ)} {call : Call} (a b : Option Past)
      → WasDone call a b
      → ((t : State) → Sturdy t → file_in (tree_of t) path ≡ from
      → file_in (tree_of (after_done call t)) path ≡ to)
      → Grown a b (λ s es. Becomes path from to s es)
  done_becomes {from} {to} {call} a b took does =
      grown_map a b _ _ (done_grown tt call _ a b took.goes)
      (λ s es is. subst (λ (l : List Entry). Becomes path from to s l) (sym is.1)
      (step_becomes call is.0 s does))

  pub both_become : (from mid to : Option (List ℕ)) (a b c : Option Past)
      → Grown a b (λ s es. Becomes path from mid s es)
      → Grown b c (λ s es. Becomes path mid to s es)
      → Grown a c (λ s es. Becomes path from to s es)
  both_become from mid to a b c first next = grown_then a b c _ _ _ first next
      (λ s xs ys one two. becomes_then {from = from} {mid = mid} {to = to} s xs ys one two)

  -- The file has these bytes behind the entries, whatever stood there before.
  abbrev pub Gets : List ℕ → State → List Entry → Type 0
  Gets bytes s entries = Sturdy s → Spared path entries s
      → file_in (tree_of (run_entries entries s)) path ≡ Some bytes

  pub gets_then : (bytes more : List ℕ) (s : State) (xs ys : List Entry) → Gets bytes s xs
      → Becomes path (Some bytes) (Some more) (run_entries xs s) ys → Gets more s (xs ++ ys)
  gets_then bytes more s xs ys first next sturdy spared =
      ap (λ (t : State). file_in (tree_of t) path) (run_entries-append xs ys s)
      ∙ next (sturdy_run xs s sturdy) (allows_right _ xs ys s spared)
      (first sturdy (allows_left _ xs ys s spared))

  -- and whatever came before
  pub gets_behind : (bytes : List ℕ) (s : State) (xs ys : List Entry)
      → Gets bytes (run_entries xs s) ys → Gets bytes s (xs ++ ys)
  gets_behind bytes s xs ys next sturdy spared =
      ap (λ (t : State). file_in (tree_of t) path) (run_entries-append xs ys s)
      ∙ next (sturdy_run xs s sturdy) (allows_right _ xs ys s spared)

  step_gets : {bytes : List ℕ} (call : Call) (actions : List Action) (s : State)
      → ((t : State) → file_in (tree_of (after_done call t)) path ≡ Some bytes)
      → Gets bytes s (map Others actions ++ Own call Done ∷ [])
  step_gets call [] s does sturdy spared = does s
  step_gets call (action ∷ actions) s does sturdy spared =
      step_gets call actions (after_entry s (Others action)) does
      (sturdy_entry (Others action) s sturdy) spared.1

  -- a file that was written has its bytes
  pub wrote_gets : (bytes : List ℕ) (a b : Option Past) → is_root path ≡ false
      → WroteFile path bytes a b → Grown a b (λ s es. Gets bytes s es)
  wrote_gets bytes a b no_root is =
      grown_then a is.made b _ _ _
      (grown_map a is.made _ (λ s es. Gets [] s es)
      (done_grown tt (Create path) _ a is.made is.creates.goes)
      (λ s es done. subst (λ (l : List Entry). Gets [] s l) (sym done.1)
      (step_gets (Create path) done.0 s (λ t. created path t no_root))))
      (both_become (Some []) (Some bytes) (Some bytes) is.made is.wrote b
      (done_becomes is.made is.wrote is.writes (λ t sturdy e. wrote path bytes t sturdy e))
      (done_becomes is.wrote b is.syncs (λ t sturdy e. put_down path bytes t sturdy e)))
      (λ s xs ys first next. gets_then [] bytes s xs ys first next)
