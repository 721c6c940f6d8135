-- What the steps of an append do to the messages.
use Rattle.std.proofs.Common.{◌≡◌, ◌≢◌, ◌∙◌, ◌++◌, ◌∷◌, [], ℕ, Bool, true, false, List, Option}
use Rattle.std.proofs.Common.{Some}
use Rattle.std.proofs.Common.{None, Ok, ap, if◌then◌else◌, inl, inr, map}
use Rattle.std.proofs.Common.{option_and_then, option_map, refl, subst, sym, unwrap_or, ⊎_elim, ◌⊎◌}
use Rattle.std.proofs.lemmas.Bool.{cond-false}
use Rattle.std.specs.Prelude.{codes}
use Rattle.std.specs.Fmt.{decimal}
use Rattle.std.specs.Str.{bytes_eq}
use Rattle.mail_base.specs.declared.kind.Kind.TheVariants.{Mh}
use Rattle.disk_model.specs.Journal.{Action, Answer, Call, Create, Done, Entry, ListDir, Others}
use Rattle.disk_model.specs.Journal.{Own}
use Rattle.disk_model.specs.Journal.{Cut, MakeDir, Past, ReadAll, ReadFront, Remove, Rename}
use Rattle.disk_model.specs.Journal.{StatPath, Sync}
use Rattle.disk_model.specs.Journal.{SyncDir, WriteAt}
use Rattle.disk_model.specs.Judge.{done_by}
use Rattle.disk_model.specs.State.{Name, State, after_done, after_entry, name_in}
use Rattle.disk_model.specs.State.{run_entries, tree_of}
use Rattle.disk_model.specs.Tree.{is_root}
use Rattle.folder_core.specs.Directory.{file_at, is_name, path_in}
use Rattle.folder_core.specs.Mh.{is_number, message_at, message_of, mh_reads, number_at}
use Rattle.folder_core.specs.Mh.{sequences_at, sequences_path}
use Rattle.folder_core.specs.MhSequences.{mh_flags}
use Rattle.folder_core.proofs.KindsLemmas.{number_is_name}
use Rattle.folder_core.proofs.NamesIn.{path_is_in}
use Rattle.folder_changes.specs.Worked.{nothing_wanted}
use Rattle.folder_drivers.specs.AppendRow.{GainsOne, lacks}
use Rattle.folder_drivers.specs.MhAppend.{LeavesMessages, number_path, numbered}
use Rattle.folder_drivers.specs.MhAppend.{place_call, put_call}
use Rattle.folder_drivers.specs.MhNames.{append_path, new_sequences_path}
use Rattle.folder_drivers.specs.MhSync.{reflagged}
use Rattle.folder_drivers.proofs.MhCalls.{LeavesBy, MissesFolder, file_stays, folder_stays}
use Rattle.folder_drivers.proofs.MhCalls.{misses_leaves, no_folder, stays_alike}
use Rattle.folder_drivers.proofs.MhMessages.{gains_reads, message_same, placed_reads, same_reads}
use Rattle.folder_drivers.proofs.Sturdy.{Sturdy, sturdy_after, sturdy_entry}
use Rattle.folder_drivers.proofs.Touching.{Misses}
use Rattle.folder_shapes.specs.Mh.{is_message}
use Rattle.folder_drivers.specs.Recovered.{TakesSide}
use Rattle.folder_stops.specs.Along.{Grown}
use Rattle.folder_stops.specs.Does.{AllOwn}
use Rattle.mh_appends.specs.Leftovers.{IsPreparing}
use Rattle.folder_stops.specs.Words.{Among}
use Rattle.folder_stops.proofs.Verdicts.{was_free}
use Rattle.folder_stops.proofs.Words.{apart, cases_path}
use Rattle.mh_appends.proofs.Holding.{bytes_by, bytes_in, created, moved_to}
use Rattle.mh_appends.proofs.Paths.{name_once, not_number, sequences_differ, sides_differ}

-- Entries that leave the messages.

pub all_leave : (path : List ℕ) (entries : List Entry) (s : State)
    → AllOwn (λ call answer. LeavesBy path call answer) entries → Sturdy s
    → LeavesMessages path s entries
all_leave path [] s all sturdy = tt
all_leave path (Own call answer ∷ entries) s all sturdy = (
  all.0 s sturdy,
  all_leave path entries (after_entry s (Own call answer)) all.1
      (sturdy_entry (Own call answer) s sturdy),
)
all_leave path (Others action ∷ entries) s all sturdy =
    all_leave path entries (after_entry s (Others action)) all
    (sturdy_entry (Others action) s sturdy)

pub leaves_then : (path : List ℕ) (s : State) (xs ys : List Entry) → LeavesMessages path s xs
    → LeavesMessages path (run_entries xs s) ys → LeavesMessages path s (xs ++ ys)
leaves_then path s [] ys first rest = rest
leaves_then path s (Own call answer ∷ xs) ys first rest =
    (first.0, leaves_then path (after_entry s (Own call answer)) xs ys first.1 rest)
leaves_then path s (Others action ∷ xs) ys first rest =
    leaves_then path (after_entry s (Others action)) xs ys first rest

pub others_leave : (path : List ℕ) (actions : List Action) (s : State)
    → LeavesMessages path s (map Others actions)
others_leave path [] s = tt
others_leave path (action ∷ actions) s =
    others_leave path actions (after_entry s (Others action))

-- Our calls at names that are no messages'.

-- A name of a file beside the messages and the sequences.
pub record IsBeside (name : List ℕ) : Type 0 where
  pub named : is_name name ≡ true
  pub no_number : is_number name ≡ false
  pub other : name ≢ codes ".mh_sequences"

differ : (a b : List ℕ) → bytes_eq a b ≡ false → bytes_eq b b ≡ true → a ≢ b
differ a b unlike like e =
    let is : bytes_eq a b ≡ true = ap (λ (n : List ℕ). bytes_eq n b) e ∙ like in cc

pub append_beside : IsBeside (codes ".mutt_append")
append_beside = record {
  named = refl;
  no_number = refl;
  other = differ (codes ".mutt_append") (codes ".mh_sequences") refl refl;
}

pub sequences_beside : IsBeside (codes ".mh_sequences.new")
sequences_beside = record {
  named = refl;
  no_number = refl;
  other = differ (codes ".mh_sequences.new") (codes ".mh_sequences") refl refl;
}

module _ (path name : List ℕ) (is : IsBeside name) where
  pub not_folder : path_in path name ≢ path
  not_folder = no_folder path name is.named

  pub no_message : (key : List ℕ) → is_number key ≡ true → path_in path name ≢ path_in path key
  no_message key number = not_number path key name number is.no_number

  pub no_sequences : path_in path name ≢ sequences_path path
  no_sequences e = is.other (name_once path name (codes ".mh_sequences") e)

  pub create_leaves : (answer : Answer) → LeavesBy path (Create (path_in path name)) answer
  create_leaves = misses_leaves path (Create (path_in path name))
      (record { folder = not_folder; numbers = no_message }) no_sequences

  pub write_leaves : (bytes : List ℕ) (answer : Answer)
      → LeavesBy path (WriteAt (path_in path name) 0 bytes) answer
  write_leaves bytes = misses_leaves path (WriteAt (path_in path name) 0 bytes)
      (record { folder = not_folder; numbers = no_message }) no_sequences

  pub sync_leaves : (answer : Answer) → LeavesBy path (Sync (path_in path name)) answer
  sync_leaves = misses_leaves path (Sync (path_in path name))
      (record { folder = not_folder; numbers = no_message }) no_sequences

  pub remove_leaves : (answer : Answer) → LeavesBy path (Remove (path_in path name)) answer
  remove_leaves = misses_leaves path (Remove (path_in path name))
      (record { folder = not_folder; numbers = no_message }) no_sequences

module _ (path : List ℕ) where
  nothing_touched : (call : Call) → Misses path call
      → ((name : List ℕ) → is_number name ≡ true → Misses (path_in path name) call)
      → Misses (sequences_path path) call → (answer : Answer) → LeavesBy path call answer
  nothing_touched call folder numbers sequences =
      misses_leaves path call (record { folder = folder; numbers = numbers }) sequences

  pub list_leaves : (at : List ℕ) (answer : Answer) → LeavesBy path (ListDir at) answer
  list_leaves at = nothing_touched (ListDir at) tt (λ name number. tt) tt

  pub read_leaves : (at : List ℕ) (limit : ℕ) (answer : Answer)
      → LeavesBy path (ReadAll at limit) answer
  read_leaves at limit = nothing_touched (ReadAll at limit) tt (λ name number. tt) tt

  pub stat_leaves : (at : List ℕ) (answer : Answer) → LeavesBy path (StatPath at) answer
  stat_leaves at = nothing_touched (StatPath at) tt (λ name number. tt) tt

  pub keep_leaves : (at : List ℕ) (answer : Answer) → LeavesBy path (SyncDir at) answer
  keep_leaves at = nothing_touched (SyncDir at) tt (λ name number. tt) tt

  -- new sequences are put in place
  over_misses : MissesFolder path (put_call path)
  over_misses = record {
    folder = (
      not_folder path (codes ".mh_sequences.new") sequences_beside,
      no_folder path (codes ".mh_sequences") refl,
    );
    numbers = λ key number. (
      no_message path (codes ".mh_sequences.new") sequences_beside key number,
      not_number path key (codes ".mh_sequences") number refl,
    );
  }

  pub flags_alone : (s : State) → Sturdy s
      → mh_reads (tree_of (after_done (put_call path) s)) path
      ≡ option_map (reflagged (sequences_at (tree_of (after_done (put_call path) s)) path)
      nothing_wanted) (mh_reads (tree_of s) path)
  flags_alone s sturdy =
      placed_reads path (sequences_at (tree_of (after_done (put_call path) s)) path)
      nothing_wanted (tree_of s) (tree_of (after_done (put_call path) s))
      (stays_alike path (put_call path) Done s sturdy over_misses) (λ name number. refl)

  pub sequences_come : (bytes : List ℕ) (s : State)
      → file_at (tree_of s) (new_sequences_path path) ≡ Some bytes
      → sequences_at (tree_of (after_done (put_call path) s)) path ≡ bytes
  sequences_come bytes s is =
      ap (λ (o : Option (List ℕ)). unwrap_or o [])
      (moved_to (new_sequences_path path) (sequences_path path) bytes s
      (path_is_in path (codes ".mh_sequences") refl).no_root is)

  pub put_misses : Misses (append_path path) (put_call path)
  put_misses = (sides_differ path, sequences_differ path)

-- The number.

no_name : (path : List ℕ) (names : List Name) → ((x : Name) → Among x names → x.path ≢ path)
    → name_in names path ≡ None
no_name path [] free = refl
no_name path (x ∷ names) free =
    cond-false (bytes_eq x.path path) (Some x.file) (name_in names path)
    (apart x.path path (free x (inl refl)))
    ∙ no_name path names (λ y later. free y (inr later))

module _ (path : List ℕ) (number : ℕ) (is : is_number (decimal number) ≡ true) where
  abbrev held : List ℕ
  held = number_path path number

  held_root : is_root held ≡ false
  held_root = (path_is_in path (decimal number) (number_is_name (decimal number) is)).no_root

  held_folder : held ≢ path
  held_folder = no_folder path (decimal number) (number_is_name (decimal number) is)

  held_sequences : held ≢ sequences_path path
  held_sequences e = not_number path (decimal number) (codes ".mh_sequences") is refl (sym e)

  held_other : (name : List ℕ) → name ≢ decimal number → held ≢ path_in path name
  held_other name other e = other (sym (name_once path (decimal number) name e))

  not_there : (s : State) (v : Unit {0}) → Ok v ≡ done_by (Create held) (tree_of s)
      → file_at (tree_of s) held ≡ None
  not_there s v judged =
      bytes_in s held
      ∙ ap (bytes_by s.files)
      (ap (λ (root : Bool). if root then Some None else name_in s.names held) held_root
      ∙ no_name held s.names (was_free s held v judged))

  -- an empty file holds it, which is no message
  pub hold_leaves : (s : State) (v : Unit {0}) → Sturdy s
      → Ok v ≡ done_by (Create held) (tree_of s)
      → mh_reads (tree_of (after_done (Create held) s)) path ≡ mh_reads (tree_of s) path
  hold_leaves s v sturdy judged =
      same_reads path (tree_of s) (tree_of (after_done (Create held) s))
      (folder_stays path (Create held) Done s sturdy held_folder)
      (λ name numbered. ⊎_elim
      (λ (same : name ≡ decimal number). none_new name same ∙ sym (none_old name same))
      (λ (other : name ≢ decimal number).
      message_same path (tree_of s) (tree_of (after_done (Create held) s)) _ _ name
      (ap (λ (o : Option (List ℕ)). unwrap_or o [])
      (file_stays (sequences_path path) (Create held) Done s sturdy held_sequences))
      (file_stays (path_in path name) (Create held) Done s sturdy (held_other name other)))
      (cases_path name (decimal number)))
    where
      none_new : (name : List ℕ) → name ≡ decimal number
          → message_at (tree_of (after_done (Create held) s)) path
          (sequences_at (tree_of (after_done (Create held) s)) path) name ≡ None
      none_new name same =
          ap (option_and_then (message_of
          (sequences_at (tree_of (after_done (Create held) s)) path) name))
          (ap (λ (n : List ℕ). file_at (tree_of (after_done (Create held) s)) (path_in path n)) same
          ∙ created held s held_root)

      none_old : (name : List ℕ) → name ≡ decimal number
          → message_at (tree_of s) path (sequences_at (tree_of s) path) name ≡ None
      none_old name same =
          ap (option_and_then (message_of (sequences_at (tree_of s) path) name))
          (ap (λ (n : List ℕ). file_at (tree_of s) (path_in path n)) same ∙ not_there s v judged)

  message_stands : (order : number_at (decimal number) ≡ number) (sequences core : List ℕ)
      (file : Option (List ℕ)) → is_message core ≡ true → file ≡ Some core
      → option_and_then (message_of sequences (decimal number)) file ≡ Some (record {
        order = number;
        key = decimal number;
        flags = mh_flags sequences number;
        raw = core;
      })
  message_stands order sequences [] file counts there = absurd (cc)
  message_stands order sequences (b ∷ core) file counts there =
      ap (option_and_then (message_of sequences (decimal number))) there
      ∙ (λ i. Some (record {
        order = order i;
        key = decimal number;
        flags = mh_flags sequences (order i);
        raw = b ∷ core;
      }))

  -- the message is put in its place
  pub place_gains : (core : List ℕ) (s : State) → number_at (decimal number) ≡ number
      → is_message core ≡ true → Sturdy s
      → file_at (tree_of s) (append_path path) ≡ Some core
      → lacks (decimal number) (mh_reads (tree_of s) path)
      → GainsOne Mh (numbered path number core (tree_of (after_done (place_call path number) s)))
      (mh_reads (tree_of s) path)
      (mh_reads (tree_of (after_done (place_call path number) s)) path)
  place_gains core s order counts sturdy there none =
      gains_reads path (tree_of s) (tree_of (after_done (place_call path number) s))
      (numbered path number core (tree_of (after_done (place_call path number) s)))
      (folder_stays path (place_call path number) Done s sturdy
      (not_folder path (codes ".mutt_append") append_beside, held_folder))
      (ap (λ (o : Option (List ℕ)). unwrap_or o [])
      (file_stays (sequences_path path) (place_call path number) Done s sturdy
      (no_sequences path (codes ".mutt_append") append_beside, held_sequences)))
      is
      (message_stands order
      (sequences_at (tree_of (after_done (place_call path number) s)) path) core
      (file_at (tree_of (after_done (place_call path number) s)) held) counts
      (moved_to (append_path path) held core s held_root there))
      (λ name number' other. file_stays (path_in path name) (place_call path number) Done s sturdy
      (no_message path (codes ".mutt_append") append_beside name number', held_other name other))
      none

-- What comes before an append begins its message.

left_leaves : (path at : List ℕ) (answer : Answer)
    → (at ≡ new_sequences_path path) ⊎ (at ≡ append_path path) → LeavesBy path (Remove at) answer
left_leaves path at answer (inl is) =
    subst (λ (p : List ℕ). LeavesBy path (Remove p) answer) (sym is)
    (remove_leaves path (codes ".mh_sequences.new") sequences_beside answer)
left_leaves path at answer (inr is) =
    subst (λ (p : List ℕ). LeavesBy path (Remove p) answer) (sym is)
    (remove_leaves path (codes ".mutt_append") append_beside answer)

pub preparing_leaves : (path : List ℕ) (call : Call) (answer : Answer)
    → IsPreparing path call answer → LeavesBy path call answer
preparing_leaves path (ListDir at) answer is = list_leaves path at answer
preparing_leaves path (StatPath at) answer is = stat_leaves path at answer
preparing_leaves path (Remove at) answer is = left_leaves path at answer is
preparing_leaves path (ReadFront at size) answer is = absurd is
preparing_leaves path (ReadAll at limit) answer is = absurd is
preparing_leaves path (Create at) answer is = absurd is
preparing_leaves path (WriteAt at from piece) answer is = absurd is
preparing_leaves path (Cut at size) answer is = absurd is
preparing_leaves path (Sync at) answer is = absurd is
preparing_leaves path (Rename from to) answer is = absurd is
preparing_leaves path (SyncDir at) answer is = absurd is
preparing_leaves path (MakeDir at) answer is = absurd is

pub taking_prepares : (path : List ℕ) (call : Call) (answer : Answer)
    → TakesSide path call answer → IsPreparing path call answer
taking_prepares path (StatPath at) answer is = tt
taking_prepares path (Remove at) answer is = is
taking_prepares path (ListDir at) answer is = tt
taking_prepares path (ReadFront at size) answer is = absurd is
taking_prepares path (ReadAll at limit) answer is = absurd is
taking_prepares path (Create at) answer is = absurd is
taking_prepares path (WriteAt at from piece) answer is = absurd is
taking_prepares path (Cut at size) answer is = absurd is
taking_prepares path (Sync at) answer is = absurd is
taking_prepares path (Rename from to) answer is = absurd is
taking_prepares path (SyncDir at) answer is = absurd is
taking_prepares path (MakeDir at) answer is = absurd is

-- what is so of each of our calls
pub own_as : (P Q : Call → Answer → Type 0)
    → ((call : Call) (answer : Answer) → P call answer → Q call answer) → (es : List Entry)
    → AllOwn P es → AllOwn Q es
own_as P Q f [] all = tt
own_as P Q f (Own call answer ∷ es) all = (f call answer all.0, own_as P Q f es all.1)
own_as P Q f (Others action ∷ es) all = own_as P Q f es all

pub own_others : (Q : Call → Answer → Type 0) (actions : List Action)
    → AllOwn Q (map Others actions)
own_others Q [] = tt
own_others Q (action ∷ actions) = own_others Q actions

-- where each past's state is so, what is said of such states is said of it
pub grown_sturdy : (a b : Option Past) (P : State → List Entry → Type 0)
    → Grown a b (λ s es. Sturdy s → P s es) → Grown a b P
grown_sturdy None b P first = first
grown_sturdy (Some past) None P first = absurd first
grown_sturdy (Some past) (Some new) P first = record {
  same_first = first.same_first;
  more = first.more;
  journal = first.journal;
  along = first.along (sturdy_after past);
}
