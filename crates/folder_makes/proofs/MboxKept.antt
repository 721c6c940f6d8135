-- That the name of a mailbox in one file that is made is on the disk in the end.
use Rattle.std.proofs.Common.{◌≡◌, ◌∷◌, ◌∙◌, [], ℕ, Bool, true, false, List, None, Option}
use Rattle.std.proofs.Common.{Ok, Err, Result, Some, ap, length, map, refl, subst, sym}
use Rattle.std.specs.Prelude.{OnOk}
use Rattle.disk_model.specs.Journal.{Action, Answer, Appends, Call, Create, Cut, Done, Entry}
use Rattle.disk_model.specs.Journal.{ListDir, MakeDir, Others, Own, Past, Puts, ReadAll, ReadFront}
use Rattle.disk_model.specs.Journal.{Refused, Remove, Removes, Rename, Renames, StatPath, Sync}
use Rattle.disk_model.specs.Journal.{SyncDir, WriteAt, Writes}
use Rattle.disk_model.specs.Judge.{Called, done_by, read_of}
use Rattle.disk_model.specs.State.{File, State, after_action, after_entry, appended, changed}
use Rattle.disk_model.specs.State.{is_file, name_at, run_entries, tree_of}
use Rattle.disk_model.specs.declared.answers.Stat.{Stat}
use Rattle.disk_model.proofs.Runs.{run_entries-append}
use Rattle.folder_changes.specs.declared.sync_error.SyncError.{SyncError}
use Rattle.folder_stops.specs.Along.{Allows, Grown}
use Rattle.folder_stops.specs.Does.{AllOwn}
use Rattle.folder_stops.proofs.Along.{allows_left, allows_right, grown_map, grown_then}
use Rattle.folder_stops.proofs.Along.{grown_both, judged_grown}
use Rattle.folder_stops.proofs.Sounds.{sound_barrier, sound_made}
use Rattle.folder_tails.specs.Rows.{IsSound}
use Rattle.folder_tails.proofs.Names.{first_name}
use Rattle.folder_tails.proofs.Recovering.{file_read}
use Rattle.folder_tails.proofs.Same.{same_action, sound_action}
use Rattle.folder_drivers.specs.MboxMade.{MayDoThere}
use Rattle.folder_makes.specs.Parts.{EndsKept, IsKeptAt, IsMaking, LeavesKept, MakesBy, NamesKept}
use Rattle.folder_makes.specs.Parts.{Nowhere}
use Rattle.folder_makes.proofs.Leaving.{run_last}
use Rattle.folder_makes.proofs.MboxMade.{no_root_there, not_refused}

true_false : ◌≡◌ {A = Bool} true false → ⊥
true_false e = cc

names_changed : (change : ℕ → File → File) (s : State) (at : Option (Option ℕ))
    → (changed at change s).names ≡ s.names
names_changed change s None = refl
names_changed change s (Some None) = refl
names_changed change s (Some (Some n)) = refl

module _ (path : List ℕ) where
  -- others leave the name
  name_left : (action : Action) (s : State) → MayDoThere path action s → IsSound s
      → name_at (after_action action s).names path ≡ name_at s.names path
  name_left (Appends at piece) s may_do sound =
      ap (λ names. name_at names path)
      (names_changed (appended piece) s (name_at s.names at))
  name_left (Puts at bytes) s may_do sound =
      (same_action path (Puts at bytes) s may_do.0.1 sound).name
  name_left (Renames from to) s may_do sound =
      (same_action path (Renames from to) s may_do.0.1 sound).name
  name_left (Removes at) s may_do sound =
      (same_action path (Removes at) s may_do.0.1 sound).name
  name_left (Writes at bytes) s may_do sound =
      (same_action path (Writes at bytes) s may_do.0.1 sound).name

  -- the names stay sound, and the path has the name that it had
  abbrev Stays : State → State → Type 0
  Stays s t = IsSound t × (name_at t.names path ≡ name_at s.names path)

  name_kept : (call : Call) (answer : Answer) (s : State) → IsMaking Nowhere Nowhere call
      → IsSound s → Stays s (after_entry s (Own call answer))
  name_kept (ListDir dir) Done s is sound = (sound, refl)
  name_kept (ListDir dir) (Refused why wrote) s is sound = (sound, refl)
  name_kept (ReadAll at limit) Done s is sound = (sound, refl)
  name_kept (ReadAll at limit) (Refused why wrote) s is sound = (sound, refl)
  name_kept (SyncDir dir) Done s is sound = (sound_barrier (λ p. false) s sound, refl)
  name_kept (SyncDir dir) (Refused why wrote) s is sound = (sound, refl)
  name_kept (MakeDir at) answer s is sound = absurd is
  name_kept (Create at) answer s is sound = absurd is
  name_kept (StatPath at) answer s is sound = absurd is
  name_kept (ReadFront at size) answer s is sound = absurd is
  name_kept (WriteAt at from piece) answer s is sound = absurd is
  name_kept (Cut at size) answer s is sound = absurd is
  name_kept (Sync at) answer s is sound = absurd is
  name_kept (Rename from to) answer s is sound = absurd is
  name_kept (Remove at) answer s is sound = absurd is

  name_on : (es : List Entry) (s : State)
      → AllOwn (λ call answer. IsMaking Nowhere Nowhere call) es
      → Allows (MayDoThere path) es s → IsSound s → Stays s (run_entries es s)
  name_on [] s own all sound = (sound, refl)
  name_on (Own call answer ∷ es) s own all sound =
      let now = name_kept call answer s own.0 sound in
      let rest = name_on es (after_entry s (Own call answer)) own.1 all now.0 in
      (rest.0, rest.1 ∙ now.1)
  name_on (Others action ∷ es) s own all sound =
      let rest = name_on es (after_entry s (Others action)) own all.1
      (sound_barrier (λ p. false) (after_action action s) (sound_action action s sound)) in
      (rest.0, rest.1 ∙ name_left action s all.0 sound)

  others_on : (actions : List Action) (s : State)
      → Allows (MayDoThere path) (map Others actions) s → IsSound s
      → Stays s (run_entries (map Others actions) s)
  others_on actions s all sound = name_on (map Others actions) s (own actions) all sound
    where
      own : (actions : List Action)
          → AllOwn (λ call answer. IsMaking Nowhere Nowhere call) (map Others actions)
      own [] = tt
      own (action ∷ actions) = own actions

-- A file is made, and then its name is put on the disk.

-- a file stands there in the end, and the names are sound
abbrev IsMade : List ℕ → State → List Entry → Type 0
IsMade path s es = IsSound s → Allows (MayDoThere path) es s
    → IsSound (run_entries es s) × (is_file (name_at (run_entries es s).names path) ≡ true)

is_made : (path : List ℕ) (a b : Option Past)
    → Called (Ok tt) (Create path) (done_by (Create path)) a b → Grown a b (IsMade path)
is_made path a b took =
    grown_map a b _ _ (judged_grown tt (Create path) (done_by (Create path)) a b took.goes)
    (λ s es is sound all.
    let front = map Others is.0 in
    let own = Own (Create path) Done in
    let t = run_entries front s in
    let before = others_on path is.0 s (allows_left (MayDoThere path) front (own ∷ []) s
    (subst (λ (l : List Entry). Allows (MayDoThere path) l s) is.1 all)) sound in
    subst (λ (u : State). IsSound u × (is_file (name_at u.names path) ≡ true))
    (sym (ap (λ (l : List Entry). run_entries l s) is.1 ∙ run_last is.0 own s)) (
      sound_made (λ p. false) path [] t before.0,
      ap is_file (first_name path (Some (length t.files)) t.names
          (no_root_there path (tree_of t) (not_refused _ is.2))),
    ))

pub kept_if : (path : List ℕ) (result : Result (Unit {0}) SyncError) (a b c : Option Past)
    → Called (Ok tt) (Create path) (done_by (Create path)) a b → MakesBy Nowhere Nowhere b c
    → OnOk result (NamesKept b c) → OnOk result (LeavesKept path a c)
kept_if path (Err why) a b c took next kept = tt
kept_if path (Ok done) a b c took next kept = record {
  grown = grown_then a b c _ _ _ (is_made path a b took)
      (grown_both b c _ _ next.grown kept.grown)
      (λ s xs ys one two sound all.
      let first = one sound (allows_left (MayDoThere path) xs ys s all) in
      let rest = name_on path ys (run_entries xs s) two.0
      (allows_right (MayDoThere path) xs ys s all) first.0 in
      subst (IsKeptAt path) (sym (run_entries-append xs ys s))
      (ap is_file rest.1 ∙ first.1, two.1));
}

-- Behind the look.

-- nothing was found
pub ends_if : (path : List ℕ) (result : Result (Unit {0}) SyncError) (a b c : Option Past)
    → MakesBy Nowhere Nowhere a b → OnOk result (LeavesKept path b c)
    → OnOk result (Grown a c (EndsKept path))
ends_if path (Err why) a b c look next = tt
ends_if path (Ok done) a b c look next =
    grown_then a b c _ _ _ look.grown next.grown (λ s xs ys one two none sound all.
    subst (IsKeptAt path) (sym (run_entries-append xs ys s))
    (two (name_on path xs s one (allows_left (MayDoThere path) xs ys s all) sound).0
    (allows_right (MayDoThere path) xs ys s all)))

-- a file was found, which others cannot have put there
pub ends_read : (path : List ℕ) (limit : ℕ) {stat : Stat} {bytes : List ℕ} {a b : Option Past}
    → Called (Ok (stat, bytes)) (ReadAll path limit) (λ tree. read_of tree path limit) a b
    → Grown a b (EndsKept path)
ends_read path limit {stat} {bytes} {a} {b} took =
    grown_map a b _ _ (judged_grown (stat, bytes) (ReadAll path limit) _ a b took.goes)
    (λ s es is none sound all.
    let front = map Others is.0 in
    let there = file_read (run_entries front s) path limit stat bytes is.2 in
    let same = others_on path is.0 s (allows_left (MayDoThere path) front
    (Own (ReadAll path limit) Done ∷ []) s
    (subst (λ (l : List Entry). Allows (MayDoThere path) l s) is.1 all)) sound in
    absurd (true_false (sym (ap is_file (sym same.1 ∙ there.1)) ∙ none)))
