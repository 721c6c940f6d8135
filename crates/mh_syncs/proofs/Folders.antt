-- What our own calls do to the messages of an MH folder.
use Rattle.std.proofs.Common.{◌≡◌, ◌≢◌, ℕ, Bool, true, false, List, Option, refl, sym, ap}
use Rattle.std.proofs.Common.{option_map, ◌++◌, [], None}
use Rattle.std.specs.Prelude.{codes, unwrap_or}
use Rattle.mail_base.specs.declared.kind.Kind.TheVariants.{Mh}
use Rattle.disk_model.specs.Journal.{Answer, Call, Create, Done, Remove, Rename, Sync, SyncDir}
use Rattle.disk_model.specs.Journal.{WriteAt}
use Rattle.disk_model.specs.State.{State, after_done, tree_of}
use Rattle.disk_model.specs.Tree.{is_root}
use Rattle.index_items.specs.Changes.{Discards}
use Rattle.folder_core.specs.Directory.{file_at, path_in}
use Rattle.folder_core.specs.Mh.{is_number, mh_reads, sequences_path}
use Rattle.folder_core.proofs.KindsLemmas.{number_is_name}
use Rattle.folder_core.proofs.NamesIn.{path_is_in}
use Rattle.folder_changes.specs.Wanted.{wanted}
use Rattle.folder_drivers.specs.MhNames.{away_path, call_away}
use Rattle.mh_syncs.specs.Names.{IsSideName}
use Rattle.mh_syncs.specs.Parts.{gone_at}
use Rattle.mh_syncs.proofs.Messages.{gone_reads}
use Rattle.mh_syncs.proofs.Paths.{away_no_folder, away_no_number, away_no_sequences, differ_in}
use Rattle.folder_drivers.proofs.MhCalls.{no_folder}
use Rattle.mh_syncs.proofs.Paths.{not_number, number_no_sequences, same_name}
use Rattle.folder_drivers.proofs.Sturdy.{Sturdy}
use Rattle.folder_drivers.proofs.Touching.{Misses, moved_gone, removed_gone}
use Rattle.folder_drivers.proofs.MhCalls.{LeavesBy, MissesFolder, file_stays, folder_stays}
use Rattle.folder_drivers.proofs.MhCalls.{misses_leaves, no_folder}

-- Calls for a side file.

module _ (path name : List ℕ) (side : IsSideName name) where
  abbrev at : List ℕ
  at = path_in path name

  at_folder : at ≢ path
  at_folder = no_folder path name side.named

  at_number : (key : List ℕ) → is_number key ≡ true → at ≢ path_in path key
  at_number key number = differ_in path name key (not_number name key side.no_number number)

  at_sequences : at ≢ sequences_path path
  at_sequences = differ_in path name (codes ".mh_sequences") side.no_sequences

  pub remove_leaves : (answer : Answer) → LeavesBy path (Remove at) answer
  remove_leaves = misses_leaves path (Remove at)
      (record { folder = at_folder; numbers = λ key number. at_number key number }) at_sequences

  pub create_leaves : (answer : Answer) → LeavesBy path (Create at) answer
  create_leaves = misses_leaves path (Create at)
      (record { folder = at_folder; numbers = λ key number. at_number key number }) at_sequences

  pub write_leaves : (from : ℕ) (piece : List ℕ) (answer : Answer)
      → LeavesBy path (WriteAt at from piece) answer
  write_leaves from piece = misses_leaves path (WriteAt at from piece)
      (record { folder = at_folder; numbers = λ key number. at_number key number }) at_sequences

  pub sync_leaves : (answer : Answer) → LeavesBy path (Sync at) answer
  sync_leaves = misses_leaves path (Sync at)
      (record { folder = at_folder; numbers = λ key number. at_number key number }) at_sequences

  -- a side file that is put over the sequences leaves the numbered files
  pub over_misses : MissesFolder path (Rename at (sequences_path path))
  over_misses = record {
    folder = (at_folder, no_folder path (codes ".mh_sequences") refl);
    numbers = λ key number. (
      at_number key number,
      λ same. number_no_sequences key number
          (sym (same_name path (codes ".mh_sequences") key same)),
    );
  }

-- Names are put on the disk.

pub sync_dir_leaves : (path dir : List ℕ) (answer : Answer) → LeavesBy path (SyncDir dir) answer
sync_dir_leaves path dir = misses_leaves path (SyncDir dir)
    (record { folder = tt; numbers = λ key number. tt }) tt

-- A number goes.

module _ (path key : List ℕ) (number : is_number key ≡ true) where
  key_folder : path_in path key ≢ path
  key_folder = no_folder path key (number_is_name key number)

  key_sequences : path_in path key ≢ sequences_path path
  key_sequences = differ_in path key (codes ".mh_sequences") (number_no_sequences key number)

  key_other : (name : List ℕ) → name ≢ key → path_in path key ≢ path_in path name
  key_other name other = differ_in path key name (λ same. other (sym same))

  away_other : (name : List ℕ) → is_number name ≡ true → away_path path key ≢ path_in path name
  away_other name is =
      differ_in path (codes "," ++ key) name (not_number (codes "," ++ key) name
      (away_no_number key) is)

  away_sequences : away_path path key ≢ sequences_path path
  away_sequences = differ_in path (codes "," ++ key) (codes ".mh_sequences") (away_no_sequences key)

  gone_by : (call : Call) (s : State) → Sturdy s → Misses path call
      → Misses (sequences_path path) call
      → ((name : List ℕ) → is_number name ≡ true → name ≢ key → Misses (path_in path name) call)
      → file_at (tree_of (after_done call s)) (path_in path key) ≡ None
      → mh_reads (tree_of (after_done call s)) path
      ≡ option_map (wanted Mh (gone_at key Discards)) (mh_reads (tree_of s) path)
  gone_by call s sturdy folder sequences others gone =
      gone_reads path key (tree_of s) (tree_of (after_done call s))
      (folder_stays path call Done s sturdy folder)
      (ap (λ (o : Option (List ℕ)). unwrap_or o [])
      (file_stays (sequences_path path) call Done s sturdy sequences))
      gone
      (λ name is other. file_stays (path_in path name) call Done s sturdy (others name is other))

  no_root : is_root (path_in path key) ≡ false
  no_root = (path_is_in path key (number_is_name key number)).no_root

  pub away_takes : (purge : Bool) (s : State) → Sturdy s
      → mh_reads (tree_of (after_done (call_away purge path key) s)) path
      ≡ option_map (wanted Mh (gone_at key Discards)) (mh_reads (tree_of s) path)
  away_takes true s sturdy =
      gone_by (Remove (path_in path key)) s sturdy key_folder key_sequences
      (λ name is other. key_other name other) (removed_gone (path_in path key) s no_root)
  away_takes false s sturdy =
      gone_by (Rename (path_in path key) (away_path path key)) s sturdy
      (key_folder, away_no_folder path key) (key_sequences, away_sequences)
      (λ name is other. (key_other name other, away_other name is))
      (moved_gone (path_in path key) (away_path path key) s no_root (away_other key number))
