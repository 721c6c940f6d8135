-- The paths of a message that is added differ, and its calls are refused for nothing that the
-- directories brought about which we made.
use Rattle.std.proofs.Common.{◌≡◌, ◌⊎◌, ◌∙◌, ℕ, Bool, true, false, List, Option, ap, codes}
use Rattle.std.proofs.Common.{inl, inr}
use Rattle.std.proofs.Common.{refl, subst, sym}
use Rattle.std.proofs.lemmas.Bool.{and_parts}
use Rattle.std.proofs.lemmas.Slice.Eq.{bytes_eq-Decides}
use Rattle.std.specs.Str.{bytes_eq}
use Rattle.std.specs.String.{string_bytes}
use Rattle.mail_base.specs.declared.flags.Flags.{Flags}
use Rattle.disk_model.specs.Journal.{Call, Create, Cut, ListDir, MakeDir, Own, Past, ReadAll}
use Rattle.disk_model.specs.Journal.{ReadFront, Remove, Rename, StatPath, Sync, SyncDir, WriteAt}
use Rattle.disk_model.specs.Judge.{GoesOn, Grows}
use Rattle.disk_model.specs.Names.{name_of}
use Rattle.disk_model.specs.State.{after_entry, tree_of}
use Rattle.disk_model.specs.Tree.{folder_of}
use Rattle.disk_model.specs.declared.answers.DiskError.{DiskError}
use Rattle.folder_core.specs.Directory.{path_in}
use Rattle.folder_core.specs.Maildir.{MaildirFile, directory}
use Rattle.folder_core.proofs.NamesIn.{path_is_in}
use Rattle.folder_changes.specs.Calls.{GoesBy}
use Rattle.folder_changes.specs.Refused.{IsBetween, refused_by, refuses}
use Rattle.folder_changes.specs.declared.sync_error.SyncError.{SyncError}
use Rattle.folder_changes.proofs.PathLemmas.{directory_no_folder, path_no_directory}
use Rattle.folder_changes.proofs.TraceLemmas.{IsUnmade}
use Rattle.folder_drivers.specs.MaildirAppend.{IsBase, beside_at, is_in_cur, name_for, place_at}
use Rattle.folder_drivers.specs.Refusing.{IsAny, RefusedFor}
use Rattle.maildir_appends.specs.Causes.{AreApart, IsMakeIn, IsPut}
use Rattle.maildir_appends.specs.Placing.{AreOf}
use Rattle.maildir_appends.specs.declared.places.Places.{Places}
use Rattle.folder_drivers.proofs.Causing.{for_earlier}
use Rattle.maildir_appends.proofs.Naming.{base_shown, name_shown}
use Rattle.folder_drivers.proofs.NodeLemmas.{Unmakes, file_left, file_unmade, folder_unmade}
use Rattle.folder_drivers.proofs.NodeLemmas.{made_keeps, made_leaves, make_unmade, rename_unmade}
use Rattle.maildir_appends.proofs.Standing.{beside_in, new_not_beside, tmp_long, tmp_not_beside}

true_false : ◌≡◌ {A = Bool} true false → ⊥
true_false e = cc

tmp_no_directory : (path : List ℕ) (in_cur : Bool)
    → path_in path (codes "tmp") ≡ directory in_cur path → ⊥
tmp_no_directory path true same = true_false
    (sym ((bytes_eq-Decides (codes "tmp") (codes "cur")).1
    (sym (path_is_in path (codes "tmp") refl).name_is ∙ ap name_of same
    ∙ (path_is_in path (codes "cur") refl).name_is)) ∙ other)
  where
    other : bytes_eq (codes "tmp") (codes "cur") ≡ false
    other = refl
tmp_no_directory path false same = true_false
    (sym ((bytes_eq-Decides (codes "tmp") (codes "new")).1
    (sym (path_is_in path (codes "tmp") refl).name_is ∙ ap name_of same
    ∙ (path_is_in path (codes "new") refl).name_is)) ∙ other)
  where
    other : bytes_eq (codes "tmp") (codes "new") ≡ false
    other = refl

directory_folder : (path : List ℕ) (in_cur : Bool) → folder_of (directory in_cur path) ≡ path
directory_folder path true = (path_is_in path (codes "cur") refl).folder
directory_folder path false = (path_is_in path (codes "new") refl).folder

module _ (path base : List ℕ) (flags : Flags) (is_base : IsBase base) where
  place_in : folder_of (place_at path base flags) ≡ directory (is_in_cur flags) path
  place_in = (path_is_in (directory (is_in_cur flags) path) (name_for base flags)
      (and_parts _ _ (name_shown base flags is_base)).0).folder

  abbrev file : MaildirFile
  file = record { in_cur = is_in_cur flags; name = name_for base flags }

  place_no_directory : (in_cur : Bool) → place_at path base flags ≡ directory in_cur path → ⊥
  place_no_directory in_cur same =
      path_no_directory path file in_cur (name_shown base flags is_base) same

  place_no_tmp : path_in path (codes "tmp") ≡ place_at path base flags → ⊥
  place_no_tmp same = tmp_no_path (is_in_cur flags)
      (sym place_in ∙ ap folder_of (sym same) ∙ (path_is_in path (codes "tmp") refl).folder)
    where
      tmp_no_path : (in_cur : Bool) → directory in_cur path ≡ path → ⊥
      tmp_no_path in_cur e = directory_no_folder in_cur path e

  plain_apart : AreApart (beside_at path base) (place_at path base flags) (directory false path)
      (directory true path)
  plain_apart = record {
    no_root = (path_is_in (path_in path (codes "tmp")) base
        (and_parts _ _ (base_shown base is_base)).0).no_root;
    other_place = λ same. tmp_no_directory path (is_in_cur flags)
        (sym (beside_in path base is_base) ∙ ap folder_of same ∙ place_in);
    beside_new = λ same. new_not_beside path base is_base (sym same);
    beside_cur = λ same. tmp_long path
        (sym (beside_in path base is_base) ∙ ap folder_of same ∙ directory_folder path true);
    place_new = place_no_directory false;
    place_cur = place_no_directory true;
    folder = by (is_in_cur flags) place_in;
  }
    where
      by : (in_cur : Bool) → folder_of (place_at path base flags) ≡ directory in_cur path
          → (folder_of (place_at path base flags) ≡ directory false path)
          ⊎ (folder_of (place_at path base flags) ≡ directory true path)
      by true at = inr at
      by false at = inl at

  -- calls that put a message are refused for none of the directories that we made
  made_by : (dir : List ℕ) → (dir ≡ beside_at path base → ⊥)
      → (dir ≡ place_at path base flags → ⊥) → (call : Call)
      → IsPut (beside_at path base) (place_at path base flags) (directory false path)
      (directory true path) call → Unmakes (MakeDir dir) (refuses call)
  made_by dir one other (Create at) is =
      make_unmade (MakeDir dir) at (made_keeps dir (folder_of at))
      (made_leaves dir at (λ e. one (e ∙ is)))
  made_by dir one other (WriteAt at from piece) is =
      file_unmade (MakeDir dir) at (file_left (MakeDir dir) at
      (made_leaves dir at (λ e. one (e ∙ is))))
  made_by dir one other (Sync at) is =
      file_unmade (MakeDir dir) at (file_left (MakeDir dir) at
      (made_leaves dir at (λ e. one (e ∙ is))))
  made_by dir one other (Rename from to) is =
      rename_unmade (MakeDir dir) from to (file_left (MakeDir dir) from
      (made_leaves dir from (λ e. one (e ∙ is.0)))) (made_keeps dir (folder_of to))
      (made_leaves dir to (λ e. other (e ∙ is.1)))
  made_by dir one other (SyncDir at) is = folder_unmade (MakeDir dir) at (made_keeps dir at)
  made_by dir one other (ListDir at) is = absurd is
  made_by dir one other (StatPath at) is = absurd is
  made_by dir one other (ReadFront at size) is = absurd is
  made_by dir one other (ReadAll at limit) is = absurd is
  made_by dir one other (Cut at size) is = absurd is
  made_by dir one other (Remove at) is = absurd is
  made_by dir one other (MakeDir at) is = absurd is

  put_unmade : (call : Call)
      → IsPut (beside_at path base) (place_at path base flags) (directory false path)
      (directory true path) call → IsUnmade (IsMakeIn path) (refuses call)
  put_unmade call is other answer state (inl new) not =
      ap (λ (c : Call). refuses call (tree_of (after_entry state (Own c answer)))) new
      ∙ made_by (directory false path) (new_not_beside path base is_base)
      (λ e. place_no_directory false (sym e)) call is answer state not
  put_unmade call is other answer state (inr tmp) not =
      ap (λ (c : Call). refuses call (tree_of (after_entry state (Own c answer)))) tmp
      ∙ made_by (path_in path (codes "tmp")) (tmp_not_beside path base is_base) place_no_tmp call is
      answer state not

-- the paths as they are written
pub are_apart : (path base : List ℕ) (flags : Flags) (places : Places) → IsBase base
    → AreOf path base flags places
    → AreApart (string_bytes places.beside) (string_bytes places.place) (string_bytes places.new)
    (string_bytes places.cur)
are_apart path base flags places is_base of =
    subst (λ (b : List ℕ). AreApart b (string_bytes places.place) (string_bytes places.new)
    (string_bytes places.cur)) (sym of.beside)
    (subst (λ (p : List ℕ). AreApart (beside_at path base) p (string_bytes places.new)
    (string_bytes places.cur)) (sym of.place)
    (subst (λ (n : List ℕ). AreApart (beside_at path base) (place_at path base flags) n
    (string_bytes places.cur)) (sym of.new)
    (subst (λ (c : List ℕ). AreApart (beside_at path base) (place_at path base flags)
    (directory false path) c) (sym of.cur) (plain_apart path base flags is_base))))

pub put_for : (path base : List ℕ) (flags : Flags) (places : Places) (why : DiskError)
    (e : SyncError) (old mid new : Option Past) → IsBase base → AreOf path base flags places
    → e ≡ refused_by why → GoesOn (GoesBy (IsMakeIn path)) old mid → Grows mid new
    → IsBetween (RefusedFor (IsPut (string_bytes places.beside) (string_bytes places.place)
    (string_bytes places.new) (string_bytes places.cur)) (refused_by why)) mid new
    → IsBetween (RefusedFor IsAny e) old new
put_for path base flags places why e old mid new is_base of is calls on cause =
    subst (λ (w : SyncError). IsBetween (RefusedFor IsAny w) old new) (sym is)
    (for_earlier (IsMakeIn path) (IsPut (beside_at path base) (place_at path base flags)
    (directory false path) (directory true path)) IsAny (refused_by why) old mid new
    (put_unmade path base flags is_base) (λ call put. tt) calls on
    (subst (λ (b : List ℕ). IsBetween (RefusedFor (IsPut b (place_at path base flags)
    (directory false path) (directory true path)) (refused_by why)) mid new) of.beside
    (subst (λ (p : List ℕ). IsBetween (RefusedFor (IsPut (string_bytes places.beside) p
    (directory false path) (directory true path)) (refused_by why)) mid new) of.place
    (subst (λ (n : List ℕ). IsBetween (RefusedFor (IsPut (string_bytes places.beside)
    (string_bytes places.place) n (directory true path)) (refused_by why)) mid new) of.new
    (subst (λ (c : List ℕ). IsBetween (RefusedFor (IsPut (string_bytes places.beside)
    (string_bytes places.place) (string_bytes places.new) c) (refused_by why)) mid new) of.cur
    cause)))))
