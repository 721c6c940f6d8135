-- What adding a message to a Maildir is (maildir(5)).
use Rattle.std.specs.Prelude.{◌≡◌, ◌<◌, ◌^◌, ◌==◌, ◌&&◌, ◌||◌, ℕ, ℤ, pos, negsuc, Bool, true}
use Rattle.std.specs.Prelude.{false, not, nat_lt, List, [], ◌∷◌, ◌++◌, Option, codes, map}
use Rattle.std.specs.Char.{is_ascii_digit}
use Rattle.std.specs.Fmt.{decimal}
use Rattle.std.specs.List.{list_all, list_any}
use Rattle.std.specs.Str.{bytes_eq}
use Rattle.mail_base.specs.declared.flags.Flags.{Flags}
use Rattle.disk_model.specs.Journal.{Create, Done, Entry, Own, Past, Rename}
use Rattle.disk_model.specs.State.{State}
use Rattle.folder_letters.specs.Letters.{Mail}
use Rattle.folder_core.specs.Directory.{path_in}
use Rattle.folder_core.specs.Maildir.{directory}
use Rattle.folder_core.specs.MaildirNames.{split_name}
use Rattle.folder_changes.specs.Refused.{StepRefused}
use Rattle.folder_changes.specs.Worked.{WasCause}
use Rattle.disk_model.specs.State.{tree_at}
use Rattle.disk_model.specs.Journal.{Refused}
use Rattle.disk_model.specs.declared.answers.DiskError.TheVariants.{Exists}
use Rattle.std.specs.Prelude.{◌≤◌, drop, is_some, take}
use Rattle.folder_changes.specs.declared.item.Item.{Item}
use Rattle.folder_drivers.specs.AppendRow.{AppendRow}
use Rattle.folder_drivers.specs.FirstLooking.{LooksFirst}
use Rattle.folder_drivers.specs.MetNames.{SawNames}
use Rattle.folder_drivers.specs.Refusing.{AppendErrors}
use Rattle.folder_shapes.specs.Maildir.{maildir_files}
use Rattle.folder_stops.specs.Along.{Grown}
use Rattle.folder_stops.specs.Words.{Among}
use Rattle.maildir_names.specs.MaildirName.{name_of}
use Rattle.disk_model.specs.Journal.{Answer, ListDir, Refused}
use Rattle.disk_model.specs.Tree.{TreeNode, node_at}
use Rattle.folder_changes.specs.declared.sync_error.Spot.TheVariants.{Name}
use Rattle.folder_changes.specs.declared.sync_error.SyncError.{SyncError}
use Rattle.folder_changes.specs.declared.sync_error.SyncError.TheVariants.{Changed, Fault}
use Rattle.folder_changes.specs.declared.sync_error.SyncError.TheVariants.{NoMemory, NotFolder}

-- The base.

-- the base of a moment and a number
abbrev pub base_at : ℕ → ℕ → List ℕ
base_at moment number = decimal moment ++ codes ".R" ++ decimal number ++ codes ".mutt"

-- a name of this base is among these
abbrev pub has_base : List (List ℕ) → List ℕ → Bool
has_base names base = list_any (λ name. bytes_eq (split_name name).0 base) names

-- this key is among these
abbrev pub has_key : List (List ℕ) → List ℕ → Bool
has_key keys base = list_any (λ key. bytes_eq key base) keys

-- The base has the least number that makes one which is not taken.
pub record IsFirstFree (is_taken : List ℕ → Bool) (moment : ℕ) (base : List ℕ) : Type 0 where
  pub number : ℕ
  pub fits : number < 2 ^ 64
  pub is : base ≡ base_at moment number
  pub free : is_taken base ≡ false
  pub least : (other : ℕ) → other < number → is_taken (base_at moment other) ≡ true

-- a byte of a base: ASCII, neither a slash nor a colon
abbrev pub is_plain : ℕ → Bool
is_plain b = nat_lt b 128 && not (b == 47) && not (b == 58)

-- a digit stands first
abbrev pub begins_digit : List ℕ → Bool
begins_digit [] = false
begins_digit (b ∷ rest) = is_ascii_digit b

-- What a base of ours is: plain, with a digit first.
pub record IsBase (base : List ℕ) : Type 0 where
  pub plain : list_all is_plain base ≡ true
  pub begins : begins_digit base ≡ true

-- the name of a base with flags
abbrev pub name_for : List ℕ → Flags → List ℕ
name_for base flags = name_of (record { base = base; flags = flags; others = [] })

-- Where it is put.

-- the path of a base in `tmp`
abbrev pub beside_at : List ℕ → List ℕ → List ℕ
beside_at dir base = path_in (path_in dir (codes "tmp")) base

-- messages that are seen or aged stand in `cur`
abbrev pub is_in_cur : Flags → Bool
is_in_cur flags = flags.seen || flags.aged

-- the path of a base with flags, as a sync would put it
abbrev pub place_at : List ℕ → List ℕ → Flags → List ℕ
place_at dir base flags = path_in (directory (is_in_cur flags) dir) (name_for base flags)

-- How it is named.

-- the keys of letters
abbrev pub keys_of : List Mail → List (List ℕ)
keys_of mails = map (λ mail. mail.key) mails

-- a name in one of the directories has the base, or a letter has it as its key
abbrev pub is_taken : List (List ℕ) → List (List ℕ) → List (List ℕ) → List (List ℕ) → List ℕ
    → Bool
is_taken cur new tmp keys base =
    has_base cur base || has_base new base || has_base tmp base || has_key keys base

-- the seconds of a moment of a clock
abbrev pub seconds_of : ℤ → ℕ
seconds_of (pos seconds) = seconds
seconds_of (negsuc before) = 0

-- our calls made the file of a base in `tmp`, and gave it the name that tells the flags
abbrev pub MadeAndNamed : List ℕ → List ℕ → Flags → State → List Entry → Type 0
MadeAndNamed dir base flags state entries =
    Among (Own (Create (beside_at dir base)) Done) entries
    × Among (Own (Rename (beside_at dir base) (place_at dir base flags)) Done) entries

-- A message was named: its base is the first of its moment that no name which the looks met has and
-- no letter, and our calls made its file and gave it the name of that base with its flags.
pub record WasNamed (dir : List ℕ) (mails : List Mail) (item : Item) (old new : Option Past)
    : Type 0 where
  pub cur : List (List ℕ)
  pub new_names : List (List ℕ)
  pub tmp : List (List ℕ)
  pub saw_cur : SawNames (directory true dir) cur old new
  pub saw_new : SawNames (directory false dir) new_names old new
  pub saw_tmp : SawNames (path_in dir (codes "tmp")) tmp old new
  pub base : List ℕ
  pub first : IsFirstFree (is_taken cur new_names tmp (keys_of mails)) (seconds_of item.moment) base
  pub steps : Grown old new (MadeAndNamed dir base item.flags)

-- Why it was refused.

-- something stands at the path
abbrev pub is_there : List ℕ → List TreeNode → Bool
is_there at tree = is_some (node_at tree at)

-- Others put a file there with which a message was to begin: nothing stood there when our call
-- listed `tmp`, something did when our call was to make it, and that was no doing of ours.
pub record WasPut (dir name : List ℕ) (m n : ℕ) (past : Past) : Type 0 where
  pub base : List ℕ
  pub is_base : IsBase base
  pub named : name ≡ beside_at dir base
  pub listed : ℕ
  pub from : m ≤ listed
  pub answer : Answer
  pub call : take 1 (drop listed past.journal)
      ≡ Own (ListDir (path_in dir (codes "tmp"))) answer ∷ []
  pub free : is_there name (tree_at past listed) ≡ false
  pub put : WasCause (is_there name) listed n past
  pub refused : take 1 (drop put.mark past.journal) ≡ Own (Create name) (Refused Exists 0) ∷ []

-- why the adding of a message was refused between two marks: others put the file there with which
-- it was to begin; a call of ours was refused for a state that is no doing of ours; the disk
-- failed, or memory ran out
abbrev pub MaildirAppendRefused : List ℕ → SyncError → ℕ → ℕ → Past → Type 0
MaildirAppendRefused dir (Changed (Name name)) m n past = WasPut dir name.items m n past
MaildirAppendRefused dir NotFolder m n past = StepRefused (λ call. Unit {0}) m n past
MaildirAppendRefused dir Fault m n past = Unit {0}
MaildirAppendRefused dir NoMemory m n past = Unit {0}
MaildirAppendRefused dir why m n past = ⊥

-- adding a message to a Maildir
abbrev pub maildir_additions : AppendRow
maildir_additions = record {
  files = maildir_files;
  core = λ text. text;
  Works = WasNamed;
  MayBe = AppendErrors;
  Refused = MaildirAppendRefused;
  Looked = λ path result old new. LooksFirst (directory true path) result old new;
}
