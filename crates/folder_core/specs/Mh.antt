-- A folder of a numbered file a message (mh-mail(5)), whose flags stand in the sequences of
-- `.mh_sequences`.
use Rattle.std.specs.Prelude.{◌≡◌, ◌≤◌, ◌+◌, ℕ, pos, Bool, true, List, [], ◌∷◌, length, codes}
use Rattle.std.specs.Prelude.{Option, Some, None, is_some}
use Rattle.std.specs.Prelude.{option_and_then, unwrap_or, if◌then◌else◌}
use Rattle.std.specs.Cmp.Lexicographic.{slice_cmp}
use Rattle.std.specs.List.{dedup, filter, filter_map}
use Rattle.std.specs.Ordering.{is_lt, nat_cmp, ordering_then}
use Rattle.std.specs.Str.{bytes_eq}
use Rattle.std.specs.declared.cmp.Ordering.{Ordering}
use Rattle.disk_model.specs.Journal.{Past}
use Rattle.disk_model.specs.Judge.{GoesOn}
use Rattle.disk_model.specs.Names.{names_in}
use Rattle.disk_model.specs.Seen.{Seen}
use Rattle.disk_model.specs.State.{tree_at}
use Rattle.disk_model.specs.Tree.{TreeNode, node_at}
use Rattle.folder_core.specs.Costs.{RaisesAtMost}
use Rattle.folder_core.specs.Directory.{AloneBetween, DirectoryRefused, Finds, ReadsAs, file_at}
use Rattle.folder_core.specs.Directory.{is_folder_at, path_in, stamp_there}
use Rattle.folder_core.specs.Bore.{Bore, IfTold}
use Rattle.folder_core.specs.Format.{Format}
use Rattle.folder_core.specs.Keeping.{IsThere, ListedMail, PlacedByKey, kept_by_stamp}
use Rattle.folder_core.specs.Known.{KnownFolder}
use Rattle.folder_letters.specs.Letters.{Mail}
use Rattle.folder_core.specs.Limits.{list_refusal, most_bytes}
use Rattle.folder_core.specs.Message.{Message, are_in_order, has_key}
use Rattle.folder_core.specs.MhNumbers.{number_of}
use Rattle.folder_core.specs.MhSequences.{mh_flags}
use Rattle.mail_base.specs.Ordered.{in_order_by}

-- the file of the sequences
abbrev pub sequences_path : List ℕ → List ℕ
sequences_path path = path_in path (codes ".mh_sequences")

-- its bytes; none where it is not there
abbrev pub sequences_at : List TreeNode → List ℕ → List ℕ
sequences_at tree path = unwrap_or (file_at tree (sequences_path path)) []

-- the name is a number of a message
abbrev pub is_number : List ℕ → Bool
is_number name = is_some (number_of name)

-- the number of a name, or 0
abbrev pub number_at : List ℕ → ℕ
number_at name = unwrap_or (number_of name) 0

-- an empty file is no message
abbrev pub message_of : List ℕ → List ℕ → List ℕ → Option Message
message_of sequences name [] = None
message_of sequences name (b ∷ raw) = Some (record {
  order = number_at name;
  key = name;
  flags = mh_flags sequences (number_at name);
  raw = b ∷ raw;
})

-- the message of a name, where a file that is not empty has it; its flags by the file of the
-- sequences
abbrev pub message_at : List TreeNode → List ℕ → List ℕ → List ℕ → Option Message
message_at tree path sequences name =
    option_and_then (message_of sequences name) (file_at tree (path_in path name))

-- by number; two names of one number, which there are not, by their bytes
abbrev pub name_cmp : List ℕ → List ℕ → Ordering
name_cmp a b = ordering_then (nat_cmp (number_at a) (number_at b)) (slice_cmp nat_cmp a b)

-- a name comes before another
abbrev pub comes_before : List ℕ → List ℕ → Bool
comes_before a b = is_lt (name_cmp a b)

-- the numbers among the names, the lowest first, each once
abbrev pub numbers_of : List (List ℕ) → List (List ℕ)
numbers_of names = dedup bytes_eq (in_order_by comes_before (filter is_number names))

-- the messages of an MH folder, in order
abbrev pub mh_messages : List TreeNode → List ℕ → List Message
mh_messages tree path =
    filter_map (message_at tree path (sequences_at tree path)) (numbers_of (names_in tree path))

-- the messages of a directory, as an MH folder
abbrev pub mh_reads : List TreeNode → List ℕ → Option (List Message)
mh_reads tree path = if is_folder_at tree path then Some (mh_messages tree path) else None

-- when it was received is not told, and the text begins at once
abbrev pub mh_letter : ℕ → Message → Mail
mh_letter id message = record {
  order = message.order;
  key = message.key;
  core = message.raw;
  text_at = 0;
  received = pos 0;
}

-- a message with these flags stood in the folder at a mark between two marks, in a file with this
-- stamp, with its bytes where it was not known
pub record Stood (path sequences : List ℕ) (m n : ℕ) (past : Past) (keep : Option ℕ)
    (message : Message) (stamp : ℕ) : Type 0 where
  pub mark : ℕ
  pub from : m ≤ mark
  pub to : mark ≤ n
  pub named : is_number message.key ≡ true
  pub there : IsThere keep message (message_at (tree_at past mark) path sequences message.key)
  pub stamp_is : stamp_there (node_at (tree_at past mark) (path_in path message.key)) ≡ stamp

-- each of the messages stood there, and the stamps are theirs
abbrev pub AllStood : List ℕ → List ℕ → ℕ → ℕ → Past → List (Option ℕ) → List Message → List ℕ
    → Type 0
AllStood path sequences m n past [] [] stamps = stamps ≡ []
AllStood path sequences m n past [] (message ∷ messages) stamps = ⊥
AllStood path sequences m n past (keep ∷ keeps) [] stamps = ⊥
AllStood path sequences m n past (keep ∷ keeps) (message ∷ messages) [] = ⊥
AllStood path sequences m n past (keep ∷ keeps) (message ∷ messages) (stamp ∷ stamps) =
    Stood path sequences m n past keep message stamp
    × AllStood path sequences m n past keeps messages stamps

-- a file that is not empty has this name at each mark from one to another
abbrev pub StaysThere : List ℕ → List ℕ → ℕ → ℕ → Past → Type 0
StaysThere path name m n past = (mark : ℕ) → m ≤ mark → mark ≤ n
    → is_some (message_at (tree_at past mark) path [] name) ≡ true

-- What a scan saw between two marks: the sequences at one of them; each message that it lists stood
-- there once with its number and bytes, the bytes of those that were known as they were read
-- before, and has the flags of the sequences; one that stood there all along is listed; and where
-- nobody else acted they are those of the folder.
pub record SawMh (path : List ℕ) (keeps : List (Option ℕ)) (messages : List Message)
    (stamps : List ℕ) (m n : ℕ) (past : Past) : Type 0 where
  pub mark : ℕ
  pub from : m ≤ mark
  pub to : mark ≤ n
  pub in_order : are_in_order messages ≡ true
  pub stood : AllStood path (sequences_at (tree_at past mark) path) m n past keeps messages stamps
  pub stayed : (name : List ℕ) → is_number name ≡ true → StaysThere path name m n past
      → has_key name messages ≡ true
  pub alone : AloneBetween m n past → ReadsAs mh_reads path keeps messages (tree_at past n)

-- the messages may be listed, and the stamps of their files are kept
pub record SawNumbered (letters : ℕ) (keeps : List (Option ℕ)) (known : KnownFolder)
    (messages : List Message) (m n : ℕ) (past : Past) : Type 0 where
  pub saw : SawMh known.path keeps messages known.stamps m n past
  pub taken : list_refusal letters keeps messages ≡ None
  pub bytes : known.bytes ≡ []

-- each listed message was read once from a file with its stamp
abbrev pub AllBore : List ListedMail → List ℕ → Past → Type 0
AllBore [] stamps past = stamps ≡ []
AllBore (listed ∷ old) [] past = ⊥
AllBore (listed ∷ old) (stamp ∷ stamps) past =
    Bore listed.mail.core stamp past × AllBore old stamps past

-- of an MH folder the stamps of the files are known, and its letters have the order of their
-- numbers
pub record StampsRead (listed : List ListedMail) (known : KnownFolder) (told : Option Past)
    : Type 0 where
  pub placed : PlacedByKey number_at listed
  pub bytes : known.bytes ≡ []
  pub stamps : IfTold (AllBore listed known.stamps) told

-- the file of the sequences had at least so many bytes at a mark between the ends of two journals
pub record HeldSequences (path : List ℕ) (bytes : ℕ) (old new : Past) : Type 0 where
  pub mark : ℕ
  pub from : length old.journal ≤ mark
  pub to : mark ≤ length new.journal
  pub held : bytes ≤ length (sequences_at (tree_at new mark) path)

-- beside bytes of the file of the sequences no more than so many were read
pub record ReadsBeside (path : List ℕ) (most : ℕ) (old new : Seen) : Type 0 where
  pub sequences : ℕ
  pub held : GoesOn (HeldSequences path sequences) old.told new.told
  pub reads : RaisesAtMost old.bytes_read new.bytes_read (sequences + most)

-- MH folders as a kind of folders
abbrev pub mh_format : Format
mh_format = record {
  reads = mh_reads;
  core = λ raw. raw;
  letter = mh_letter;
  keep = kept_by_stamp;
  Saw = SawNumbered;
  Refused = λ mails known why m n past.
      DirectoryRefused is_folder_at (Finds kept_by_stamp
      (λ keeps messages stamps. SawMh known.path keeps messages stamps m n past) mails known)
      (length mails) known.path why m n past;
  Costs = λ known came old new. Unit {0};
  MayRead = λ path old new. ReadsBeside path most_bytes old new;
  WasRead = StampsRead;
}
