-- What a walk over the numbered files of a folder goes by: what was known before, and what was read
-- of the folder first.
use Rattle.std.specs.Prelude.{◌≡◌, ℕ, true, List, length, Option, Some, IfSome}
use Rattle.disk_model.specs.Journal.{Past}
use Rattle.disk_model.specs.Tree.{is_first_tree}
use Rattle.folder_letters.specs.Letters.{Mail}
use Rattle.folder_core.specs.Bore.{Bore, IfTold}
use Rattle.folder_core.specs.Keeping.{ListedMail, mail_of, mails_of, stamped}
use Rattle.folder_core.specs.Known.{KnownFolder}
use Rattle.folder_core.specs.MhNumbers.{number_of}
use Rattle.mh_folder.specs.KnownFile.{file_in, id_at}
use Rattle.mh_sequences.specs.Marks.{AreMarks}
use Rattle.mh_folder.specs.declared.known_file.KnownFile.{KnownFile}
use Rattle.mh_sequences.specs.declared.marks.Marks.{Marks}
use Rattle.mh_folder.specs.declared.visit.Visit.{Visit}

-- The path of the folder, the bytes of its sequences, and the letters and the folder as they were
-- known before.
pub record Course : Type 0 where
  pub path : List ℕ
  pub sequences : List ℕ
  pub mails : List Mail
  pub known : KnownFolder

-- the listed messages
abbrev pub old_mails : Course → List ListedMail
old_mails course = mails_of course.mails course.known.listing

-- the id that a message of this name keeps in a file with this stamp
abbrev pub id_of : Course → List ℕ → ℕ → Option ℕ
id_of course name stamp = stamped (old_mails course) course.known.stamps name stamp

-- a file with the bytes of the listed message stood once with the stamp that is known of it
abbrev pub WasBorne : List Mail → KnownFile → Option Past → Type 0
WasBorne mails file told = IfTold (Bore (mail_of mails file.id.0).core file.stamp) told

-- what is known of the file of a name
pub record IsKnownFile (course : Course) (name : List ℕ) (told : Option Past)
    (found : Option KnownFile) : Type 0 where
  pub keep : (stamp : ℕ) → id_of course name stamp ≡ id_at found stamp
  pub size : IfSome found
      (λ file. file.size ≡ length (mail_of course.mails file.id.0).core)
  pub borne : IfSome found (λ file. WasBorne course.mails file told)

-- what is known of the file of each number
abbrev pub AreKnownFiles : Course → Option Past → List KnownFile → Type 0
AreKnownFiles course told files = (name : List ℕ) (number : ℕ) → number_of name ≡ Some number
    → IsKnownFile course name told (file_in files number)

-- this is what a walk of a folder goes by
pub record IsCourse (path : List ℕ) (visit : Visit) (told : Option Past)
    (course : Course) : Type 0 where
  pub path_is : course.path ≡ path
  pub marks_are : AreMarks course.sequences visit.marks
  pub files : AreKnownFiles course told visit.files.files.items

-- this is what a walk goes by at a name, of whose file this is known
pub record IsFileCourse (path : List ℕ) (marks : Marks) (name : List ℕ)
    (found : Option KnownFile) (told : Option Past) (course : Course) : Type 0 where
  pub path_is : course.path ≡ path
  pub marks_are : AreMarks course.sequences marks
  pub file : IsKnownFile course name told found

-- a told past begins with a tree in which no two files have one stamp
abbrev pub BeginsWell : Option Past → Type 0
BeginsWell told = IfTold (λ past. is_first_tree past.first ≡ true) told
