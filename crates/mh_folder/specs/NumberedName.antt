-- Names that are numbers of messages, in the order of the messages.
use Rattle.std.specs.Prelude.{◌≡◌, ℕ, List, Some, None, map}
use Rattle.std.specs.List.{All}
use Rattle.std.specs.Str.{IsUtf8}
use Rattle.folder_core.specs.Mh.{numbers_of}
use Rattle.folder_shapes.specs.Mh.{Rises}
use Rattle.folder_core.specs.MhNumbers.{number_of}
use Rattle.mh_folder.specs.declared.numbered_name.NumberedName.{NumberedName}

-- the name writes the number, and is text
pub record IsNumbered (n : NumberedName) : Type 0 where
  pub number_is : number_of n.name.items ≡ Some n.number
  pub text : IsUtf8 n.name.items

-- a numbered name as contracts see it
abbrev pub plain_name : NumberedName → List ℕ
plain_name n = n.name.items

-- numbered names as contracts see them
abbrev pub plain_names : List NumberedName → List (List ℕ)
plain_names files = map plain_name files

-- The numbers among these names, in order.
pub record AreInOrder (names : List (List ℕ)) (files : List NumberedName) : Type 0 where
  pub each : All IsNumbered files
  pub rises : Rises None (plain_names files)
  pub sorted : plain_names files ≡ numbers_of names
