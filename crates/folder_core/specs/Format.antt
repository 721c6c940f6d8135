-- What a kind of folders is, for all that stands above the kinds.
use Rattle.std.specs.Prelude.{ℕ, List, Option}
use Rattle.disk_model.specs.Journal.{Past}
use Rattle.disk_model.specs.Seen.{Seen}
use Rattle.disk_model.specs.Tree.{TreeNode}
use Rattle.folder_core.specs.Keeping.{ListedMail}
use Rattle.folder_core.specs.Known.{KnownFolder}
use Rattle.folder_letters.specs.Letters.{Mail}
use Rattle.folder_core.specs.Message.{Message}
use Rattle.folder_core.specs.declared.error.ScanError.{ScanError}

-- what a kind of folders is: how a tree is read as one, and what a scan of it saw
pub record Format : Type 1 where
  -- the messages of a folder in its order, where it is one of the kind
  pub reads : List TreeNode → List ℕ → Option (List Message)
  -- what stays of a message's bytes when its status changes
  pub core : List ℕ → List ℕ
  -- the letter that a message makes under an id
  pub letter : ℕ → Message → Mail
  -- what each of these messages was known as, if it was known: by what was listed and its stamps,
  -- and by the stamps with which these were read
  pub keep : List ListedMail → List ℕ → List Message → List ℕ → List (Option ℕ)
  -- Between two marks of a past these messages were seen in the known folder, as its bytes and
  -- stamps say, some of them known before, and they may be listed beside so many letters.
  pub Saw : ℕ → List (Option ℕ) → KnownFolder → List Message → ℕ → ℕ → Past → Type 0
  -- between two marks of a past a folder that was known so was not to be listed for this cause
  -- beside these letters
  pub Refused : List Mail → KnownFolder → ScanError → ℕ → ℕ → Past → Type 0
  -- what a scan of a folder that was known so costs, by the letters that it adds
  pub Costs : KnownFolder → List Mail → Seen → Seen → Type 0
  -- what a scan of the folder at a path may read of it, whatever it answers
  pub MayRead : List ℕ → Seen → Seen → Type 0
  -- what is known of a folder with these listed messages was read in a past
  pub WasRead : List ListedMail → KnownFolder → Option Past → Type 0
