-- Laws of the two kinds of folders with one file a message.
use Rattle.std.specs.Prelude.{ℕ, List}
use Rattle.folder_stops.specs.Folder.{IsFolder}
use Rattle.folder_shapes.specs.Maildir.{maildir_files}
use Rattle.folder_shapes.specs.Mh.{mh_files}

-- the messages of a Maildir are those that its shape tells of its files
abbrev pub MaildirsAreFolders : Type 0
MaildirsAreFolders = (dir : List ℕ) → IsFolder (maildir_files dir)

-- the messages of an MH folder are those that its shape tells of its files
abbrev pub MhFoldersAreFolders : Type 0
MhFoldersAreFolders = (dir : List ℕ) → IsFolder (mh_files dir)
