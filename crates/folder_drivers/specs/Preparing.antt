-- Calls that come before an append begins its message.
use Rattle.std.specs.Prelude.{ℕ, List, Option}
use Rattle.disk_model.specs.Journal.{Past}
use Rattle.folder_stops.specs.Appends.{AddLeads, IsFit, NewItem, Opening, Quiet}
use Rattle.folder_stops.specs.Does.{Does}
use Rattle.folder_stops.specs.Folder.{FileFolder}

-- from before a message of ours on to before it
abbrev pub StaysOpen : FileFolder → NewItem → Option Past → Option Past → Type 0
StaysOpen folder item old new = AddLeads folder.shape folder.sides item old new
    (Opening folder.shape folder.tells_free item) (Opening folder.shape folder.tells_free item)

-- No message begins, the folder keeps its messages, and a key that is free stays free where others
-- spare it.
pub record Prepares (folder : FileFolder) (old new : Option Past) : Type 0 where
  pub does : (made : Option (List ℕ)) → Does folder.shape.home folder.making made old new
  pub quiet : Quiet folder.shape folder.sides old new
  pub opening : (item : NewItem) → IsFit folder.shape item → StaysOpen folder item old new
