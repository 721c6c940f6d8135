use Rattle.folder_shapes.proofs.MhLemmas.{an_mh_folder}
use Rattle.folder_shapes.proofs.laws.mh_folders_are_folders.Goals as goal

pub returns : goal.returns
returns c = an_mh_folder
