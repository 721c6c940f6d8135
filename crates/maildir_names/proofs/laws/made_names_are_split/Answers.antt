use Rattle.maildir_names.proofs.NameLemmas.{made_is_split}
use Rattle.maildir_names.proofs.laws.made_names_are_split.Goals as goal

pub returns : goal.returns
returns c = made_is_split
