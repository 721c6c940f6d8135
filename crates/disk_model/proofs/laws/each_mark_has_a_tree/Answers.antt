use Rattle.disk_model.proofs.LawsOfTrees.{each_mark_has_a_tree}
use Rattle.disk_model.proofs.laws.each_mark_has_a_tree.Goals as goal

pub returns : goal.returns
returns c = each_mark_has_a_tree
