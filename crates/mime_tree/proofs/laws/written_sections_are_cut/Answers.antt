use Rattle.mime_tree.proofs.LawsOfSections.{written_sections_are_cut}
use Rattle.mime_tree.proofs.laws.written_sections_are_cut.Goals as goal

pub returns : goal.returns
returns c = written_sections_are_cut
