use Rattle.std.proofs.Common.{◌∙◌, ap, map, sym}
use Rattle.std.proofs.lemmas.Result.{IfOk-weaker}
use Rattle.std.specs.Prelude.{is_some}
use Rattle.folder_letters.specs.Letters.{plain_letter}
use Rattle.index_view.proofs.LinesLemmas.{listed_if, some_mapped}
use Rattle.index_view.proofs.view.View.line.Goals as goal

pub returns-clause-listed : goal.returns-clause-listed
returns-clause-listed c = IfOk-weaker c.styled.result _ _ (λ line is.
    sym (some_mapped (λ l. l.items) line) ∙ ap is_some is
    ∙ listed_if (map plain_letter c.args.archive.now.items) c.args.self.now c.args.id
    c.requires _) c.styled.ensures
