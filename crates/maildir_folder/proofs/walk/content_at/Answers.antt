use Rattle.std.proofs.Common.{◌∙◌}
use Rattle.folder_core.specs.Maildir.{path_of}
use Rattle.folder_core.proofs.LookedLemmas.{looked_content}
use Rattle.maildir_folder.specs.Candidates.{plain_file}
use Rattle.maildir_folder.proofs.walk.content_at.Goals as goal

pub returns-clause-looked : goal.returns-clause-looked
returns-clause-looked g c =
    looked_content c.content_of.result c.args.limit c.as_str.result.now
    (path_of c.args.path.now (plain_file c.args.file.now)) _ _
    (c.as_str.ensures.value ∙ c.in-Ok.ensures) c.content_of.ensures.looked
