use Rattle.std.proofs.Common.{◌∙◌, ap}
use Rattle.folder_core.specs.Directory.{path_in}
use Rattle.folder_core.proofs.LookedLemmas.{looked_content}
use Rattle.mh_folder.proofs.walk.content_at.Goals as goal

pub returns-clause-looked : goal.returns-clause-looked
returns-clause-looked g c =
    looked_content c.content_of.result c.args.limit c.as_str.result.now
    (path_in c.args.path.now c.args.file.now.name.items) _ _
    (c.as_str.ensures.value ∙ c.in-Ok-path_in.ensures
    ∙ ap (path_in c.args.path.now) (c.in-Ok.ensures.cases.0 ∙ c.deref.ensures.value))
    c.content_of.ensures.looked
