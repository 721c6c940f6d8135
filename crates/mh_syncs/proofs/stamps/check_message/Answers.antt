use Rattle.std.proofs.Common.{◌∙◌, ap, refl}
use Rattle.folder_core.specs.Directory.{path_in}
use Rattle.mh_syncs.proofs.Keys.{bears_as}
use Rattle.mh_syncs.proofs.Causing.{unlike_at}
use Rattle.mh_syncs.proofs.stamps.check_message.Goals as goal

pub returns-in-Ok-check_file-clause-bears : goal.returns-in-Ok-check_file-clause-bears
returns-in-Ok-check_file-clause-bears g c =
    bears_as c.args.stamp c.args.stamp c.as_str.result.now
    (path_in c.args.path.now c.args.key.now) _ _ refl
    (c.as_str.ensures.value ∙ c.in-Ok.ensures ∙ ap (path_in c.args.path.now) c.in-Some.ensures.name)
    c.in-Ok-check_file.ensures.bears

pub returns-clause-cause : goal.returns-clause-cause
returns-clause-cause g c =
    unlike_at c.args.path.now c.args.key.now c.as_str.result.now c.args.stamp
    c.in-Err-check_file.why _ _
    (c.as_str.ensures.value ∙ c.in-Ok.ensures ∙ ap (path_in c.args.path.now) c.in-Some.ensures.name)
    c.in-Err-check_file.ensures.cause
