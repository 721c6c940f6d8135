use Rattle.std.proofs.Common.{Some, ap, sym, ◌∙◌}
use Rattle.disk_model.specs.Tree.{folder_before}
use Rattle.folder_tails.proofs.Folders.{folder_none, folder_some, more_front, root_front}
use Rattle.folder_tails.proofs.sides.folder_of.Goals as goal

pub returns-in-None : goal.returns-in-None
returns-in-None c = folder_none c.args.path.now c.in-None.ensures.cases

pub returns-then-is_empty : goal.returns-then-is_empty
returns-then-is_empty c =
    let finds = c.in-Some.ensures.cases in
    sym (root_front c.in-Some.folder.now (sym c.is_empty.ensures ∙ c.if-is_empty.true))
    ∙ ap (λ front. folder_before (Some front)) finds.3
    ∙ folder_some c.args.path.now finds.0 finds.1 finds.2

pub returns-else-is_empty : goal.returns-else-is_empty
returns-else-is_empty c =
    let finds = c.in-Some.ensures.cases in
    sym (more_front c.in-Some.folder.now (sym c.is_empty.ensures ∙ c.if-is_empty.false))
    ∙ ap (λ front. folder_before (Some front)) finds.3
    ∙ folder_some c.args.path.now finds.0 finds.1 finds.2
