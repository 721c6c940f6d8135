use Rattle.std.proofs.Common.{◌≡◌, ◌∙◌, ℕ, List, map, subst}
use Rattle.folder_core.specs.Keeping.{mail_of}
use Rattle.folder_letters.specs.Letters.{plain_letter}
use Rattle.index_items.specs.Changes.{plain_change}
use Rattle.maildir_folder.specs.Candidates.{plain_file}
use Rattle.maildir_folder.specs.Steps.{IsStepOf, plain_step}
use Rattle.maildir_folder.proofs.PlanLemmas.{found_step, letter_key}
use Rattle.maildir_folder.proofs.plan.step_for.Goals as goal

pub returns-in-Ok-clause-step : goal.returns-in-Ok-clause-step
returns-in-Ok-clause-step c =
    let key : c.as_slice-key.result.now
    ≡ (mail_of (map plain_letter c.args.archive.now) c.args.changed.id.0).key =
    c.as_slice-key.ensures
    ∙ letter_key c.args.archive.now c.args.changed.id.0 _ c.requires.within in
    subst (λ (base : List ℕ). IsStepOf c.args.path.now base (plain_change c.args.changed.change)
    (plain_step c.in-Ok.step)) key
    (found_step c.args.path.now c.as_slice-key.result.now c.args.changed.change
    (map plain_file c.args.files.now) (plain_file c.in-Some.file.now) _ c.in-Some.ensures.file
    c.in-Ok.ensures)
