use Rattle.std.proofs.Common.{◌<◌, length, map}
use Rattle.std.proofs.lemmas.List.Elements.{All-rest}
use Rattle.folder_core.proofs.SeenLemmas.{first_and_rest, none_left}
use Rattle.folder_letters.specs.Letters.{plain_letter}
use Rattle.maildir_folder.specs.Candidates.{plain_file}
use Rattle.folder_changes.specs.Asked.{ids_changed}
use Rattle.maildir_folder.specs.Steps.{plain_step}
use Rattle.maildir_folder.proofs.PlanLemmas.{among_first, among_more, finish_end, finish_more}
use Rattle.maildir_folder.proofs.PlanLemmas.{refused_among}
use Rattle.maildir_folder.proofs.plan.plan.Goals as goal

pub returns-in-Err-clause-gone : goal.returns-in-Err-clause-gone
returns-in-Err-clause-gone c =
    let whole = first_and_rest c.loop-left.left.now _ c.changed-item.result c.changed-item.is
    c.in-len1-up.len_at_least in
    refused_among (map plain_file c.args.files.now) (map plain_letter c.args.archive.now)
    c.changed-item.result.id (ids_changed c.args.changes.now) c.in-Err.why
    (c.loop-left.invariant.among c.changed-item.result.id
    (among_first c.changed-item.result c.loop-left.left.now _ whole))
    c.in-Err.ensures.gone

pub loop-left-preserved : goal.loop-left-preserved
loop-left-preserved c =
    let inv = c.loop-left.invariant in
    let whole = first_and_rest c.loop-left.left.now _ c.changed-item.result c.changed-item.is
    c.in-len1-up.len_at_least in
    record {
      within = All-rest (λ changed. changed.id.0 < length c.args.archive.now)
          c.changed-item.result _ c.loop-left.left.now whole inv.within;
      among = λ id held. inv.among id
          (among_more id c.changed-item.result c.loop-left.left.now _ whole held);
      finishes = finish_more c.args.path.now (map plain_letter c.args.archive.now)
          c.changed-item.result c.args.changes.now c.loop-left.left.now _
          (map plain_step c.loop-left.steps.items) _ whole c.in-Ok.ensures.step inv.finishes;
    }

pub returns-clause-steps : goal.returns-clause-steps
returns-clause-steps c =
    finish_end c.args.path.now (map plain_letter c.args.archive.now) c.args.changes.now
    c.loop-left.left.now (map plain_step c.loop-left.steps.items)
    (none_left c.loop-left.left.now c.in_default.len_below) c.loop-left.invariant.finishes
