use Rattle.std.proofs.Common.{ap, map}
use Rattle.folder_core.proofs.SeenLemmas.{first_and_rest, none_left}
use Rattle.maildir_folder.specs.Steps.{plain_step}
use Rattle.folder_changes.specs.Asked.{discarded}
use Rattle.maildir_folder.proofs.StepLemmas.{so_far_end, so_far_first}
use Rattle.folder_changes.proofs.ServingLemmas.{serves_first, serves_then}
use Rattle.maildir_folder.proofs.StepLemmas.{so_far_calls, so_far_cause, so_far_failed}
use Rattle.maildir_folder.proofs.StepLemmas.{so_far_more, so_far_refused}
use Rattle.maildir_folder.proofs.StopLemmas.{held_first, held_more}
use Rattle.maildir_folder.proofs.steps.take_steps.Goals as goal

pub loop-left-init : goal.loop-left-init
loop-left-init g c = record {
  serves = serves_first _;
  does = λ path mails changes apart are.
      so_far_first path mails changes (map plain_step c.args.steps.now) _ apart are;
  holds = λ path mails changes are.
      held_first path mails changes (map plain_step c.args.steps.now) _ are;
}

pub loop-left-preserved : goal.loop-left-preserved
loop-left-preserved g c =
    let whole =
    first_and_rest c.loop-left.left.now _ c.step-item.result c.step-item.is
    c.in-len1-up.len_at_least in
    record {
      serves = serves_then tt _ _ _ _ c.loop-left.invariant.serves c.in-Ok.ensures.serves;
      does = λ path mails changes apart are.
          so_far_more path mails changes (plain_step c.step-item.result)
          (map plain_step c.loop-left.left.now) _ _ _ _
          (ap (map plain_step) whole)
          (c.loop-left.invariant.does path mails changes apart are) c.in-Ok.ensures.serves.grows
          c.take_step.ensures.calls c.in-Ok.ensures.takes.done;
      holds = λ path mails changes are.
          held_more path (discarded mails changes) mails (plain_step c.step-item.result)
          (map plain_step c.loop-left.left.now) _ _ _ _ (ap (map plain_step) whole)
          (c.loop-left.invariant.holds path mails changes are) c.in-Ok.ensures.takes.holds;
    }

pub returns-clause-does : goal.returns-clause-does
returns-clause-does g c path mails changes apart are =
    so_far_end path mails changes (map plain_step c.loop-left.left.now) _ _
    (ap (map plain_step) (none_left c.loop-left.left.now c.in_default.len_below))
    (c.loop-left.invariant.does path mails changes apart are)

pub returns-in-Err-clause-names : goal.returns-in-Err-clause-names
returns-in-Err-clause-names g c path mails changes apart are =
    let whole =
    first_and_rest c.loop-left.left.now _ c.step-item.result c.step-item.is
    c.in-len1-up.len_at_least in
    so_far_refused path mails changes (plain_step c.step-item.result)
    (map plain_step c.loop-left.left.now) _ _ _ c.in-Err.why (ap (map plain_step) whole)
    (c.loop-left.invariant.does path mails changes apart are) c.in-Err.ensures.at

pub returns-in-Err-clause-does : goal.returns-in-Err-clause-does
returns-in-Err-clause-does g c path mails changes apart are =
    so_far_failed path mails changes (map plain_step c.loop-left.left.now) c.in-Err.why _ _ _
    (c.loop-left.invariant.does path mails changes apart are) (c.in-Err.ensures.takes.refused path)

pub returns-clause-holds : goal.returns-clause-holds
returns-clause-holds g c path mails changes are =
    (c.loop-left.invariant.holds path mails changes are).held

pub returns-in-Err-clause-holds : goal.returns-in-Err-clause-holds
returns-in-Err-clause-holds g c path mails changes are =
    let whole =
    first_and_rest c.loop-left.left.now _ c.step-item.result c.step-item.is
    c.in-len1-up.len_at_least in
    let so_far =
    held_more path (discarded mails changes) mails (plain_step c.step-item.result)
    (map plain_step c.loop-left.left.now) _ _ _ _ (ap (map plain_step) whole)
    (c.loop-left.invariant.holds path mails changes are) c.in-Err.ensures.takes.holds in
    so_far.held

pub returns-clause-calls : goal.returns-clause-calls
returns-clause-calls g c path mails changes apart are =
    so_far_calls path mails changes (map plain_step c.loop-left.left.now) _ _
    (c.loop-left.invariant.does path mails changes apart are)

pub returns-in-Err-clause-cause : goal.returns-in-Err-clause-cause
returns-in-Err-clause-cause g c path mails changes apart are =
    let whole =
    first_and_rest c.loop-left.left.now _ c.step-item.result c.step-item.is
    c.in-len1-up.len_at_least in
    so_far_cause path mails changes (plain_step c.step-item.result)
    (map plain_step c.loop-left.left.now) _ _ _ _ c.in-Err.why (ap (map plain_step) whole)
    (c.loop-left.invariant.does path mails changes apart are) c.in-Err.ensures.serves.grows
    c.in-Err.ensures.at c.in-Err.ensures.cause
