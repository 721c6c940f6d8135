use Rattle.std.proofs.Common.{Err, ap, refl, rules}
use Rattle.session_events.proofs.FileLemmas.{read_cause, read_told}
use Rattle.session_events.proofs.source.source_event.Goals as goal

pub returns-in-Ok-clause-tells : goal.returns-in-Ok-clause-tells
returns-in-Ok-clause-tells g c = record {
  marks = record {
    mark_before = c.mark-mark_before.result;
    mark_after = c.mark.result;
    faults_before = c.faults-faults_before.result;
    faults_after = c.faults.result;
  };
  marked = refl;
  before = search rules;
  after = search rules;
  on = search rules;
  faults = search rules;
  cause = tt;
  happened = rw c.requires (read_told c.in-Ok.file.stat _ _ _ _ c.in-Ok.ensures.step.called.goes);
  looks = search rules;
  first = search rules;
  last = search rules;
}

pub returns-in-Err-clause-tells : goal.returns-in-Err-clause-tells
returns-in-Err-clause-tells g c = record {
  marks = record {
    mark_before = c.mark-mark_before.result;
    mark_after = c.mark.result;
    faults_before = c.faults-faults_before.result;
    faults_after = c.faults.result;
  };
  marked = refl;
  before = search rules;
  after = search rules;
  on = search rules;
  faults = search rules;
  cause = read_cause c.in-Err.why _ _ _ c.faults-faults_before.ensures c.faults.ensures
      (λ is. c.in-Err.ensures.step.counts.cause (ap Err is));
  happened = rw c.requires c.in-Err.ensures.step.called.goes;
  looks = search rules;
  first = search rules;
  last = search rules;
}
