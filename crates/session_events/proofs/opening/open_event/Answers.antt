use Rattle.std.proofs.Common.{refl, rules}
use Rattle.session_events.proofs.Looked.{opened_told, unopened_told}
use Rattle.session_events.proofs.TouchLemmas.{alone_named, may_named}
use Rattle.session_events.proofs.opening.open_event.Goals as goal

pub returns-in-Ok-clause-tells : goal.returns-in-Ok-clause-tells
returns-in-Ok-clause-tells g c at empty owner = record {
  marks = record {
    mark_before = c.mark-mark_before.result;
    mark_after = c.mark.result;
    faults_before = c.faults-faults_before.result;
    faults_after = c.faults.result;
  };
  marked = refl;
  before = search rules;
  after = search rules;
  on = c.in-Ok.ensures.marks;
  faults = c.in-Ok.ensures.faults;
  cause = c.in-Ok.ensures.driver;
  happened = opened_told at c.args.empty c.args.owner.now _ c.args.path.now _ _ _ _ _ empty owner
      c.requires.name c.in-Ok.ensures.fresh.1 c.in-Ok.ensures.looked;
  touches = alone_named c.in-Ok.opened.kind c.args.path.now _ _ _ c.requires.name
      c.in-Ok.ensures.here;
  first = search rules;
  last = search rules;
}

pub returns-in-Err-clause-tells : goal.returns-in-Err-clause-tells
returns-in-Err-clause-tells g c at empty owner = record {
  marks = record {
    mark_before = c.mark-mark_before.result;
    mark_after = c.mark.result;
    faults_before = c.faults-faults_before.result;
    faults_after = c.faults.result;
  };
  marked = refl;
  before = search rules;
  after = search rules;
  on = c.in-Err.ensures.marks;
  faults = c.in-Err.ensures.faults;
  cause = rw (c.faults-faults_before.ensures, c.faults.ensures) c.in-Err.ensures.cause;
  happened = unopened_told _ at c.args.empty c.args.owner.now c.args.path.now _ _ _ _ empty owner
      c.requires.name c.in-Err.ensures.looked;
  touches = may_named c.args.path.now _ _ _ c.requires.name c.in-Err.ensures.here;
  first = search rules;
  last = search rules;
}
