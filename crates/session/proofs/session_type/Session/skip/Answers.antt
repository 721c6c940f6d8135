use Rattle.std.proofs.Common.{ap}
use Rattle.session.specs.declared.session_type.Session.{Session}
use Rattle.session.proofs.session_type.Session.skip.Goals as goal

pub returns-clause-rest : goal.returns-clause-rest
returns-clause-rest g c = record {
  view = c.tell.ensures.view;
  reader = c.tell.ensures.reader;
  stage = ap (λ (s : Session). s.stage) c.tell.ensures.same;
  window = ap (λ (s : Session). s.window) c.tell.ensures.same;
  moment = ap (λ (s : Session). s.moment) c.tell.ensures.same;
  folder = ap (λ (s : Session). s.folder) c.tell.ensures.same;
  replaced = ap (λ (s : Session). s.queue.replaced) c.tell.ensures.same;
}
