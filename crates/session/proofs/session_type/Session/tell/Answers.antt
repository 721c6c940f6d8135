use Rattle.std.proofs.Common.{ap}
use Rattle.session.specs.declared.core_state.Core.{Core}
use Rattle.session.proofs.session_type.Session.tell.Goals as goal

pub returns-clause-reader : goal.returns-clause-reader
returns-clause-reader c = ap (λ (core : Core). core.reader) c.show.ensures.rest
