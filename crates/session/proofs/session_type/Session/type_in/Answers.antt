use Rattle.std.proofs.Common.{◌∙◌}
use Rattle.std.proofs.lemmas.Result.{on_ok_weaker}
use Rattle.session.specs.Runs.{acting, plain_session}
use Rattle.session.proofs.ReadingLemmas.{waiting_at}
use Rattle.session.proofs.session_type.Session.type_in.Goals as goal

pub returns-clause-typed : goal.returns-clause-typed
returns-clause-typed g c =
    on_ok_weaker c.settle.result (λ acts given is notes. acts given is notes
    ∙ (λ i. acting given
    (waiting_at (c.in_ok-typed.ensures.items i) (c.in_ok-typed.ensures.replaced i)
    c.args.moment.0 (plain_session c.args.self.now notes)))) c.settle.ensures.acting
