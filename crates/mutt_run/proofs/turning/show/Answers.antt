use Rattle.std.proofs.Common.{◌∙◌, ℕ, List, ap, arith, rules, subst}
use Rattle.mail_base.proofs.Sending.{sent_none}
use Rattle.mutt_run.specs.Going.{Shows}
use Rattle.mutt_run.specs.Screens.{screen_text}
use Rattle.mutt_run.proofs.turning.show.Goals as goal

pub returns-in_default : goal.returns-in_default
returns-in_default g c = record {
  ok = search rules;
  err = (_, sent_none _ _);
  which = search rules;
  cause = search rules;
  later = omega arith;
}

pub returns-in_default-screen_bytes : goal.returns-in_default-screen_bytes
returns-in_default-screen_bytes g c = record {
  ok = search rules;
  err = (_, sent_none _ _);
  which = search rules;
  cause = search rules;
  later = omega arith;
}

pub returns : goal.returns
returns g c =
    subst (λ (piece : List ℕ). Shows {T = Unit {0}} c.print.result piece
    (g.O.Sink.written c.args.out.now) (g.O.Sink.written c.print.new.out)
    (g.O.Sink.faults c.args.out.now) (g.O.Sink.faults c.print.new.out))
    (c.as_slice.ensures ∙ c.in-Ok-screen_bytes.ensures ∙ ap screen_text c.in-Ok.ensures.lines)
    (record {
      ok = c.print.ensures.ok;
      err = c.print.ensures.err;
      which = search rules;
      cause = search rules;
      later = c.print.ensures.later;
    })
