use Rattle.std.proofs.Common.{◌∙◌, ap, subst, sym}
use Rattle.index_view.specs.View.{IsOf}
use Rattle.session_index.specs.Desk.{PlainDesk}
use Rattle.index_functions.specs.declared.notice.Notice.TheVariants.{MacroLoop}
use Rattle.session_state.specs.Rules.{PlainRules}
use Rattle.session.specs.Answers.{granted}
use Rattle.session.specs.Core.{CoreState, Reads, plain_core, said, with_desk}
use Rattle.session.specs.declared.core_state.Core.{Core}
use Rattle.session.proofs.TurnLemmas.{put_off}
use Rattle.session.proofs.turn.drop_keys.Goals as goal

pub returns-clause-over : goal.returns-clause-over
returns-clause-over c = λ mails window over. record {
  is_of = subst (IsOf mails) (sym (c.take_wanted.ensures.view ∙ c.say.ensures.view)) over.is_of;
  reads = subst (Reads mails window) (sym c.take_wanted.ensures.rest)
      (subst (λ (r : PlainRules). let next : Core = record c.args.core.now { rules = r } in
      Reads mails window next) (sym c.drop_puts.ensures) over.reads);
}

pub returns-clause-dropped : goal.returns-clause-dropped
returns-clause-dropped c = λ g.
    let old : CoreState = plain_core c.args.core.now in
    put_off g old (plain_core c.take_wanted.new.self) c.args.queue.now c.clear.new.self
    c.requires.full c.requires.some
    (c.take_wanted.ensures.core ∙ ap granted
    (ap (λ (d : PlainDesk). with_desk d (record old { rules = c.drop_puts.new.self }))
    c.say.ensures.desk
    ∙ ap (λ (r : PlainRules). said MacroLoop (record old { rules = r })) c.drop_puts.ensures))
    c.clear.ensures.items c.clear.ensures.replaced
