use Rattle.std.proofs.Common.{◌≡◌, ◌∙◌, ◌∷◌, sym, ap, subst}
use Rattle.std.specs.Prelude.{IfErr}
use Rattle.rc_lang.specs.Requests.{set_command_of}
use Rattle.rc_lang.specs.Settings.{TakesFront, plain_names}
use Rattle.rc_lang.proofs.RunLemmas.{takes_none, kept_front}
use Rattle.rc_lang.proofs.settings.Settings.apply.Goals as goal

pub returns-in_default-from_word-clause-kept : goal.returns-in_default-from_word-clause-kept
returns-in_default-from_word-clause-kept c = takes_none _ _

pub returns-clause-kept : goal.returns-clause-kept
returns-clause-kept c =
    let words : plain_names c.args.words.now.items
    ≡ c.in-Some.first.now.items ∷ plain_names c.in-Some.rest.now =
    ap plain_names (sym c.as_slice.ensures ∙ c.in-Some.ensures.cases.0) in
    subst (λ ws. IfErr c.take_words.result (λ e. TakesFront c.args.self.now ws
    c.take_words.new.self)) (sym words)
    (kept_front c.in-Some-from_word.command c.args.self.now c.take_words.new.self
    c.in-Some.first.now.items
    (plain_names c.in-Some.rest.now) c.take_words.result
    (ap set_command_of (sym c.as_slice-2.ensures)
    ∙ sym c.in-Some-from_word.ensures) c.take_words.ensures)
