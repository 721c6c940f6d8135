use Rattle.std.proofs.Common.{ap, drop, ◌∙◌}
use Rattle.bstr.proofs.lemmas.UnicodeLemmas.{none_after_valid}
use Rattle.bstr.specs.Utf8.{decoded}
use Rattle.mail_base.proofs.shown.text_len.Goals as goal

pub returns-in-Err-clause-behind : goal.returns-in-Err-clause-behind
returns-in-Err-clause-behind c =
    ap (λ n. (decoded (drop n c.args.bytes.now)).char) c.valid_up_to.ensures
    ∙ none_after_valid c.args.bytes.now _ c.in-Err.ensures.cases.1
