use Rattle.std.proofs.Common.{sym, ap, take}
use Rattle.mail_base.proofs.BlanksLemmas.{solid_len_some, solid_len_none}
use Rattle.mail_base.proofs.blanks.without_last_blanks.Goals as goal

pub returns-in-Some-clause-value : goal.returns-in-Some-clause-value
returns-in-Some-clause-value c =
    let s = c.args.text.now in
    ap (λ n. take n s) (sym (solid_len_some s c.in-Some.at (c.in-Some.ensures.value)))

pub returns-in-None-clause-value : goal.returns-in-None-clause-value
returns-in-None-clause-value c =
    let s = c.args.text.now in
    ap (λ n. take n s) (sym (solid_len_none s c.in-None.ensures.value))
