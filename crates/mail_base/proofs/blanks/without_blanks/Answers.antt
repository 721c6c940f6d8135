use Rattle.std.proofs.Common.{not, sym, ap, ◌∙◌, drop, length-drop, take_all, arith}
use Rattle.std.proofs.lemmas.List.{drop_all}
use Rattle.mail_base.specs.Blanks.{is_blank}
use Rattle.mail_base.proofs.BlanksLemmas.{without_blanks-drop}
use Rattle.mail_base.proofs.PlacesLemmas.{place_some, place_none}
use Rattle.mail_base.proofs.blanks.without_blanks.Goals as goal

pub returns-in-Some-clause-value : goal.returns-in-Some-clause-value
returns-in-Some-clause-value c =
    let s = c.args.text.now in
    let at = place_some (λ b. not (is_blank b)) s c.in-Some.at
    (sym c.first_solid.ensures.value ∙ c.in-Some.is) in
    take_all _ _ (omega (arith, length-drop c.in-Some.at s))
    ∙ ap (λ n. drop n s) (sym at)
    ∙ sym (without_blanks-drop s)

pub returns-in-None-clause-value : goal.returns-in-None-clause-value
returns-in-None-clause-value c =
    let s = c.args.text.now in
    let past =
    place_none (λ b. not (is_blank b)) s (sym c.first_solid.ensures.value ∙ c.in-None.is) in
    sym (without_blanks-drop s ∙ drop_all _ s past)
