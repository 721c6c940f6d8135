use Rattle.std.proofs.Common.{drop, nat_le, sym, ap, ◌∙◌, length-drop, take_all, arith}
use Rattle.std.proofs.lemmas.List.{drop_all}
use Rattle.mail_base.proofs.PlacesLemmas.{place_some, place_none}
use Rattle.mime_tree.proofs.dash_lines.starts_from.Goals as goal

pub returns-in-Some : goal.returns-in-Some
returns-in-Some c =
    let starts = c.args.starts.now in
    let found = place_some (λ at. nat_le c.args.place at) starts c.in-Some.index
    (sym c.first_from.ensures.value ∙ c.in-Some.is) in
    take_all _ _ (omega (arith, length-drop c.in-Some.index starts))
    ∙ ap (λ n. drop n starts) (sym found)

pub returns-in-None : goal.returns-in-None
returns-in-None c =
    let starts = c.args.starts.now in
    sym (drop_all _ starts (place_none (λ at. nat_le c.args.place at) starts
    (sym c.first_from.ensures.value ∙ c.in-None.is)))
