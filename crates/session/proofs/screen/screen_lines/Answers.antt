use Rattle.std.proofs.Common.{◌∙◌, ◌++◌, ◌∷◌, [], List, ap, append_assoc, map, ℕ}
use Rattle.std.proofs.lemmas.List.{map-append}
use Rattle.mail_base.specs.Series.{Held}
use Rattle.session.specs.Screen.{screen}
use Rattle.session.proofs.screen.screen_lines.Goals as goal

pub returns-clause-lines : goal.returns-clause-lines
unfolding screen
returns-clause-lines c =
    let lines = c.in_ok-lines.lines.items in
    let status = c.in_ok-state_line.field-0 in
    let last = c.in_ok-last_line.field-0 in
    let page = c.in_ok-lines.ensures in
    let line = c.in_ok-state_line.ensures in
    let told = c.in_ok-last_line.ensures in
    ap (λ (all : List (Held ℕ)). map (λ l. l.items) all)
    (c.in_ok-push-2.ensures.ok
    ∙ ap (λ (all : List (Held ℕ)). all ++ last ∷ []) c.in_ok-push.ensures.ok
    ∙ append_assoc lines (status ∷ []) (last ∷ []))
    ∙ map-append (λ l. l.items) lines (status ∷ last ∷ [])
    ∙ (λ i. page i ++ line i ∷ told i ∷ [])
