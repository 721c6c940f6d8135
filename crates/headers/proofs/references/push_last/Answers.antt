use Rattle.std.proofs.Common.{◌≤◌, [], ◌∷◌, ◌++◌, length, map, ap, ◌∙◌, arith}
use Rattle.std.proofs.lemmas.List.{length-map, map-append}
use Rattle.mail_base.specs.Series.{plain_texts}
use Rattle.headers.specs.References.{last_ids}
use Rattle.headers.proofs.ReferencesLemmas.{last_ids-first, map_behind_first}
use Rattle.headers.proofs.references.push_last.Goals as goal

pub returns-clause-value : goal.returns-clause-value
returns-clause-value c =
    let items = c.args.names.now.items in
    let names = plain_texts c.args.names.now in
    let id = c.args.id.items in
    let many : 64 ≤ length names =
    omega (arith, length-map items (λ name. name.items), c.len.ensures) in
    ap (λ l. last_ids (map (λ name. name.items) l)) c.in_ok-push-2.ensures.ok
    ∙ ap last_ids (map-append (λ name. name.items) c.remove_first.new.self.items (c.args.id ∷ []))
    ∙ ap (λ l. last_ids (map (λ name. name.items) l ++ id ∷ [])) c.remove_first.ensures
    ∙ ap (λ l. last_ids (l ++ id ∷ [])) (map_behind_first (λ name. name.items) items)
    ∙ last_ids-first names id many
