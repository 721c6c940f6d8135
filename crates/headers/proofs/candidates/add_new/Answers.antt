use Rattle.std.proofs.Common.{◌≡◌, ◌++◌, ◌∷◌, [], true, false, map, refl, sym, ap, ◌∙◌}
use Rattle.std.specs.List.{list_any}
use Rattle.std.specs.Str.{bytes_eq}
use Rattle.std.proofs.lemmas.List.{map-append}
use Rattle.headers.specs.Candidates.{texts}
use Rattle.headers.proofs.CandidatesLemmas.{list_any-map}
use Rattle.headers.proofs.candidates.add_new.Goals as goal

pub returns-then-is_among : goal.returns-then-is_among
returns-then-is_among c =
    let id = c.args.id.now in
    let names = c.args.names.now in
    let found : list_any (bytes_eq id) (texts names.items) ≡ true =
    list_any-map (bytes_eq id) (λ n. n.items) names.items
    ∙ ap (list_any (λ n. bytes_eq id n.items)) (sym c.as_slice.ensures.value)
    ∙ sym c.is_among.ensures
    ∙ c.if-is_among.true
    in
    rw found refl

pub returns : goal.returns
returns c =
    let id = c.args.id.now in
    let names = c.args.names.now in
    let found : list_any (bytes_eq id) (texts names.items) ≡ false =
    list_any-map (bytes_eq id) (λ n. n.items) names.items
    ∙ ap (list_any (λ n. bytes_eq id n.items)) (sym c.as_slice.ensures.value)
    ∙ sym c.is_among.ensures
    ∙ c.if-is_among.false
    in
    rw found
    (ap (map (λ n. n.items)) c.in_ok-push.ensures.items
    ∙ map-append (λ n. n.items) names.items (c.in_ok-copy_of.field-0 ∷ [])
    ∙ ap (λ i. texts names.items ++ i ∷ []) c.in_ok-copy_of.ensures)
