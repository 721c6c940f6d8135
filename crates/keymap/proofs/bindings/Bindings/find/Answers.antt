use Rattle.std.proofs.Common.{◌∙◌, sym, ap, option_map, true, false}
use Rattle.std.specs.List.{list_any}
use Rattle.std.specs.Map.{lookup}
use Rattle.keymap.specs.Bindings.{found_by, plain_action}
use Rattle.keymap.proofs.BindingsLemmas.{equals, told_found}
use Rattle.keymap.proofs.bindings.Bindings.find.Goals as goal

pub returns-in-Some : goal.returns-in-Some
returns-in-Some c =
    let keys = c.args.keys.now in
    let fronts = c.self.inside.fronts.keys in
    ap (λ o. found_by (option_map plain_action o) (list_any (λ s. equals keys s.items) fronts))
    c.in-Some.ensures.value
    ∙ told_found c.self.inside.actions.entries fronts c.args.self.now keys c.self.view_is
    (c.self.invariant keys)

pub returns-in-None : goal.returns-in-None
returns-in-None c =
    let keys = c.args.keys.now in
    let fronts = c.self.inside.fronts.keys in
    let entries = c.self.inside.actions.entries in
    ap (λ o. found_by (option_map plain_action o) true) c.in-None.ensures.value
    ∙ ap (found_by (option_map plain_action (lookup (λ k. equals keys k.items) entries)))
    (sym c.if-contains.true ∙ c.contains.ensures)
    ∙ told_found entries fronts c.args.self.now keys c.self.view_is (c.self.invariant keys)

pub returns-in-None-2 : goal.returns-in-None-2
returns-in-None-2 c =
    let keys = c.args.keys.now in
    let fronts = c.self.inside.fronts.keys in
    let entries = c.self.inside.actions.entries in
    ap (λ o. found_by (option_map plain_action o) false) c.in-None.ensures.value
    ∙ ap (found_by (option_map plain_action (lookup (λ k. equals keys k.items) entries)))
    (sym c.if-contains.false ∙ c.contains.ensures)
    ∙ told_found entries fronts c.args.self.now keys c.self.view_is (c.self.invariant keys)
