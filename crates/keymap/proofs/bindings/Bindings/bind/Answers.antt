use Rattle.std.proofs.Common.{◌≡◌, ◌∙◌, sym, ap, map}
use Rattle.indexmap.specs.IndexMap.{insert_entry}
use Rattle.keymap.specs.Bindings.{bound, is_begun, plain_action, plain_binding}
use Rattle.keymap.proofs.BindingsLemmas.{bound_entries, equal_keys, kept_bound, on_ok}
use Rattle.keymap.proofs.bindings.Bindings.bind.Goals as goal

pub invariant_of-self-2 : goal.invariant_of-self-2
invariant_of-self-2 c =
    let before = c.self.inside.actions.entries in
    let entries : c.insert.new.self.entries ≡ insert_entry equal_keys before c.in_ok-whole.whole
    c.args.action =
    on_ok c.insert.result (c.insert.ensures.succeeds c.in_ok-reserve.ensures.ok)
    c.insert.ensures.entries
    ∙ ap (λ l. insert_entry equal_keys l c.in_ok-whole.whole c.args.action)
    c.in_ok-reserve.ensures.entries in
    λ s.
    kept_bound before c.self.inside.fronts.keys c.add_fronts.new.fronts.keys c.in_ok-whole.whole
    c.args.action c.args.keys.now s c.in_ok-whole.ensures.items (c.self.invariant s)
    (c.in_ok-add_fronts.ensures.ok s)
    ∙ ap (λ l. is_begun (map plain_binding l) s) (sym entries)

pub returns-clause-ok : goal.returns-clause-ok
returns-clause-ok c =
    let before = c.self.inside.actions.entries in
    let entries : c.insert.new.self.entries ≡ insert_entry equal_keys before c.in_ok-whole.whole
    c.args.action =
    on_ok c.insert.result (c.insert.ensures.succeeds c.in_ok-reserve.ensures.ok)
    c.insert.ensures.entries
    ∙ ap (λ l. insert_entry equal_keys l c.in_ok-whole.whole c.args.action)
    c.in_ok-reserve.ensures.entries in
    ap (map plain_binding) entries ∙ bound_entries before c.in_ok-whole.whole c.args.action
    ∙ ap (λ k. bound (map plain_binding before) k
    (plain_action c.args.action)) c.in_ok-whole.ensures.items
    ∙ ap (λ l. bound l c.args.keys.now (plain_action c.args.action)) c.self.view_is
