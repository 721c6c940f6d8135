use Rattle.std.proofs.Common.{Ok, ◌≡◌, ◌++◌, ◌∷◌, [], ap, sym, ◌∙◌, inl, inr, rules}
use Rattle.std.proofs.lemmas.Result.{err_from_is_err_and}
use Rattle.rc_lang.specs.Expansion.{before_all}
use Rattle.key_requests.specs.Requests.{menus_in, names_in}
use Rattle.key_requests.proofs.MenusLemmas.{last_menu, last_refused, menus_more, menus_refused}
use Rattle.key_requests.proofs.request.menus_of.Goals as goal

pub returns-in_err-menu : goal.returns-in_err-menu
returns-in_err-menu c =
    let p = err_from_is_err_and c.from_residual.result c.from_residual.ensures.1 in
    rw (p.1, p.2) (elim c.in_err-menu.ensures [
      | inl at ↦ inl (sym c.loop-name.invariant
          ∙ menus_refused c.loop-name.menus.items c.args.word.now c.loop-name.left.now _
          c.in-Some.ensures.value _ at)
      | inr at ↦ inr at
    ])

pub loop-name-preserved : goal.loop-name-preserved
loop-name-preserved c =
    let pushed : c.push.new.self.items
    ≡ c.loop-name.menus.items ++ c.in_ok-menu.menu ∷ [] = search rules in
    ap (λ menus. before_all menus (menus_in c.args.word.now (names_in c.in-Some.rest.now))) pushed
    ∙ menus_more c.loop-name.menus.items c.args.word.now c.loop-name.left.now _
    c.in-Some.ensures.value
    c.in_ok-menu.menu c.in_ok-menu.ensures ∙ c.loop-name.invariant

pub returns-in_err-last : goal.returns-in_err-last
returns-in_err-last c =
    let p = err_from_is_err_and c.from_residual-in_err-last.result
    c.from_residual-in_err-last.ensures.1 in
    rw (p.1, p.2) (elim c.in_err-last.ensures [
      | inl at ↦ inl (sym c.loop-name.invariant
          ∙ last_refused c.loop-name.menus.items c.args.word.now c.loop-name.left.now
          (sym c.in_default.ensures.value)
          _ at)
      | inr at ↦ inr at
    ])

pub returns : goal.returns
returns c =
    sym c.loop-name.invariant
    ∙ last_menu c.loop-name.menus.items c.args.word.now c.loop-name.left.now
    (sym c.in_default.ensures.value)
    c.in_ok-last.last c.in_ok-last.ensures ∙ ap Ok (sym c.in-Ok-push.ensures.items)
