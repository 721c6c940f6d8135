use Rattle.std.proofs.Common.{◌≡◌, ◌∙◌, ◌++◌, ◌∷◌, ◌<◌, ℕ, List, [], Some, Vec, option_map}
use Rattle.std.proofs.Common.{ap, sym, arith, get_or, set, length}
use Rattle.std.proofs.lemmas.List.{get_or-map, length-map, length-set, map-set}
use Rattle.std.specs.declared.alloc.Global.{Global}
use Rattle.threads.specs.Families.{lists}
use Rattle.threads.specs.Links.{target}
use Rattle.threads.specs.declared.step.Step.{Step}
use Rattle.threads.proofs.TreeLemmas.{child_put, root_kept}
use Rattle.threads.proofs.order.Families.put.Goals as goal

pub index_mut-requires : goal.index_mut-requires
index_mut-requires c =
    let is : target c.args.parents.now c.args.place ≡ Some c.in-Some.step.place =
    ap (option_map (λ (s : Step). s.place)) c.in-Some.is in
    omega (arith, c.requires.long, c.requires.leads c.args.place c.in-Some.step.place is)

pub returns-in_ok-push-in-Some : goal.returns-in_ok-push-in-Some
returns-in_ok-push-in-Some c = λ added old.
    let parents = c.args.parents.now in
    let place = c.args.place in
    let above = c.in-Some.step.place in
    let children = c.args.self.now.children.items in
    let is : target parents place ≡ Some above =
    ap (option_map (λ (s : Step). s.place)) c.in-Some.is in
    let within : above < length children =
    omega (arith, old.long, c.requires.leads place above is) in
    let pushed : c.push.new.self.items ≡ get_or (lists children) above [] ++ place ∷ [] =
    c.in_ok-push-in-Some.ensures.items
    ∙ ap (λ (l : List ℕ). l ++ place ∷ [])
    (ap (λ (v : Vec ℕ Global). v.items) c.index_mut.ensures.value
    ∙ sym (get_or-map (λ (v : Vec ℕ Global). v.items) children above c.index_mut.result.now []
    within)) in
    record {
      long = length-set children above c.push.new.self ∙ old.long;
      roots = old.roots ∙ sym (root_kept parents place above added is);
      children = λ p lt.
          ap (λ (l : List (List ℕ)). get_or l p [])
          (map-set (λ (v : Vec ℕ Global). v.items) children above c.push.new.self
          ∙ ap (set (lists children) above) pushed)
          ∙ child_put parents place above added (lists children) is
          (length-map children (λ v. v.items) ∙ old.long) old.children p lt;
    }
