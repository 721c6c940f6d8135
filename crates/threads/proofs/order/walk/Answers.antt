use Rattle.std.proofs.Common.{◌≡◌, ◌∙◌, ◌++◌, ◌∷◌, ◌<◌, ℕ, List, [], Vec, ap, subst, sym, length}
use Rattle.std.proofs.Common.{reverse, map, get_or, arith}
use Rattle.std.proofs.lemmas.List.{get_or-map, reverse-append}
use Rattle.std.specs.List.{flat_map}
use Rattle.std.specs.declared.alloc.Global.{Global}
use Rattle.mail_base.specs.declared.kind.Id.{Id}
use Rattle.threads.specs.Families.{below, lists}
use Rattle.threads.specs.Message.{PlainMessage, no_message, plain_message, plain_messages}
use Rattle.threads.specs.Order.{id_at, tree_of}
use Rattle.threads.specs.Walk.{Each}
use Rattle.threads.proofs.CycleLemmas.{Each-join}
use Rattle.threads.proofs.WalkLemmas.{reverse_push}
use Rattle.threads.proofs.TreeLemmas.{walked}
use Rattle.threads.proofs.order.walk.Goals as goal

pub loop-place-preserved : goal.loop-place-preserved
loop-place-preserved c =
    let messages = c.args.messages.now in
    let n = length messages in
    let f = id_at (plain_messages messages) in
    let place = c.in-Some.place in
    let rest = c.pop.new.self.items in
    let children = c.args.families.children.items in
    let out = c.loop-place.order.items in
    let trees = λ (l : List ℕ). map f (flat_map (tree_of (below children) n) l) in
    let waits : reverse c.loop-place.stack.items ≡ place ∷ reverse rest =
    ap reverse c.in-Some.ensures.items ∙ reverse_push rest place in
    let within : Each (λ p. p < n) (place ∷ reverse rest) =
    subst (Each (λ p. p < n)) waits c.loop-place.invariant.within in
    let read : c.deref.result.now ≡ get_or (lists children) place [] =
    c.deref.ensures.value ∙ ap (λ (v : Vec ℕ Global). v.items) c.index.ensures
    ∙ sym (get_or-map (λ (v : Vec ℕ Global). v.items) children place c.index.result.now []
    (omega (arith, c.requires.long, within.0))) in
    let wait_now : reverse c.put_all.new.stack.items ≡ below children place ++ reverse rest =
    ap reverse c.in_ok-put_all.ensures ∙ reverse-append rest c.deref.result.now
    ∙ ap (λ (l : List ℕ). reverse l ++ reverse rest) read in
    let put : c.push.new.self.items ≡ out ++ f place ∷ [] =
    c.in_ok-push.ensures.items
    ∙ ap (λ (m : PlainMessage). out ++ m.id ∷ [])
    (sym (get_or-map plain_message messages place c.index-messages-place.result no_message
    within.0)) in
    record {
      within = subst (Each (λ p. p < n)) (sym wait_now)
          (Each-join (λ p. p < n) (below children place) (reverse rest)
          (c.requires.trees.within place within.0) within.1);
      done = c.loop-place.invariant.done ∙ ap (λ (l : List ℕ). out ++ trees l) waits
          ∙ walked f (below children) n place (reverse rest) out
          (c.requires.trees.unfolds place within.0)
          ∙ ap (λ (l : List Id). l ++ trees (below children place ++ reverse rest)) (sym put)
          ∙ ap (λ (l : List ℕ). c.push.new.self.items ++ trees l) (sym wait_now);
    }
