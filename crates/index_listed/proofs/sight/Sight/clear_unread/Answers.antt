use Rattle.std.proofs.Common.{◌≡◌, ◌∙◌, ap, arith, false}
use Rattle.std.proofs.lemmas.Simd.{splat_is_map}
use Rattle.std.specs.Vec.{vec_len}
use Rattle.index_listed.specs.Seen.{no_marks, without_unread}
use Rattle.index_listed.proofs.sight.Sight.clear_unread.Goals as goal

pub returns : goal.returns
returns c =
    let kept = c.self.inside in
    let new : c.fill.new.self.items ≡ no_marks kept.tree = c.fill.ensures.items (λ y same. same)
    ∙ splat_is_map kept.tree (vec_len kept.new_threads) false
    (omega (arith, kept.new_threads.ok.0, c.self.invariant.new_long)) in
    let old : c.fill-2.new.self.items ≡ no_marks kept.tree = c.fill-2.ensures.items (λ y same. same)
    ∙ splat_is_map kept.tree (vec_len kept.old_threads) false
    (omega (arith, kept.old_threads.ok.0, c.self.invariant.old_long)) in
    rw (new, old) (ap without_unread c.self.view_is)
