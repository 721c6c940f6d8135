use Rattle.std.proofs.Common.{◌≡◌, ◌∙◌, ◌+◌, ◌<◌, arith, false, length, slice_index_or, subst}
use Rattle.std.proofs.Common.{suc, sym, true}
use Rattle.index_listed.specs.Entries.{at}
use Rattle.index_listed.specs.Seen.{PlainSight, marked_before, with_unread}
use Rattle.index_listed.proofs.UnreadLemmas.{none_before, one_more_before}
use Rattle.index_view.specs.Acting.{unread_in}
use Rattle.index_view.proofs.RemarkLemmas.{unread_there}
use Rattle.index_view.proofs.answers.tell_unread.Goals as goal

pub loop-place-init : goal.loop-place-init
loop-place-init c =
    let news = unread_in false c.args.rows.now c.args.stances.now in
    let olds = unread_in true c.args.rows.now c.args.stances.now in
    let was = c.args.sight.now in
    let is = c.clear_unread.ensures in
    is
    ∙ (λ k. record was {
      new_threads = sym (none_before was.entries news) k;
      old_threads = sym (none_before was.entries olds) k;
    })
    ∙ (λ k. record (sym is k) {
      new_threads = marked_before (sym is k).entries news 0;
      old_threads = marked_before (sym is k).entries olds 0;
    })

pub loop-place-preserved : goal.loop-place-preserved
loop-place-preserved c =
    let rows = c.args.rows.now in
    let all = c.args.stances.now in
    let news = unread_in false rows all in
    let olds = unread_in true rows all in
    let s = c.clear_unread.new.self in
    let n = c.loop-place.place in
    let inv = c.loop-place.invariant in
    let next : suc n ≡ n + 1 = omega arith in
    let low = subst (λ (t : PlainSight). (at t.entries n).root < length t.entries) inv
    c.put_unread.ensures.root in
    let is_new : c.is_unread-is_new.result ≡ slice_index_or news n false =
    c.is_unread-is_new.ensures ∙ sym (unread_there false rows all n) in
    let is_old : c.is_unread-is_old.result ≡ slice_index_or olds n false =
    c.is_unread-is_old.ensures ∙ sym (unread_there true rows all n) in
    c.put_unread.ensures.marked
    ∙ (λ k. with_unread n (is_new k) (is_old k) (inv k))
    ∙ (λ k. record s {
      new_threads = one_more_before s.entries news n low k;
      old_threads = one_more_before s.entries olds n low k;
    })
    ∙ (λ k. record s {
      new_threads = marked_before s.entries news (next k);
      old_threads = marked_before s.entries olds (next k);
    })

pub returns : goal.returns
returns c =
    let news = unread_in false c.args.rows.now c.args.stances.now in
    let olds = unread_in true c.args.rows.now c.args.stances.now in
    let s = c.clear_unread.new.self in
    let is = c.clear_unread.ensures in
    let done : c.loop-place.place ≡ length s.entries =
    omega (arith, c.loop-place.auto.place-end, c.loop-place-test.false, c.len-place-end.ensures.value)
    in
    c.loop-place.invariant
    ∙ (λ k. record s {
      new_threads = marked_before s.entries news (done k);
      old_threads = marked_before s.entries olds (done k);
    })
    ∙ (λ k. record (is k) {
      new_threads = marked_before (is k).entries news (length (is k).entries);
      old_threads = marked_before (is k).entries olds (length (is k).entries);
    })
