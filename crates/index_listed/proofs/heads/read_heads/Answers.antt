use Rattle.std.proofs.Common.{◌≡◌, ◌∙◌, ◌+◌, ◌∷◌, [], ◌<◌, ap, arith, length, map, subst, sym}
use Rattle.std.proofs.lemmas.List.{length-append, length-map, map_push}
use Rattle.folder_letters.specs.Letters.{plain_letter}
use Rattle.headers.specs.Header.{plain_header}
use Rattle.std.proofs.Common.{slice_index_or}
use Rattle.index_listed.specs.Heads.{AreHeads}
use Rattle.index_listed.specs.Listed.{header_of, no_mail}
use Rattle.index_listed.proofs.HeadLemmas.{front_kept, heads_next, letter_is}
use Rattle.index_listed.proofs.heads.read_heads.Goals as goal

pub loop-alloc-preserved : goal.loop-alloc-preserved
loop-alloc-preserved c =
    let letters = c.args.letters.now in
    let mails = map plain_letter letters in
    let old = c.loop-alloc.heads.items in
    let hs = map plain_header old in
    let n = length old in
    let h = plain_header c.in_ok-next.next in
    let invariant = c.loop-alloc.invariant in
    let put = c.in_ok-push.ensures.items in
    let at = c.len-in-loop-alloc.result in
    let here : at ≡ n = c.len-in-loop-alloc.ensures ∙ c.loop-alloc.heads.ok.0 in
    let low : n < length letters =
    subst (λ k. k < length letters) (c.len.ensures ∙ c.loop-alloc.heads.ok.0)
    c.loop-alloc-test.true in
    let long : length hs ≡ n = length-map old plain_header in
    let within : length hs < length mails =
    subst (λ k. k < length mails) (sym long) (subst (λ k. n < k)
    (sym (length-map letters plain_letter)) low) in
    let is : h ≡ header_of (slice_index_or mails (length hs) no_mail) =
    c.in_ok-next.ensures
    ∙ ap header_of (letter_is letters at c.index-letters-len.result
    (subst (λ k. k < length letters) (sym here) low) c.index-letters-len.is)
    ∙ ap (λ k. header_of (slice_index_or mails k no_mail)) (here ∙ sym long) in
    let more : length c.push.new.self.items ≡ n + 1 =
    ap length put ∙ length-append old (c.in_ok-next.next ∷ []) in (
      subst (λ l. AreHeads l mails)
          (sym (ap (map plain_header) put ∙ map_push plain_header old c.in_ok-next.next))
          (heads_next hs mails h invariant.0 within is),
      omega (arith, more, invariant.1),
      omega (arith, more, low),
      front_kept c.args.heads.now.items old c.push.new.self.items c.in_ok-next.next put
          invariant.1 invariant.3,
    )
