use Rattle.std.proofs.Common.{◌≡◌, ◌++◌, length, take, drop, replicate, subst, sym, ap, ◌∙◌, arith}
use Rattle.std.proofs.Common.{append_assoc}
use Rattle.std.proofs.lemmas.Bool.Decides.{nat_tests}
use Rattle.std.proofs.lemmas.List.{append-nil}
use Rattle.mail_base.specs.Shown.{utf8_text}
use Rattle.mail_base.proofs.ShownLemmas.{utf8_text_none, utf8_text_run}
use Rattle.mail_base.proofs.shown.append_runs.Goals as goal

pub loop-left-preserved : goal.loop-left-preserved
loop-left-preserved c =
    let line = c.loop-left.line.items in
    let left = c.loop-left.left.now in
    let len = c.text_len.result in
    let more = c.malformed_len.result in
    let behind = c.split_at.ensures.back in
    let marks = replicate more 63 in
    let rest = c.split_at-in-loop-left.result.1.now in
    let next : utf8_text (drop len left) ≡ marks ++ utf8_text (drop more (drop len left)) =
    subst (λ l. utf8_text l ≡ marks ++ utf8_text (drop more l)) behind
    c.malformed_len.ensures.text in
    let rest_is : rest ≡ drop more (drop len left) =
    c.split_at-in-loop-left.ensures.back ∙ ap (drop more) behind in
    ap (λ l. l ++ utf8_text rest)
    (c.in_ok-push_marks.ensures
    ∙ ap (λ n. c.append_bytes.new.self.items ++ replicate n 63)
    c.split_at-in-loop-left.ensures.front_len
    ∙ ap (λ l. l ++ marks) c.in_ok-append_bytes.ensures.ok
    ∙ ap (λ t. (line ++ t) ++ marks) c.split_at.ensures.front
    ∙ append_assoc line (take len left) marks)
    ∙ append_assoc line (take len left ++ marks) (utf8_text rest)
    ∙ ap (λ t. line ++ t) (append_assoc (take len left) marks (utf8_text rest))
    ∙ ap (λ l. line ++ (take len left ++ (marks ++ utf8_text l))) rest_is
    ∙ ap (λ t. line ++ t) (sym (utf8_text_run left len more c.text_len.ensures.utf8 next))
    ∙ c.loop-left.invariant

pub returns : goal.returns
returns c =
    let none : length c.loop-left.left.now ≡ 0 = grind (arith, nat_tests) in
    let shown = utf8_text_none c.loop-left.left.now none in
    grind (arith, append-nil, c.loop-left.invariant)
