use Rattle.std.proofs.Common.{◌≡◌, ◌≤◌, ◌++◌, ◌-◌, length, take, drop, replicate, subst, arith}
use Rattle.std.proofs.Common.{length-drop}
use Rattle.std.proofs.lemmas.List.{take_all}
use Rattle.mail_base.specs.Shown.{utf8_text}
use Rattle.mail_base.proofs.ShownLemmas.{utf8_text_marks}
use Rattle.mail_base.proofs.shown.malformed_len.Goals as goal

pub loop-more-preserved : goal.loop-more-preserved
loop-more-preserved c =
    let bytes = c.args.bytes.now in
    let len = c.loop-more.len in
    let more = c.piece_len-more.result in
    let inv = c.loop-more.invariant in
    let next = c.piece_len-more.ensures in
    let left = length-drop len bytes in
    let rest : take (length bytes - len) (drop len bytes) ≡ drop len bytes =
    take_all (length bytes - len) (drop len bytes) (omega arith) in
    let within : more ≤ length (drop len bytes) = subst (λ l. more ≤ length l) rest next.within in
    let text : utf8_text (drop len bytes) ≡ replicate more 63
    ++ utf8_text (drop more (drop len bytes)) =
    subst (λ l. utf8_text l ≡ replicate more 63 ++ utf8_text (drop more l)) rest
    next.text in record {
      within = omega (arith, inv.within);
      text = utf8_text_marks bytes len more inv.text text;
      some = λ some none. omega (arith, inv.some some none);
    }
