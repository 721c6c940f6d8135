use Rattle.std.proofs.Common.{◌++◌, sym, ap, ◌∙◌, append_assoc}
use Rattle.std.specs.Str.{encode_utf8_all}
use Rattle.std.proofs.lemmas.Str.{IsUtf8-from_ascii}
use Rattle.headers.specs.Charset.{ascii_text}
use Rattle.headers.proofs.CharsetLemmas.{ascii_text_front, encode_utf8_all_front}
use Rattle.headers.proofs.charset.append_front.Goals as goal

pub append_bytes-requires : goal.append_bytes-requires
append_bytes-requires c = IsUtf8-from_ascii c.split_ascii.result.0.now c.split_ascii.ensures.ascii

pub returns-clause-ascii : goal.returns-clause-ascii
returns-clause-ascii c =
    let line = c.args.line.now.items in
    let front = c.split_ascii.result.0.now in
    let rest = c.split_ascii.result.1.now in
    ap (λ l. l ++ ascii_text rest) c.in_ok-append_bytes.ensures.ok
    ∙ append_assoc line front (ascii_text rest)
    ∙ ap (λ t. line ++ t) (sym (ascii_text_front front rest c.split_ascii.ensures.ascii))
    ∙ ap (λ b. line ++ ascii_text b) (sym c.split_ascii.ensures.whole)

pub returns-clause-latin1 : goal.returns-clause-latin1
returns-clause-latin1 c =
    let line = c.args.line.now.items in
    let front = c.split_ascii.result.0.now in
    let rest = c.split_ascii.result.1.now in
    ap (λ l. l ++ encode_utf8_all rest) c.in_ok-append_bytes.ensures.ok
    ∙ append_assoc line front (encode_utf8_all rest)
    ∙ ap (λ t. line ++ t) (sym (encode_utf8_all_front front rest c.split_ascii.ensures.ascii))
    ∙ ap (λ b. line ++ encode_utf8_all b) (sym c.split_ascii.ensures.whole)
