-- How bytes are shown by their charset, run by run.
use Rattle.std.proofs.Common.{◌≡◌, ℕ, suc, true, nat_lt, List, [], ◌∷◌, ◌++◌, refl, ap, ◌∙◌, arith}
use Rattle.std.specs.Prelude.{if◌then◌else◌}
use Rattle.std.specs.Str.{IsAscii, byte, encode_utf8_all}
use Rattle.std.proofs.lemmas.Bool.Decides.{nat_tests}
use Rattle.std.proofs.lemmas.Str.{encode_ascii}
use Rattle.headers.specs.Charset.{ascii_text}

-- ASCII is shown as it is in each charset
pub ascii_text_front : (front rest : List ℕ) → IsAscii front
    → ascii_text (front ++ rest) ≡ front ++ ascii_text rest
ascii_text_front [] rest ascii = refl
ascii_text_front (b ∷ front) rest ascii =
    let small : nat_lt b 128 ≡ true = let below = ascii 0 in grind (arith, nat_tests) in
    ap (λ t. (if t then b else byte "?") ∷ ascii_text (front ++ rest)) small
    ∙ ap (λ l. b ∷ l) (ascii_text_front front rest (λ i. ascii (suc i)))

pub encode_utf8_all_front : (front rest : List ℕ) → IsAscii front
    → encode_utf8_all (front ++ rest) ≡ front ++ encode_utf8_all rest
encode_utf8_all_front [] rest ascii = refl
encode_utf8_all_front (b ∷ front) rest ascii =
    ap (λ l. l ++ encode_utf8_all (front ++ rest)) (encode_ascii b (ascii 0))
    ∙ ap (λ l. b ∷ l) (encode_utf8_all_front front rest (λ i. ascii (suc i)))
