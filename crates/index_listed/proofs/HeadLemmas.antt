-- The letters and headers of ids.
use Rattle.std.proofs.Common.{◌≡◌, ◌∙◌, ◌++◌, ◌∷◌, [], ◌<◌, ◌≤◌, ℕ, List, ap, length}
use Rattle.std.proofs.Common.{map, subst, sym, slice_index_or, take}
use Rattle.std.proofs.lemmas.List.{get_or-map, get_or-take, length-append, length-map}
use Rattle.std.proofs.lemmas.List.{map_push, take-append-le, take_more}
use Rattle.folder_letters.specs.Letters.{Mail, plain_letter}
use Rattle.folder_letters.specs.declared.letter.Letter.{Letter}
use Rattle.headers.specs.Header.{PlainHeader, plain_header}
use Rattle.headers.specs.declared.header.Header.{Header}
use Rattle.index_listed.specs.Heads.{AreHeads}
use Rattle.index_listed.specs.Listed.{header_of, no_mail}

pub letter_is : (letters : List Letter) (n : ℕ) (x : Letter) → n < length letters
    → x ≡ slice_index_or letters n x
    → plain_letter x ≡ slice_index_or (map plain_letter letters) n no_mail
letter_is letters n x low at =
    ap plain_letter at ∙ sym (get_or-map plain_letter letters n x no_mail low)

pub head_is : (heads : List Header) (mails : List Mail) → AreHeads (map plain_header heads) mails
    → (n : ℕ) (x : Header) → n < length heads → x ≡ slice_index_or heads n x
    → plain_header x ≡ header_of (slice_index_or mails n no_mail)
head_is heads mails are n x low at =
    let hs = map plain_header heads in
    let long : n < length hs = subst (λ m. n < m) (sym (length-map heads plain_header)) low in
    let within : n < length (take (length hs) mails) =
    subst (λ m. n < m) (ap length are.same ∙ length-map (take (length hs) mails) header_of) long in
    ap plain_header at
    ∙ sym (get_or-map plain_header heads n x (header_of no_mail) low)
    ∙ ap (λ l. slice_index_or l n (header_of no_mail)) are.same
    ∙ get_or-map header_of (take (length hs) mails) n no_mail (header_of no_mail) within
    ∙ ap header_of (get_or-take (length hs) mails n no_mail long)

-- the header of the next letter is put behind those that are kept
pub heads_next : (hs : List PlainHeader) (mails : List Mail) (h : PlainHeader)
    → AreHeads hs mails → length hs < length mails
    → h ≡ header_of (slice_index_or mails (length hs) no_mail) → AreHeads (hs ++ h ∷ []) mails
heads_next hs mails h are low is =
    let n = length hs in record {
      same = ap (λ l. l ++ h ∷ []) are.same
          ∙ ap (λ z. map header_of (take n mails) ++ z ∷ []) is
          ∙ sym (map_push header_of (take n mails) (slice_index_or mails n no_mail))
          ∙ ap (map header_of) (sym (take_more mails n no_mail low))
          ∙ ap (λ k. map header_of (take k mails)) (sym (length-append hs (h ∷ [])));
    }

-- what stood in front stands there still
pub front_kept : {X : Type 0} (old xs more : List X) (x : X) → more ≡ xs ++ x ∷ []
    → length old ≤ length xs → take (length old) xs ≡ old → take (length old) more ≡ old
front_kept old xs more x put long kept =
    ap (take (length old)) put ∙ take-append-le (length old) xs (x ∷ []) long ∙ kept
