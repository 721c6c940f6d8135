-- How the parts of a word follow from one character and those behind it.
use Rattle.std.proofs.Common.{◌≡◌, ℕ, zero, suc, List, [], ◌∷◌, ◌++◌, drop, refl, sym, ap, ◌∙◌}
use Rattle.std.proofs.Common.{Some, None, option_to_list, append_assoc}
use Rattle.std.proofs.lemmas.List.{append-nil}
use Rattle.rc_lang_words.specs.declared.sign.Sign.{Sign}
use Rattle.rc_lang_words.specs.Signs.{byte_of}
use Rattle.rc_lang_words.specs.Words.{PlainPiece, Text, Variable, Found, name_at, with_text}
use Rattle.rc_lang_words.specs.Words.{pieces_at, pieces_behind, pieces_of}

pub pieces_behind_drop : (n : ℕ) (s : List Sign) → pieces_behind n s ≡ pieces_of (drop n s)
pieces_behind_drop zero [] = refl
pieces_behind_drop zero (s ∷ rest) = refl
pieces_behind_drop (suc n) [] = refl
pieces_behind_drop (suc n) (s ∷ rest) = pieces_behind_drop n rest

pub with_text_append : (t u : List ℕ) (pieces : List PlainPiece)
    → with_text (t ++ u) pieces ≡ with_text t (with_text u pieces)
with_text_append [] u pieces = refl
with_text_append (b ∷ t) [] [] = ap (λ v. Text (b ∷ v) ∷ []) (append-nil t)
with_text_append (b ∷ t) [] (Text v ∷ pieces) = ap (λ w. Text (b ∷ (w ++ v)) ∷ pieces)
    (append-nil t)
with_text_append (b ∷ t) [] (Variable name ∷ pieces) = ap (λ w. Text
    (b ∷ w) ∷ Variable name ∷ pieces) (append-nil t)
with_text_append (b ∷ t) (e ∷ u) [] = refl
with_text_append (b ∷ t) (e ∷ u) (Text v ∷ pieces) =
    ap (λ w. Text (b ∷ w) ∷ pieces) (append_assoc t (e ∷ u) v)
with_text_append (b ∷ t) (e ∷ u) (Variable name ∷ pieces) = refl

pub with_text_variable : (t name : List ℕ) (pieces : List PlainPiece)
    → with_text t (Variable name ∷ pieces) ≡ with_text t [] ++ Variable name ∷ pieces
with_text_variable [] name pieces = refl
with_text_variable (b ∷ t) name pieces = refl

pub pieces_of_variable : (s : Sign) (rest : List Sign) (f : Found) → name_at s rest ≡ Some f
    → pieces_of (s ∷ rest) ≡ Variable f.name ∷ pieces_of (drop f.size rest)
pieces_of_variable s rest f found =
    ap (λ o. pieces_at s o (λ n. pieces_behind n rest)) found
    ∙ ap (λ pieces. Variable f.name ∷ pieces) (pieces_behind_drop f.size rest)

pub pieces_of_byte : (s : Sign) (rest : List Sign) → name_at s rest ≡ None
    → pieces_of (s ∷ rest) ≡ with_text (option_to_list (byte_of s)) (pieces_of rest)
pieces_of_byte s rest none = ap (λ o. pieces_at s o (λ n. pieces_behind n rest)) none

-- the parts before and behind a variable
pub variable_step : (pieces : List PlainPiece) (text : List ℕ) (s : Sign) (rest : List Sign)
    (f : Found)
    → name_at s rest ≡ Some f
    → ((pieces ++ with_text text []) ++ Variable f.name ∷ []) ++ pieces_of (drop f.size rest)
    ≡ pieces ++ with_text text (pieces_of (s ∷ rest))
variable_step pieces text s rest f found =
    append_assoc (pieces ++ with_text text []) (Variable f.name ∷ []) (pieces_of (drop f.size rest))
    ∙ append_assoc pieces (with_text text []) (Variable f.name ∷ pieces_of (drop f.size rest))
    ∙ ap (λ ps. pieces ++ ps) (sym (with_text_variable text f.name (pieces_of (drop f.size rest))))
    ∙ ap (λ ps. pieces ++ with_text text ps) (sym (pieces_of_variable s rest f found))

-- the parts round a character that is text
pub byte_step : (pieces : List PlainPiece) (text : List ℕ) (s : Sign) (rest : List Sign)
    → name_at s rest ≡ None
    → pieces ++ with_text (text ++ option_to_list (byte_of s)) (pieces_of rest)
    ≡ pieces ++ with_text text (pieces_of (s ∷ rest))
byte_step pieces text s rest none =
    ap (λ ps. pieces ++ ps) (with_text_append text (option_to_list (byte_of s)) (pieces_of rest))
    ∙ ap (λ ps. pieces ++ with_text text ps) (sym (pieces_of_byte s rest none))
