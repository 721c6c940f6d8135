-- What stays of a message, line by line.
use Rattle.std.proofs.Common.{◌≡◌, ℕ, Bool, true, false, List, [], ◌∷◌, ◌++◌, refl, sym, ap, ◌∙◌}
use Rattle.std.proofs.Common.{append_assoc, append-nil}
use Rattle.std.specs.Prelude.{if◌then◌else◌}
use Rattle.std.specs.List.{concat}
use Rattle.mail_base.specs.Lines.{after_block, header_block, is_empty_line}
use Rattle.folder_core.specs.Mbox.{last_line, without_separator, without_status}
use Rattle.mbox_text.specs.MessageCore.{kept_from}

-- only the last line of some is read as the end of a message
pub separator-push : (front : List (List ℕ)) (last : List ℕ)
    → concat (without_separator (front ++ last ∷ [])) ≡ concat front ++ concat (last_line last)
separator-push [] last = refl
separator-push (line ∷ []) last = ap (λ l. l ++ concat (last_line last)) (sym (append-nil line))
separator-push (line ∷ next ∷ front) last =
    ap (λ l. line ++ l) (separator-push (next ∷ front) last)
    ∙ sym (append_assoc line (concat (next ∷ front)) (concat (last_line last)))

-- past a line of the header block
pub kept_past : (dropped next stays : Bool) (line : List ℕ) (lines all : List (List ℕ))
    → all ≡ line ∷ lines
    → is_empty_line line ≡ false
    → without_status dropped (line ∷ header_block lines)
    ≡ (if stays then line ∷ without_status next (header_block lines)
    else without_status next (header_block lines))
    → kept_from dropped all ≡ (if stays then line ∷ kept_from next lines else kept_from next lines)
kept_past dropped next stays line lines all step some past =
    ap (kept_from dropped) step
    ∙ ap (λ t. without_status dropped (if t then [] else line ∷ header_block lines)
    ++ (if t then line ∷ lines else after_block lines)) some
    ∙ ap (λ l. l ++ after_block lines) past ∙ by_stays stays
  where
    by_stays : (t : Bool)
        → (if t then line ∷ without_status next (header_block lines)
        else without_status next (header_block lines))
        ++ after_block lines
        ≡ (if t then line ∷ kept_from next lines else kept_from next lines)
    by_stays true = refl
    by_stays false = refl

-- what is read of the lines left, where a line stays and where it goes
pub core_stays : (core new_core last new_last line : List ℕ) (kept all : List (List ℕ))
    → all ≡ line ∷ kept
    → new_core ≡ core ++ last → new_last ≡ line
    → new_core ++ concat (without_separator (new_last ∷ kept)) ≡ core
    ++ concat (without_separator (last ∷ all))
core_stays core new_core last new_last line kept all step added next =
    ap (λ c. c ++ concat (without_separator (new_last ∷ kept))) added
    ∙ ap (λ l. (core ++ last) ++ concat (without_separator (l ∷ kept))) next
    ∙ append_assoc core last (concat (without_separator (line ∷ kept)))
    ∙ ap (λ ls. core ++ concat (without_separator (last ∷ ls))) (sym step)

pub core_goes : (core new_core last new_last : List ℕ) (kept all : List (List ℕ)) → all ≡ kept
    → new_core ≡ core → new_last ≡ last
    → new_core ++ concat (without_separator (new_last ∷ kept)) ≡ core
    ++ concat (without_separator (last ∷ all))
core_goes core new_core last new_last kept all step same next =
    ap (λ c. c ++ concat (without_separator (new_last ∷ kept))) same
    ∙ ap (λ l. core ++ concat (without_separator (l ∷ kept))) next
    ∙ ap (λ ls. core ++ concat (without_separator (last ∷ ls))) (sym step)
