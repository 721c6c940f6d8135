-- The postmark that is written is a line, and is read as the moment that it was written for.
use Rattle.std.proofs.Common.{◌≡◌, ◌∙◌, sym, ap, refl, arith, ℕ, ◌&&◌, ◌==◌, not, ℤ, Bool, true}
use Rattle.std.proofs.Common.{false, List, [], ◌∷◌, ◌++◌, Some, None, append_assoc, subst}
use Rattle.std.specs.Prelude.{codes, if◌then◌else◌, is_some}
use Rattle.std.specs.List.{filter, list_all}
use Rattle.std.proofs.lemmas.Bool.{and_parts}
use Rattle.std.proofs.lemmas.Bool.Decides.{nat_tests}
use Rattle.bstr.proofs.lemmas.LineLemmas.{EndsLine}
use Rattle.mail_base.specs.Blanks.{is_blank}
use Rattle.mail_base.specs.Lines.{without_feed}
use Rattle.mail_base.proofs.LinesLemmas.{IsLine}
use Rattle.folder_core.specs.Mbox.{first_some, is_postmark, postmark, stamp, stamp_behind}
use Rattle.folder_letters.specs.Moments.{IsClockMoment}
use Rattle.mbox_text.proofs.FedLines.{written_line}
use Rattle.folder_drivers.specs.MboxPostmark.{is_sender_byte, or_daemon, postmark_line, sender}
use Rattle.folder_drivers.specs.MboxStamp.{spaced, stamp_text}
use Rattle.mbox_items.proofs.Marks.{feed_off}
use Rattle.mbox_items.proofs.StampLemmas.{IsPlain, spaced_plain, stamp_is_read, stamp_plain}
use Rattle.mbox_items.proofs.Words.{IsWord}

-- The sender.

-- what holds of the bytes of a sender
all_of : (p : ℕ → Bool) → ((b : ℕ) → is_sender_byte b ≡ true → p b ≡ true) → (address : List ℕ)
    → list_all p (filter is_sender_byte address) ≡ true
all_of p each [] = refl
all_of p each (b ∷ address) = by_byte (is_sender_byte b) refl (all_of p each address)
  where
    by_byte : (t : Bool) → is_sender_byte b ≡ t
        → list_all p (filter is_sender_byte address) ≡ true
        → list_all p (if t then b ∷ filter is_sender_byte address
        else filter is_sender_byte address) ≡ true
    by_byte true e rest =
        ap (λ t. t && list_all p (filter is_sender_byte address)) (each b e) ∙ rest
    by_byte false e rest = rest

no_blank : (b : ℕ) → is_sender_byte b ≡ true → not (is_blank b) ≡ true
no_blank b e = grind (arith, nat_tests)

no_feed : (b : ℕ) → is_sender_byte b ≡ true → not (b == 10) ≡ true
no_feed b e = grind (arith, nat_tests)

sender_word : (address : List ℕ) → IsWord (sender address)
sender_word address =
    by_name (filter is_sender_byte address) (all_of (λ b. not (is_blank b)) no_blank address)
    (all_of (λ b. not (b == 10)) no_feed address)
  where
    by_name : (name : List ℕ) → list_all (λ b. not (is_blank b)) name ≡ true
        → list_all (λ b. not (b == 10)) name ≡ true → IsWord (or_daemon name)
    by_name [] none line = record { some = omega arith; none = refl; line = refl }
    by_name (b ∷ name) none line = record { some = omega arith; none = none; line = line }

-- The line.

-- a postmark without its LF
postmark_text : List ℕ → ℤ → List ℕ
postmark_text address moment =
    spaced (codes "From") (spaced (sender address) (stamp_text moment))

text_is : (address : List ℕ) (moment : ℤ)
    → postmark_text address moment ++ 10 ∷ [] ≡ postmark_line address moment
unfolding postmark_line postmark_text
text_is address moment =
    ap (λ l. codes "From " ++ l) (append_assoc (sender address) (32 ∷ stamp_text moment) (10 ∷ []))

text_plain : (address : List ℕ) (moment : ℤ) → IsPlain (postmark_text address moment)
unfolding postmark_text
text_plain address moment =
    spaced_plain (codes "From") (spaced (sender address) (stamp_text moment)) refl
    (spaced_plain (sender address) (stamp_text moment) (sender_word address).line
    (stamp_plain moment))

pub postmark_is_line : (address : List ℕ) (moment : ℤ)
    → IsLine (postmark_line address moment) × EndsLine (postmark_line address moment)
postmark_is_line address moment =
    subst (λ l. IsLine l × EndsLine l) (text_is address moment)
    (written_line (postmark_text address moment) (text_plain address moment))

-- The moment.

-- the stamp behind a word
behind_name : (name text : List ℕ) → list_all (λ b. not (is_blank b)) name ≡ true
    → stamp_behind (name ++ 32 ∷ text) ≡ first_some (stamp text) (stamp_behind text)
behind_name [] text none = refl
behind_name (b ∷ name) text none =
    let both = and_parts (not (is_blank b)) (list_all (λ c. not (is_blank c)) name) none in
    by_blank (is_blank b) both.0 ∙ behind_name name text both.1
  where
    by_blank : (t : Bool) → not t ≡ true
        → first_some (if t then stamp (name ++ 32 ∷ text) else None)
        (stamp_behind (name ++ 32 ∷ text)) ≡ stamp_behind (name ++ 32 ∷ text)
    by_blank true e = absurd cc
    by_blank false e = refl

pub postmark_reads : (address : List ℕ) (moment : ℤ) → IsClockMoment moment
    → postmark (postmark_line address moment) ≡ Some moment
unfolding postmark postmark_line
postmark_reads address moment h =
    let name = sender address in
    let text = stamp_text moment in
    ap (λ l. stamp_behind (without_feed l)) (sym (append_assoc name (32 ∷ text) (10 ∷ [])))
    ∙ ap stamp_behind (feed_off (name ++ 32 ∷ text))
    ∙ behind_name name text (sender_word address).none
    ∙ ap (λ o. first_some o (stamp_behind text)) (stamp_is_read moment h)

pub postmark_marks : (address : List ℕ) (moment : ℤ) → IsClockMoment moment
    → is_postmark (postmark_line address moment) ≡ true
postmark_marks address moment h = ap is_some (postmark_reads address moment h)
