-- Persons that were written are read back.
use Rattle.std.proofs.Common.{◌≡◌, ℕ, zero, suc, ◌+◌, ◌-◌, ◌<◌, ◌==◌, ◌&&◌, ◌||◌, Bool, true, false}
use Rattle.std.proofs.Common.{not, List, [], ◌∷◌, ◌++◌, length, take, map, filter, Option, Some}
use Rattle.std.proofs.Common.{None, refl, sym, ap, ◌∙◌, arith, append_assoc, length-append}
use Rattle.std.specs.List.{slice_index, list_all, list_any, prefix_len, suffix_len, slice_split}
use Rattle.std.specs.List.{flat_map, before_first}
use Rattle.std.specs.Prelude.{option_to_list, if◌then◌else◌}
use Rattle.std.specs.Str.{IsUtf8, is_utf8}
use Rattle.std.proofs.lemmas.Bool.{and_parts, or_parts, eqb-true, not-true}
use Rattle.std.proofs.lemmas.Str.{IsUtf8-from_ascii, IsUtf8-from_is_utf8}
use Rattle.std.proofs.lemmas.Bool.Decides.{nat_tests}
use Rattle.std.proofs.lemmas.List.{append-nil, map-append, reverse-append, take_all, take_at}
use Rattle.std.proofs.lemmas.List.Elements.{filter-append}
use Rattle.std.proofs.lemmas.List.Folds.{list_all-append}
use Rattle.mail_base.specs.Blanks.{is_blank, trimmed, without_last_blanks}
use Rattle.mail_base.specs.Lines.{is_continuation}
use Rattle.mail_base.proofs.BlanksLemmas.{without_blanks_stay}
use Rattle.mail_base.proofs.ShownLemmas.{shown_utf8}
use Rattle.mail_base.proofs.RoundPlaces.{split_front, before_last_at, after_last_at}
use Rattle.mail_base.proofs.RoundPlaces.{after_last_absent, before_first_at, after_first_at, any_at}
use Rattle.mail_base.proofs.RoundPlaces.{all_not_at, filter_all}
use Rattle.headers.specs.declared.address_byte.AddressByte.{AddressByte}
use Rattle.headers.specs.declared.address_byte.Role.{Role}
use Rattle.headers.specs.declared.address_byte.Role.TheVariants.{Text, Quote, AngleStart, AngleEnd}
use Rattle.headers.specs.declared.address_byte.Role.TheVariants.{GroupEnd, Separator, CommentStart}
use Rattle.headers.specs.declared.address_byte.Role.TheVariants.{CommentText, CommentEnd}
use Rattle.headers.specs.declared.address_state.AddressState.{AddressState}
use Rattle.headers.specs.declared.address_state.Within.{Within}
use Rattle.headers.specs.declared.address_state.Within.TheVariants.{Plain, Quotes, Comment}
use Rattle.headers.specs.AddressByte.{bytes_of, has, is_comment}
use Rattle.headers.specs.AddressState.{address_bytes, bytes_from, comment_step, plain_step}
use Rattle.headers.specs.AddressState.{quotes_step, state_in}
use Rattle.headers.specs.Decode.{decoded_words}
use Rattle.headers.specs.People.{PlainBrackets, brackets_of, first_comment, shown_name, person_of}
use Rattle.headers.specs.People.{person_in, people}
use Rattle.headers.specs.Person.{PlainPerson}
use Rattle.headers_laws.specs.Laws.{is_plain_byte, is_trimmed, is_plain, is_plain_person}
use Rattle.headers_laws.specs.Laws.{written_person, has_mark, WrittenPeopleAreRead, written_quoted}
use Rattle.headers_laws.specs.Laws.{QuotedPhraseIsRead}
use Rattle.mail_base.specs.Written.{escaped}
use Rattle.headers_laws.specs.Laws.{GroupIsRead, written_commented, CommentIsTheName}
use Rattle.headers_laws.proofs.LawsOfText.{plain_text_stays}

-- bytes that are text
abbrev text_bytes : List ℕ → List AddressByte
text_bytes s = map (λ b. record { byte = b; role = Text }) s

pub plain_step-text : (in_angle : Bool) (b : ℕ) → is_plain_byte b ≡ true
    → plain_step in_angle b ≡ (Text, state_in in_angle Plain)
plain_step-text true b plain = grind (arith, nat_tests)
plain_step-text false b plain = grind (arith, nat_tests)

bytes_plain : (in_angle : Bool) (s rest : List ℕ) → list_all is_plain_byte s ≡ true
    → bytes_from (state_in in_angle Plain) (s ++ rest) ≡ text_bytes s
    ++ bytes_from (state_in in_angle Plain) rest
bytes_plain in_angle [] rest plain = refl
bytes_plain in_angle (b ∷ s) rest plain =
    let both = and_parts (is_plain_byte b) (list_all is_plain_byte s) plain in
    let mark : AddressByte = record { byte = b; role = Text } in
    ap (λ (st : Role × AddressState). record { byte = b; role = st.0 }
    ∷ bytes_from st.1 (s ++ rest))
    (plain_step-text in_angle b both.0)
    ∙ ap (λ (ms : List AddressByte). mark ∷ ms) (bytes_plain in_angle s rest both.1)

-- the marks of a person that is written plainly

all_text : (q : AddressByte → Bool) → ((b : ℕ) → q (record { byte = b; role = Text }) ≡ true)
    → (s : List ℕ)
    → list_all q (text_bytes s) ≡ true
all_text q text [] = refl
all_text q text (b ∷ s) = rw (text b) (all_text q text s)

bytes_of_text : (s : List ℕ) → bytes_of (text_bytes s) ≡ s
bytes_of_text [] = refl
bytes_of_text (b ∷ s) = ap (λ l. b ∷ l) (bytes_of_text s)

abbrev angle_start : AddressByte
angle_start = record { byte = 60; role = AngleStart }

abbrev angle_end : AddressByte
angle_end = record { byte = 62; role = AngleEnd }

abbrev separator : AddressByte
separator = record { byte = 44; role = Separator }

-- the phrase with the blank behind it, and what stands from the address on
abbrev phrase : PlainPerson → List AddressByte
phrase p = text_bytes (p.name ++ 32 ∷ [])

abbrev from_address : PlainPerson → List AddressByte
from_address p = text_bytes p.address ++ angle_end ∷ []

abbrev piece_of : PlainPerson → List AddressByte
piece_of p = phrase p ++ angle_start ∷ from_address p

all_address : (q : AddressByte → Bool) → ((b : ℕ) → q (record { byte = b; role = Text }) ≡ true)
    → q angle_end ≡ true
    → (p : PlainPerson) → list_all q (from_address p) ≡ true
all_address q text end p =
    list_all-append q (text_bytes p.address) (angle_end ∷ [])
    ∙ rw (all_text q text p.address, end) refl

all_piece : (q : AddressByte → Bool) → ((b : ℕ) → q (record { byte = b; role = Text }) ≡ true)
    → q angle_start ≡ true
    → q angle_end ≡ true → (p : PlainPerson) → list_all q (piece_of p) ≡ true
all_piece q text start end p =
    list_all-append q (phrase p) (angle_start ∷ from_address p)
    ∙ rw (all_text q text (p.name ++ 32 ∷ []), start) (all_address q text end p)

plain_phrase : (s : List ℕ) → list_all is_plain_byte s ≡ true
    → list_all is_plain_byte (s ++ 32 ∷ []) ≡ true
plain_phrase s plain = list_all-append is_plain_byte s (32 ∷ []) ∙ rw plain refl

bytes_of_person : (p : PlainPerson) (more : List ℕ) → list_all is_plain_byte p.name ≡ true
    → list_all is_plain_byte p.address ≡ true
    → address_bytes (written_person p ++ more) ≡ piece_of p ++ separator ∷ address_bytes more
bytes_of_person p more name address =
    let spaced = p.name ++ 32 ∷ [] in
    let apart : written_person p ++ more ≡ spaced ++ 60 ∷ (p.address ++ 62 ∷ 44 ∷ more) =
    simp append_assoc in
    ap address_bytes apart
    ∙ bytes_plain false spaced (60 ∷ (p.address ++ 62 ∷ 44 ∷ more)) (plain_phrase p.name name)
    ∙ ap (λ (ms : List AddressByte). phrase p ++ angle_start ∷ ms)
    (bytes_plain true p.address (62 ∷ 44 ∷ more) address)
    ∙ simp append_assoc

brackets_of_person : (front : List AddressByte) (p : PlainPerson)
    → brackets_of (front ++ angle_start ∷ from_address p)
    ≡ Some (record { before = front; inside = text_bytes p.address; behind = [] })
brackets_of_person front p =
    let back = from_address p in
    let none : list_all (λ b. not (has AngleStart b)) back ≡ true =
    all_address (λ b. not (has AngleStart b)) (λ b. refl) refl p in
    let within : list_all (λ b. not (has AngleEnd b)) (text_bytes p.address) ≡ true =
    all_text (λ b. not (has AngleEnd b)) (λ b. refl) p.address in
    let some = any_at (has AngleStart) front angle_start back refl in
    let before = before_last_at (has AngleStart) front angle_start back none refl in
    let tail = after_last_at (has AngleStart) front angle_start back none refl in
    let inside = before_first_at (has AngleEnd) (text_bytes p.address) angle_end [] within refl in
    let behind = after_first_at (has AngleEnd) (text_bytes p.address) angle_end [] within refl in
    rw (some, before, tail, inside, behind) refl

-- a blank at the end goes
blank_goes : (s : List ℕ) → (suffix_len is_blank s == 0) ≡ true
    → without_last_blanks (s ++ 32 ∷ []) ≡ s
blank_goes s end =
    let one : suffix_len is_blank (s ++ 32 ∷ []) ≡ 1 + suffix_len is_blank s =
    ap (prefix_len is_blank) (reverse-append s (32 ∷ [])) in
    let none : suffix_len is_blank s ≡ 0 = eqb-true (suffix_len is_blank s) 0 end in
    let n = length (s ++ 32 ∷ []) - suffix_len is_blank (s ++ 32 ∷ []) in
    let short : length s ≡ n = omega (arith, length-append s (32 ∷ [])) in
    take_at s (32 ∷ []) n short

trimmed_stay : (s : List ℕ) → is_trimmed s ≡ true → trimmed s ≡ s
trimmed_stay s ends =
    let both = and_parts (not (is_continuation s)) (suffix_len is_blank s == 0) ends in
    let none : suffix_len is_blank s ≡ 0 = eqb-true (suffix_len is_blank s) 0 both.1 in
    let whole : length s - suffix_len is_blank s ≡ length s = omega arith in
    ap without_last_blanks (without_blanks_stay s both.0) ∙ ap (λ n. take n s) whole
    ∙ take_all (length s) s (omega arith)

trimmed_phrase : (s : List ℕ) → is_trimmed s ≡ true → trimmed (s ++ 32 ∷ []) ≡ s
trimmed_phrase [] ends = refl
trimmed_phrase (b ∷ s) ends =
    let both = and_parts (not (is_blank b)) (suffix_len is_blank (b ∷ s) == 0) ends in
    ap without_last_blanks (without_blanks_stay (b ∷ s ++ 32 ∷ []) both.0)
    ∙ blank_goes (b ∷ s) both.1

plain_small : (b : ℕ) → is_plain_byte b ≡ true → b < 128
plain_small b plain = grind (arith, nat_tests)

ascii_at : (s : List ℕ) (i : ℕ) → list_all is_plain_byte s ≡ true → slice_index s i < 128
ascii_at [] i plain = omega arith
ascii_at (b ∷ s) zero plain =
    plain_small b (and_parts (is_plain_byte b) (list_all is_plain_byte s) plain).0
ascii_at (b ∷ s) (suc i) plain =
    ascii_at s i (and_parts (is_plain_byte b) (list_all is_plain_byte s) plain).1

plain_utf8 : (s : List ℕ) → list_all is_plain_byte s ≡ true → IsUtf8 s
plain_utf8 s plain = IsUtf8-from_ascii s (λ i. ascii_at s i plain)

-- a name with the blank behind it is shown as it is
pub name_stays : (s : List ℕ) → IsUtf8 s → is_trimmed s ≡ true → has_mark s ≡ false
    → shown_name (text_bytes (s ++ 32 ∷ [])) ≡ s
name_stays s utf8 ends mark =
    ap (λ l. decoded_words (trimmed l)) (bytes_of_text (s ++ 32 ∷ []))
    ∙ ap decoded_words (trimmed_phrase s ends)
    ∙ plain_text_stays s mark
    ∙ shown_utf8 s utf8

address_stays : (s : List ℕ) → is_plain s ≡ true → trimmed (bytes_of (text_bytes s)) ≡ s
address_stays s plain =
    ap trimmed (bytes_of_text s)
    ∙ trimmed_stay s (and_parts (list_all is_plain_byte s) (is_trimmed s) plain).1

-- a person whose name, without its quotes, is this text and a blank
pub person_in_brackets : (front : List AddressByte) (p : PlainPerson)
    → list_all (λ b. not (has GroupEnd b)) front ≡ true
    → filter (λ b. not (has Quote b)) front ≡ text_bytes (p.name ++ 32 ∷ [])
    → shown_name (text_bytes (p.name ++ 32 ∷ [])) ≡ p.name → is_plain p.address ≡ true
    → person_in (front ++ angle_start ∷ from_address p) ≡ Some p
person_in_brackets front p ungrouped unquoted name address =
    let piece = front ++ angle_start ∷ from_address p in
    let whole : list_all (λ b. not (has GroupEnd b)) piece ≡ true =
    list_all-append (λ b. not (has GroupEnd b)) front (angle_start ∷ from_address p)
    ∙ rw ungrouped (all_address (λ b. not (has GroupEnd b)) (λ b. refl) refl p) in
    let name_is : shown_name (filter (λ b. not (has Quote b)) (front ++ [])) ≡ p.name =
    ap (λ l. shown_name (filter (λ b. not (has Quote b)) l)) (append-nil front)
    ∙ ap shown_name unquoted ∙ name in
    ap (λ (bs : List AddressByte). if list_all (λ b. is_blank b.byte) bs then None
    else Some (person_of bs
    (brackets_of bs))) (after_last_absent (has GroupEnd) piece whole)
    ∙ ap (λ t. if t then None else Some (person_of piece (brackets_of piece)))
    (all_not_at (λ b. is_blank b.byte) front angle_start (from_address p) refl)
    ∙ ap (λ (o : Option PlainBrackets). Some (person_of piece o)) (brackets_of_person front p)
    ∙ ap (λ (n : List ℕ). Some
    (record { name = n; address = trimmed (bytes_of (text_bytes p.address)) })) name_is
    ∙ ap (λ (a : List ℕ). Some (record { name = p.name; address = a }))
    (address_stays p.address address)

person_in_piece : (p : PlainPerson) → is_plain_person p ≡ true → person_in (piece_of p) ≡ Some p
person_in_piece p plain =
    let both = and_parts (is_plain p.name && not (has_mark p.name)) (is_plain p.address) plain in
    let parts = and_parts (is_plain p.name) (not (has_mark p.name)) both.0 in
    let name = and_parts (list_all is_plain_byte p.name) (is_trimmed p.name) parts.0 in
    person_in_brackets (phrase p) p
    (all_text (λ b. not (has GroupEnd b)) (λ b. refl) (p.name ++ 32 ∷ []))
    (filter_all (λ b. not (has Quote b)) (phrase p)
    (all_text (λ b. not (has Quote b)) (λ b. refl) (p.name ++ 32 ∷ [])))
    (name_stays p.name (plain_utf8 p.name name.0) name.1 (not-true (has_mark p.name) parts.1))
    both.1

-- the person of a piece, or nobody
abbrev persons_in : List (List AddressByte) → List PlainPerson
persons_in pieces = flat_map (λ piece. option_to_list (person_in piece)) pieces

-- persons that are written plainly, before more of the list
pub people_written : (persons : List PlainPerson) (more : List ℕ)
    → list_all is_plain_person persons ≡ true
    → people (flat_map written_person persons ++ more) ≡ persons ++ people more
people_written [] more plain = refl
people_written (p ∷ persons) more plain =
    let both = and_parts (is_plain_person p) (list_all is_plain_person persons) plain in
    let parts = and_parts (is_plain p.name && not (has_mark p.name)) (is_plain p.address) both.0 in
    let name =
    and_parts (list_all is_plain_byte p.name) (is_trimmed p.name)
    (and_parts (is_plain p.name) (not (has_mark p.name)) parts.0).0 in
    let address = and_parts (list_all is_plain_byte p.address) (is_trimmed p.address) parts.1 in
    let later = flat_map written_person persons ++ more in
    ap people (append_assoc (written_person p) (flat_map written_person persons) more)
    ∙ ap (λ (bs : List AddressByte). persons_in (slice_split (has Separator) bs))
    (bytes_of_person p later name.0 address.0)
    ∙ ap persons_in (split_front (has Separator) (piece_of p) separator (address_bytes later)
    (all_piece (λ b. not (has Separator b)) (λ b. refl) refl refl p) refl)
    ∙ ap (λ (o : Option PlainPerson). option_to_list o ++ people later) (person_in_piece p both.0)
    ∙ ap (λ (l : List PlainPerson). p ∷ l) (people_written persons more both.1)

pub written_people_are_read : WrittenPeopleAreRead
written_people_are_read persons plain =
    ap people (sym (append-nil (flat_map written_person persons)))
    ∙ people_written persons [] plain
    ∙ append-nil persons

-- a phrase in quotes

abbrev quote : AddressByte
quote = record { byte = 34; role = Quote }

abbrev backslash : AddressByte
backslash = record { byte = 92; role = Quote }

abbrev text_byte : ℕ → AddressByte
text_byte b = record { byte = b; role = Text }

quoted_bytes : List ℕ → List AddressByte
quoted_bytes [] = []
quoted_bytes (b ∷ s) =
    if b == 34 || b == 92 then backslash ∷ text_byte b ∷ quoted_bytes s
    else text_byte b ∷ quoted_bytes s

bytes_quoted : (s rest : List ℕ)
    → bytes_from (state_in false Quotes) (escaped s ++ rest)
    ≡ quoted_bytes s ++ bytes_from (state_in false Quotes) rest
unfolding quoted_bytes
bytes_quoted [] rest = refl
bytes_quoted (b ∷ s) rest = by_test (b == 34 || b == 92) refl (bytes_quoted s rest)
  where
    by_test : (t : Bool) → (b == 34 || b == 92) ≡ t
        → bytes_from (state_in false Quotes) (escaped s ++ rest)
        ≡ quoted_bytes s ++ bytes_from (state_in false Quotes) rest
        → bytes_from (state_in false Quotes)
        ((if t then 92 ∷ b ∷ escaped s else b ∷ escaped s) ++ rest)
        ≡ (if t then backslash ∷ text_byte b ∷ quoted_bytes s else text_byte b ∷ quoted_bytes s)
        ++ bytes_from (state_in false Quotes) rest
    by_test true is more = ap (λ l. backslash ∷ text_byte b ∷ l) more
    by_test false is more =
        let other = or_parts (b == 34) (b == 92) is in
        let step : quotes_step b ≡ (Text, Quotes) = rw (other.0, other.1) refl in
        ap (λ (p : Role × Within). record { byte = b; role = p.0 } ∷ bytes_from (state_in false p.1)
        (escaped s ++ rest)) step
        ∙ ap (λ l. text_byte b ∷ l) more

all_quoted : (q : AddressByte → Bool) → ((b : ℕ) → q (text_byte b) ≡ true) → q backslash ≡ true
    → (s : List ℕ)
    → list_all q (quoted_bytes s) ≡ true
unfolding quoted_bytes
all_quoted q text back [] = refl
all_quoted q text back (b ∷ s) = by_test (b == 34 || b == 92) (all_quoted q text back s)
  where
    by_test : (t : Bool) → list_all q (quoted_bytes s) ≡ true
        → list_all q
        (if t then backslash ∷ text_byte b ∷ quoted_bytes s else text_byte b ∷ quoted_bytes s)
        ≡ true
    by_test true more = rw (back, text b) more
    by_test false more = rw (text b) more

unquoted_bytes : (s : List ℕ) → filter (λ b. not (has Quote b)) (quoted_bytes s) ≡ text_bytes s
unfolding quoted_bytes
unquoted_bytes [] = refl
unquoted_bytes (b ∷ s) = by_test (b == 34 || b == 92) (unquoted_bytes s)
  where
    by_test : (t : Bool) → filter (λ b. not (has Quote b)) (quoted_bytes s) ≡ text_bytes s
        → filter (λ b. not (has Quote b))
        (if t then backslash ∷ text_byte b ∷ quoted_bytes s else text_byte b ∷ quoted_bytes s)
        ≡ text_bytes (b ∷ s)
    by_test true more = ap (λ l. text_byte b ∷ l) more
    by_test false more = ap (λ l. text_byte b ∷ l) more

-- the phrase with its quotes and the blank behind it
abbrev quoted_phrase : List ℕ → List AddressByte
quoted_phrase name = quote ∷ (quoted_bytes name ++ quote ∷ text_byte 32 ∷ [])

all_phrase : (q : AddressByte → Bool) → ((b : ℕ) → q (text_byte b) ≡ true) → q quote ≡ true
    → q backslash ≡ true
    → (s : List ℕ) → list_all q (quoted_phrase s) ≡ true
all_phrase q text mark back s =
    rw mark (list_all-append q (quoted_bytes s) (quote ∷ text_byte 32 ∷ [])
    ∙ rw (all_quoted q text back s, mark, text 32) refl)

unquoted_phrase : (s : List ℕ)
    → filter (λ b. not (has Quote b)) (quoted_phrase s) ≡ text_bytes (s ++ 32 ∷ [])
unquoted_phrase s =
    filter-append (λ b. not (has Quote b)) (quoted_bytes s) (quote ∷ text_byte 32 ∷ [])
    ∙ ap (λ l. l ++ text_byte 32 ∷ []) (unquoted_bytes s)
    ∙ sym (map-append text_byte s (32 ∷ []))

bytes_of_quoted : (p : PlainPerson) → list_all is_plain_byte p.address ≡ true
    → address_bytes (written_quoted p)
    ≡ (quoted_phrase p.name ++ angle_start ∷ from_address p) ++ separator ∷ []
bytes_of_quoted p address =
    let rest = 34 ∷ 32 ∷ 60 ∷ (p.address ++ 62 ∷ 44 ∷ []) in
    ap (λ (bs : List AddressByte). quote ∷ bs) (bytes_quoted p.name rest)
    ∙ ap (λ (bs : List AddressByte). quote
    ∷ (quoted_bytes p.name ++ quote ∷ text_byte 32 ∷ angle_start ∷ bs))
    (bytes_plain true p.address (62 ∷ 44 ∷ []) address)
    ∙ simp append_assoc

pub quoted_phrase_is_read : QuotedPhraseIsRead
quoted_phrase_is_read p quotable =
    let both =
    and_parts (is_utf8 p.name && is_trimmed p.name && not (has_mark p.name))
    (is_plain p.address) quotable in
    let name = and_parts (is_utf8 p.name && is_trimmed p.name) (not (has_mark p.name)) both.0 in
    let text = and_parts (is_utf8 p.name) (is_trimmed p.name) name.0 in
    let address = and_parts (list_all is_plain_byte p.address) (is_trimmed p.address) both.1 in
    let piece = quoted_phrase p.name ++ angle_start ∷ from_address p in
    let whole : list_all (λ b. not (has Separator b)) piece ≡ true =
    list_all-append (λ b. not (has Separator b)) (quoted_phrase p.name)
    (angle_start ∷ from_address p)
    ∙ rw (all_phrase (λ b. not (has Separator b)) (λ b. refl) refl refl p.name)
    (all_address (λ b. not (has Separator b)) (λ b. refl) refl p) in
    ap (λ (bs : List AddressByte). persons_in (slice_split (has Separator) bs))
    (bytes_of_quoted p address.0)
    ∙ ap persons_in (split_front (has Separator) piece separator [] whole refl)
    ∙ ap (λ (o : Option PlainPerson). option_to_list o ++ [])
    (person_in_brackets (quoted_phrase p.name) p
    (all_phrase (λ b. not (has GroupEnd b)) (λ b. refl) refl refl p.name)
    (unquoted_phrase p.name)
    (name_stays p.name (IsUtf8-from_is_utf8 p.name text.0) text.1
    (not-true (has_mark p.name) name.1))
    both.1)

-- a group

abbrev group_end : AddressByte
group_end = record { byte = 58; role = GroupEnd }

-- the name of a group goes from the first of its members
grouped : (front piece : List AddressByte) → list_all (λ b. not (has GroupEnd b)) piece ≡ true
    → person_in (front ++ group_end ∷ piece) ≡ person_in piece
grouped front piece none =
    ap (λ (bs : List AddressByte). if list_all (λ b. is_blank b.byte) bs then None
    else Some (person_of bs
    (brackets_of bs)))
    (after_last_at (has GroupEnd) front group_end piece none refl
    ∙ sym (after_last_absent (has GroupEnd) piece none))

bytes_of_group : (phrase rest : List ℕ) → list_all is_plain_byte phrase ≡ true
    → address_bytes (phrase ++ 58 ∷ rest) ≡ text_bytes phrase ++ group_end ∷ address_bytes rest
bytes_of_group phrase rest plain = bytes_plain false phrase (58 ∷ rest) plain

group_of : (phrase : List ℕ) (piece : List AddressByte)
    → list_all (λ b. not (has Separator b)) piece ≡ true
    → list_all (λ b. not (has Separator b)) (text_bytes phrase ++ group_end ∷ piece) ≡ true
group_of phrase piece none =
    list_all-append (λ b. not (has Separator b)) (text_bytes phrase) (group_end ∷ piece)
    ∙ rw (all_text (λ b. not (has Separator b)) (λ b. refl) phrase) none

-- a list behind the name of a group
group_persons : (phrase rest : List ℕ) (piece : List AddressByte) (last : AddressByte)
    (more : List AddressByte)
    → list_all is_plain_byte phrase ≡ true → list_all (λ b. not (has Separator b)) piece ≡ true
    → list_all (λ b. not (has GroupEnd b)) piece ≡ true → has Separator last ≡ true
    → address_bytes rest ≡ piece ++ last ∷ more
    → people (phrase ++ 58 ∷ rest) ≡ people rest
group_persons phrase rest piece last more plain apart ungrouped ends is =
    let front = text_bytes phrase in
    let first = λ (bs : List AddressByte). persons_in (slice_split (has Separator) bs) in
    ap first (bytes_of_group phrase rest plain)
    ∙ ap (λ (bs : List AddressByte). first (front ++ group_end ∷ bs)) is
    ∙ ap first (sym (append_assoc front (group_end ∷ piece) (last ∷ more)))
    ∙ ap persons_in
    (split_front (has Separator) (front ++ group_end ∷ piece) last more
    (group_of phrase piece apart)
    ends)
    ∙ ap (λ (o : Option PlainPerson). option_to_list o
    ++ persons_in (slice_split (has Separator) more))
    (grouped front piece ungrouped)
    ∙ sym (ap persons_in (split_front (has Separator) piece last more apart ends))
    ∙ sym (ap first is)

group_rest : (phrase : List ℕ) (persons : List PlainPerson) → list_all is_plain_byte phrase ≡ true
    → list_all is_plain_person persons ≡ true
    → people (phrase ++ 58 ∷ (flat_map written_person persons ++ 59 ∷ []))
    ≡ people (flat_map written_person persons ++ 59 ∷ [])
group_rest phrase [] plain all =
    group_persons phrase (59 ∷ []) [] (record { byte = 59; role = Separator }) [] plain refl refl
    refl refl
group_rest phrase (p ∷ persons) plain all =
    let both = and_parts (is_plain_person p) (list_all is_plain_person persons) all in
    let parts = and_parts (is_plain p.name && not (has_mark p.name)) (is_plain p.address) both.0 in
    let name =
    and_parts (list_all is_plain_byte p.name) (is_trimmed p.name)
    (and_parts (is_plain p.name) (not (has_mark p.name)) parts.0).0 in
    let address = and_parts (list_all is_plain_byte p.address) (is_trimmed p.address) parts.1 in
    let later = flat_map written_person persons ++ 59 ∷ [] in
    group_persons phrase (flat_map written_person (p ∷ persons) ++ 59 ∷ []) (piece_of p) separator
    (address_bytes later) plain
    (all_piece (λ b. not (has Separator b)) (λ b. refl) refl refl p)
    (all_piece (λ b. not (has GroupEnd b)) (λ b. refl) refl refl p)
    refl
    (ap address_bytes (append_assoc (written_person p) (flat_map written_person persons) (59 ∷ []))
    ∙ bytes_of_person p later name.0 address.0)

pub group_is_read : GroupIsRead
group_is_read phrase persons plain all =
    group_rest phrase persons plain all
    ∙ people_written persons (59 ∷ []) all
    ∙ append-nil persons

-- an address with a comment

abbrev comment_start : AddressByte
comment_start = record { byte = 40; role = CommentStart }

abbrev comment_end : AddressByte
comment_end = record { byte = 41; role = CommentEnd }

comment_bytes : List ℕ → List AddressByte
comment_bytes s = map (λ b. record { byte = b; role = CommentText }) s

comment_step-plain : (b : ℕ) → is_plain_byte b ≡ true → comment_step 1 b ≡ (CommentText, Comment 1)
comment_step-plain b plain = grind (arith, nat_tests)

bytes_comment : (s rest : List ℕ) → list_all is_plain_byte s ≡ true
    → bytes_from (state_in false (Comment 1)) (s ++ rest)
    ≡ comment_bytes s ++ bytes_from (state_in false (Comment 1)) rest
unfolding comment_bytes
bytes_comment [] rest plain = refl
bytes_comment (b ∷ s) rest plain =
    let both = and_parts (is_plain_byte b) (list_all is_plain_byte s) plain in
    ap (λ (p : Role × Within). record { byte = b; role = p.0 }
    ∷ bytes_from (state_in false p.1) (s ++ rest))
    (comment_step-plain b both.0)
    ∙ ap (λ (bs : List AddressByte). record { byte = b; role = CommentText } ∷ bs)
    (bytes_comment s rest both.1)

all_comment : (q : AddressByte → Bool)
    → ((b : ℕ) → q (record { byte = b; role = CommentText }) ≡ true)
    → (s : List ℕ) → list_all q (comment_bytes s) ≡ true
unfolding comment_bytes
all_comment q text [] = refl
all_comment q text (b ∷ s) = rw (text b) (all_comment q text s)

bytes_of_comment : (s : List ℕ) → bytes_of (comment_bytes s) ≡ s
unfolding comment_bytes
bytes_of_comment [] = refl
bytes_of_comment (b ∷ s) = ap (λ l. b ∷ l) (bytes_of_comment s)

-- the comment behind its first parenthesis
abbrev comment_tail : PlainPerson → List AddressByte
comment_tail p = comment_bytes p.name ++ comment_end ∷ []

abbrev commented_piece : PlainPerson → List AddressByte
commented_piece p = text_bytes (p.address ++ 32 ∷ []) ++ comment_start ∷ comment_tail p

all_commented : (q : AddressByte → Bool) → ((b : ℕ) → q (text_byte b) ≡ true)
    → ((b : ℕ) → q (record { byte = b; role = CommentText }) ≡ true) → q comment_start ≡ true
    → q comment_end ≡ true
    → (p : PlainPerson) → list_all q (commented_piece p) ≡ true
all_commented q text comment start end p =
    list_all-append q (text_bytes (p.address ++ 32 ∷ [])) (comment_start ∷ comment_tail p)
    ∙ rw (all_text q text (p.address ++ 32 ∷ []), start)
    (list_all-append q (comment_bytes p.name) (comment_end ∷ [])
    ∙ rw (all_comment q comment p.name, end) refl)

bytes_of_commented : (p : PlainPerson) → list_all is_plain_byte p.name ≡ true
    → list_all is_plain_byte p.address ≡ true
    → address_bytes (written_commented p) ≡ commented_piece p ++ separator ∷ []
bytes_of_commented p name address =
    bytes_plain false (p.address ++ 32 ∷ []) (40 ∷ (p.name ++ 41 ∷ 44 ∷ []))
    (plain_phrase p.address address)
    ∙ ap (λ (bs : List AddressByte). text_bytes (p.address ++ 32 ∷ []) ++ comment_start ∷ bs)
    (bytes_comment p.name (41 ∷ 44 ∷ []) name)
    ∙ simp append_assoc

none_any : {X : Type 0} (q : X → Bool) (xs : List X) → list_all (λ x. not (q x)) xs ≡ true
    → list_any q xs ≡ false
none_any q [] none = refl
none_any q (x ∷ xs) none =
    let both = and_parts (not (q x)) (list_all (λ y. not (q y)) xs) none in
    rw (not-true (q x) both.0) (none_any q xs both.1)

comments_go : (s : List ℕ) → filter (λ b. not (is_comment b)) (comment_bytes s) ≡ []
unfolding comment_bytes
comments_go [] = refl
comments_go (b ∷ s) = comments_go s

uncommented : (p : PlainPerson)
    → filter (λ b. not (is_comment b)) (commented_piece p) ≡ text_bytes (p.address ++ 32 ∷ [])
uncommented p =
    let front = text_bytes (p.address ++ 32 ∷ []) in
    let keeps = λ (b : AddressByte). not (is_comment b) in
    filter-append keeps front (comment_start ∷ comment_tail p)
    ∙ ap (λ l. l ++ filter keeps (comment_tail p))
    (filter_all keeps front (all_text keeps (λ b. refl) (p.address
    ++ 32 ∷ [])))
    ∙ ap (λ l. front ++ l) (filter-append keeps (comment_bytes p.name) (comment_end ∷ [])
    ∙ ap (λ l. l ++ []) (comments_go p.name))
    ∙ append-nil front

comment_of : (p : PlainPerson) → first_comment (commented_piece p) ≡ comment_bytes p.name
comment_of p =
    let front = text_bytes (p.address ++ 32 ∷ []) in
    ap (before_first (has CommentEnd))
    (after_first_at (has CommentStart) front comment_start (comment_tail p)
    (all_text (λ b. not (has CommentStart b)) (λ b. refl) (p.address ++ 32 ∷ [])) refl)
    ∙ before_first_at (has CommentEnd) (comment_bytes p.name) comment_end []
    (all_comment (λ b. not (has CommentEnd b)) (λ b. refl) p.name) refl

pub comment_is_the_name : CommentIsTheName
comment_is_the_name p plain =
    let both = and_parts (is_plain p.name && not (has_mark p.name)) (is_plain p.address) plain in
    let parts = and_parts (is_plain p.name) (not (has_mark p.name)) both.0 in
    let name = and_parts (list_all is_plain_byte p.name) (is_trimmed p.name) parts.0 in
    let address = and_parts (list_all is_plain_byte p.address) (is_trimmed p.address) both.1 in
    let piece = commented_piece p in
    let name_is : shown_name (first_comment piece) ≡ p.name =
    ap shown_name (comment_of p)
    ∙ ap (λ l. decoded_words (trimmed l)) (bytes_of_comment p.name)
    ∙ ap decoded_words (trimmed_stay p.name name.1)
    ∙ plain_text_stays p.name (not-true (has_mark p.name) parts.1)
    ∙ shown_utf8 p.name (plain_utf8 p.name name.0) in
    let no_brackets : brackets_of piece ≡ None =
    rw (none_any (has AngleStart) piece
    (all_commented (λ b. not (has AngleStart b)) (λ b. refl) (λ b. refl) refl refl p)) refl in
    let address_is : trimmed (bytes_of (filter (λ b. not (is_comment b)) piece)) ≡ p.address =
    ap (λ l. trimmed (bytes_of l)) (uncommented p)
    ∙ ap trimmed (bytes_of_text (p.address ++ 32 ∷ []))
    ∙ trimmed_phrase p.address address.1 in
    ap (λ (bs : List AddressByte). persons_in (slice_split (has Separator) bs))
    (bytes_of_commented p name.0 address.0)
    ∙ ap persons_in (split_front (has Separator) piece separator []
    (all_commented (λ b. not (has Separator b)) (λ b. refl) (λ b. refl) refl refl p) refl)
    ∙ ap (λ (bs : List AddressByte). option_to_list (if list_all (λ b. is_blank b.byte) bs then None
    else Some (person_of bs (brackets_of bs))) ++ []) (after_last_absent (has GroupEnd) piece
    (all_commented (λ b. not (has GroupEnd b)) (λ b. refl) (λ b. refl) refl refl p))
    ∙ ap (λ t. option_to_list (if t then None else Some (person_of piece (brackets_of piece)))
    ++ [])
    (all_not_at (λ b. is_blank b.byte) (text_bytes (p.address ++ 32 ∷ [])) comment_start
    (comment_tail p) refl)
    ∙ ap (λ (o : Option PlainBrackets). person_of piece o ∷ [])
    no_brackets
    ∙ ap (λ (n : List ℕ). record
    { name = n; address = trimmed (bytes_of (filter (λ b. not (is_comment b)) piece)) } ∷ [])
    name_is
    ∙ ap (λ (a : List ℕ). record { name = p.name; address = a } ∷ []) address_is
