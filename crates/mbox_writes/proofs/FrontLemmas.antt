-- Bytes that begin with known ones, and the messages of both.
use Rattle.std.proofs.Common.{◌≡◌, ◌≤◌, ◌<◌, ◌+◌, ◌-◌, ◌==◌, ℕ, zero, suc, Bool, true, false, List}
use Rattle.std.proofs.Common.{[], ◌∷◌, ◌++◌, Option, Some, None, length, map, take, drop, refl, sym}
use Rattle.std.proofs.Common.{ap, ◌∙◌, arith, append-nil, append_assoc, length-drop, take_all}
use Rattle.std.proofs.Common.{take-append-drop}
use Rattle.std.specs.Prelude.{◌&&◌, if◌then◌else◌, nat_lt, option_map, slice_range}
use Rattle.std.specs.Str.{bytes_eq}
use Rattle.std.proofs.lemmas.Bool.{and_parts, eqb-true, le-ltb, lt-ltb, ltb-false, ltb-true}
use Rattle.std.proofs.lemmas.Bool.Decides.{nat_tests}
use Rattle.std.proofs.lemmas.List.{drop-append-le, length-map, take-append-le}
use Rattle.std.proofs.lemmas.Slice.Eq.{bytes_eq-Decides}
use Rattle.bstr.specs.Text.{line_len, lines_of}
use Rattle.bstr.proofs.lemmas.LineLemmas.{line_len-bounds, lines-empty, lines-step}
use Rattle.mail_base.proofs.LinesLemmas.{first_ends, first_line, line_in_front}
use Rattle.folder_core.specs.Limits.{most_messages}
use Rattle.folder_core.specs.Mbox.{begins_mailbox, begins_with_postmark, core, first_some, messages}
use Rattle.folder_core.specs.Mbox.{raw_messages, regions, spans}
use Rattle.folder_core.specs.declared.region.Region.{Region}
use Rattle.folder_core.proofs.Messages.{in_region, map-regions, region_at}
use Rattle.mbox_text.proofs.RegionsLemmas.{begins_empty}
use Rattle.folder_drivers.specs.MboxFront.{BeginsAs, begin_with, common_length, cores}
use Rattle.mbox_writes.specs.Fronts.{IsWithin, core_in}
use Rattle.mbox_writes.specs.declared.front.FrontError.TheVariants.{Differs, TooMany}
use Rattle.folder_drivers.specs.MboxFront.{first_difference, messages_begin}
use Rattle.mbox_writes.specs.Fronts.{cores_in, front_refusal}
use Rattle.folder_drivers.specs.MboxFront.{too_many}

true_false : ◌≡◌ {A = Bool} true false → ⊥
true_false e = cc

-- Bytes.

-- bytes that are all alike are the front
pub common_front : (known bytes : List ℕ) → length known ≤ common_length known bytes
    → take (length known) bytes ≡ known
common_front [] bytes all = refl
common_front (a ∷ known) [] all = absurd (omega (arith, all))
common_front (a ∷ known) (b ∷ bytes) all =
    by (a == b) refl all (λ more. common_front known bytes more)
  where
    by : (t : Bool) → (a == b) ≡ t
        → length (a ∷ known) ≤ (if t then common_length known bytes + 1 else 0)
        → (length known ≤ common_length known bytes → take (length known) bytes ≡ known)
        → take (length (a ∷ known)) (b ∷ bytes) ≡ a ∷ known
    by true same all more =
        ap (λ x. x ∷ take (length known) bytes) (sym (eqb-true a b same))
        ∙ ap (λ l. a ∷ l) (more (omega (arith, all)))
    by false other all more = absurd (omega (arith, all))

-- Lists of texts.

-- texts with which others begin are their front
pub begin_front : (front texts : List (List ℕ)) → begin_with front texts ≡ true
    → take (length front) texts ≡ front
begin_front [] texts same = refl
begin_front (text ∷ front) [] same = absurd (true_false (sym same))
begin_front (text ∷ front) (other ∷ texts) same =
    let both = and_parts (bytes_eq text other) (begin_with front texts) same in
    ap (λ x. x ∷ take (length front) texts) (sym ((bytes_eq-Decides text other).0 both.0))
    ∙ ap (λ l. text ∷ l) (begin_front front texts both.1)

-- Regions.

-- in the regions of a file stand its messages
pub cores_regions : (bytes : List ℕ) → cores_in bytes (regions bytes) ≡ cores bytes
cores_regions bytes = ap (map core) (map-regions bytes)

-- a region of known bytes has the same bytes in a file that begins with them
same_region : (known bytes : List ℕ) (region : Region) → take (length known) bytes ≡ known
    → region.start ≤ region.end → region.end ≤ length known
    → slice_range known region.start region.end ≡ slice_range bytes region.start region.end
same_region known bytes region front from to =
    let size = region.end - region.start in
    let rest = drop (length known) bytes in
    let whole : bytes ≡ known ++ rest =
    sym (take-append-drop (length known) bytes) ∙ ap (λ l. l ++ rest) front in
    sym (ap (λ l. take size (drop region.start l)) whole
    ∙ ap (take size) (drop-append-le region.start known rest (omega (arith, from, to)))
    ∙ take-append-le size (drop region.start known) rest
    (omega (arith, from, to, length-drop region.start known)))

-- so the same stays of its message
pub same_core : (known bytes : List ℕ) (first region : Region)
    → take (length known) bytes ≡ known → IsWithin (length known) first
    → first.start ≡ region.start → first.end ≡ region.end
    → bytes_eq (core_in known first) (core_in bytes region) ≡ true
same_core known bytes first region front within starts ends =
    (bytes_eq-Decides (core_in known first) (core_in bytes region)).1
    (ap core (same_region known bytes first front within.0 within.1)
    ∙ ap (λ n. core (slice_range bytes n first.end)) starts
    ∙ ap (λ n. core (slice_range bytes region.start n)) ends)

-- Bytes that begin no mailbox, and with which one begins, are one line.

-- a text of one line
one_region : (line : List ℕ) → spans 0 (messages (line ∷ [])) ≡ region_at 0 (length line) ∷ []
one_region line =
    let end : 0 + length (line ++ []) ≡ length line = omega (arith, ap length (append-nil line)) in
    ap (λ n. region_at 0 n ∷ []) end

-- the first line of known bytes is that of a file that begins with them, where more follow it
same_first : (known bytes : List ℕ) → take (length known) bytes ≡ known
    → line_len known < length known → begins_mailbox bytes ≡ begins_mailbox known
same_first known bytes front more =
    let some : 0 < length known = omega (arith, more) in
    let line = take (line_len known) known in
    let rest = drop (line_len known) known ++ drop (length known) bytes in
    let whole : bytes ≡ line ++ rest =
    sym (take-append-drop (length known) bytes)
    ∙ ap (λ l. l ++ drop (length known) bytes)
    (front ∙ sym (take-append-drop (line_len known) known))
    ∙ append_assoc line (drop (line_len known) known) (drop (length known) bytes) in
    ap begins_mailbox whole
    ∙ ap begins_with_postmark (line_in_front line rest (first_line known some)
    (first_ends known more))
    ∙ ap begins_with_postmark (sym (lines-step known some))

-- what is no more than one line has one region
whole_line : (known : List ℕ) → 0 < length known → length known ≤ line_len known
    → regions known ≡ region_at 0 (length known) ∷ []
whole_line known some all =
    let bounds = line_len-bounds known some in
    let whole : line_len known ≡ length known = omega (arith, bounds.1, all) in
    let one : lines_of known ≡ known ∷ [] =
    lines-step known some
    ∙ ap (λ n. take n known ∷ lines_of (drop n known)) whole
    ∙ ap (λ l. l ∷ lines_of (drop (length known) known))
    (take_all (length known) known (omega arith))
    ∙ ap (λ ls. known ∷ ls) (lines-empty (drop (length known) known)
    (omega (arith, length-drop (length known) known))) in
    ap (λ ls. spans 0 (messages ls)) one ∙ one_region known

-- so such bytes have one
pub one_line : (known bytes : List ℕ) → take (length known) bytes ≡ known
    → begins_mailbox bytes ≡ true → begins_mailbox known ≡ false
    → regions known ≡ region_at 0 (length known) ∷ []
one_line known bytes front begins none = by (nat_lt (line_len known) (length known)) refl
  where
    some : 0 < length known
    some = by_length (length known) refl
      where
        by_length : (n : ℕ) → length known ≡ n → 0 < length known
        by_length zero is = absurd (true_false (sym (begins_empty known is) ∙ none))
        by_length (suc n) is = omega (arith, is)

    by : (t : Bool) → nat_lt (line_len known) (length known) ≡ t
        → regions known ≡ region_at 0 (length known) ∷ []
    by true less = absurd (true_false (sym begins
        ∙ same_first known bytes front (ltb-true _ _ less) ∙ none))
    by false all = whole_line known some (grind (arith, nat_tests))

-- Why a file is not the known one.

-- where its messages are counted, by its regions
pub counted : (bytes : List ℕ) (count : ℕ) (many : Bool) → begins_mailbox bytes ≡ true
    → count ≡ length (regions bytes) → nat_lt most_messages count ≡ many
    → too_many bytes ≡ (if many then Some count else None)
counted bytes count many begins regions_are is =
    let all : length (raw_messages bytes) ≡ count =
    sym (ap length (map-regions bytes)) ∙ length-map (regions bytes) (in_region bytes)
    ∙ sym regions_are in
    ap (λ n. if begins_mailbox bytes && nat_lt most_messages n then Some n else None) all
    ∙ ap (λ t. if t && nat_lt most_messages count then Some count else None) begins
    ∙ ap (λ t. if t then Some count else None) is

-- where the bytes alone differ
pub bytes_differ : (known bytes : List ℕ) → common_length known bytes < length known
    → first_difference known bytes ≡ Some (common_length known bytes)
bytes_differ known bytes less =
    ap (λ t. if t then Some (common_length known bytes)
    else (if messages_begin known bytes then None else Some (length known)))
    (lt-ltb (common_length known bytes) (length known) less)

-- where they do not
pub messages_decide : (known bytes : List ℕ) (same : Bool)
    → length known ≤ common_length known bytes → messages_begin known bytes ≡ same
    → first_difference known bytes ≡ (if same then None else Some (length known))
messages_decide known bytes same all is =
    ap (λ t. if t then Some (common_length known bytes)
    else (if messages_begin known bytes then None else Some (length known)))
    (le-ltb (common_length known bytes) (length known) all)
    ∙ ap (λ t. if t then None else Some (length known)) is

-- a file that is nowhere another one begins as it is known
pub as_known : (known bytes : List ℕ) → first_difference known bytes ≡ None → BeginsAs known bytes
as_known known bytes nowhere = by (nat_lt (common_length known bytes) (length known)) refl
  where
    some_none : (n : ℕ) → ◌≡◌ {A = Option ℕ} (Some n) None → ⊥
    some_none n e = cc

    by_messages : (t : Bool) → length known ≤ common_length known bytes
        → messages_begin known bytes ≡ t → BeginsAs known bytes
    by_messages true alike same = record {
      front = common_front known bytes alike;
      messages = begin_front (cores known) (cores bytes)
          (and_parts (begins_mailbox bytes) (begin_with (cores known) (cores bytes)) same).1;
    }
    by_messages false alike other = absurd (some_none (length known)
        (sym (messages_decide known bytes false alike other) ∙ nowhere))

    by : (t : Bool) → nat_lt (common_length known bytes) (length known) ≡ t
        → BeginsAs known bytes
    by true less = absurd (some_none (common_length known bytes)
        (sym (bytes_differ known bytes (ltb-true _ _ less)) ∙ nowhere))
    by false all =
        by_messages (messages_begin known bytes)
        (ltb-false (common_length known bytes) (length known) all) refl

-- why it is refused, by both
pub refused_by : (known bytes : List ℕ) (count place : Option ℕ) → too_many bytes ≡ count
    → first_difference known bytes ≡ place
    → front_refusal known bytes
    ≡ first_some (option_map (λ n. TooMany n) count) (option_map (λ n. Differs n) place)
refused_by known bytes count place many differs =
    ap (λ o. first_some (option_map (λ n. TooMany n) o)
    (option_map (λ n. Differs n) (first_difference known bytes))) many
    ∙ ap (λ o. first_some (option_map (λ n. TooMany n) count) (option_map (λ n. Differs n) o))
    differs
