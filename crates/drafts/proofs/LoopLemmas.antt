-- How the loops of readers and writers of drafts go on.
use Rattle.std.proofs.Common.{◌≡◌, ℕ, zero, suc, ◌+◌, ◌-◌, ◌<◌, ◌≤◌, ◌==◌, ◌&&◌, Bool, true}
use Rattle.std.proofs.Common.{false, List, [], ◌∷◌, ◌++◌, length, take, drop, Option, Some, None}
use Rattle.std.proofs.Common.{Result, Ok, Err, refl, sym, ap, ◌∙◌, arith, append_assoc, length-drop}
use Rattle.std.proofs.Common.{codes, filter, get_or, option_map, position}
use Rattle.std.specs.Prelude.{if◌then◌else◌}
use Rattle.std.specs.List.{flat_map, join_with_byte, list_all, slice_split}
use Rattle.std.proofs.lemmas.Bool.{and_from}
use Rattle.std.proofs.lemmas.List.{append-nil, drop_all, drop_more, map-append}
use Rattle.std.proofs.lemmas.List.{take_all, take_more}
use Rattle.std.proofs.lemmas.List.Elements.{filter-append}
use Rattle.std.proofs.lemmas.List.Folds.{list_all-append}
use Rattle.mail_base.specs.Fronts.{behind}
use Rattle.mail_base.specs.Places.{around, split_once}
use Rattle.mail_base.specs.Series.{Held}
use Rattle.mail_base.proofs.PlacesLemmas.{slice_split_first_none, slice_split_first_some}
use Rattle.drafts.specs.LineState.{may_end, step}
use Rattle.drafts.specs.PlainDraft.{is_id, is_text}
use Rattle.drafts.specs.Reading.{◌>>=◌, behind_bytes, lines_from, read_line, read_lines}
use Rattle.drafts.specs.Reading.{line_at, with_first, with_line}
use Rattle.drafts.specs.Spelled.{references_line}
use Rattle.drafts.specs.Texts.{texts}
use Rattle.drafts.specs.declared.line_state.LineState.{LineState}
use Rattle.drafts.specs.declared.line_state.LineState.TheVariants.{Text}
use Rattle.drafts.proofs.BodyLemmas.{lines_none, lines_step}
use Rattle.drafts.proofs.LineLemmas.{empty_line, line_reads, read_end, read_none, read_on}
use Rattle.drafts.proofs.TextLemmas.{goes_text}

-- a line with more bytes before it
abbrev pub with_front : List ℕ → List ℕ × List ℕ → Result (List ℕ × List ℕ) ℕ
with_front front line = Ok (front ++ line.0, line.1)

-- lines with others before them
abbrev pub with_lines : List (List ℕ) → List (List ℕ) → Result (List (List ℕ)) ℕ
with_lines front lines = Ok (front ++ lines)

-- ---- writing

-- ids with a blank before each
abbrev pub more_ids : List (List ℕ) → List ℕ
more_ids ids = flat_map (λ id. 32 ∷ id) ids

-- ids that are joined
joined_ids : (id : List ℕ) (ids : List (List ℕ))
    → join_with_byte 32 (id ∷ ids) ≡ id ++ more_ids ids
joined_ids id [] = sym (append-nil id)
joined_ids id (next ∷ ids) = ap (λ (l : List ℕ). id ++ 32 ∷ l) (joined_ids next ids)

-- all ids were written
pub ids_written : (out start id : List ℕ) (left ids : List (Held ℕ)) → length left < 1
    → out ++ more_ids (texts left) ≡ (start ++ id) ++ more_ids (texts ids)
    → out ≡ start ++ join_with_byte 32 (id ∷ texts ids)
ids_written out start id (x ∷ left) ids none same = absurd (omega arith)
ids_written out start id [] ids none same =
    sym (append-nil out) ∙ same ∙ append_assoc start id (more_ids (texts ids))
    ∙ ap (λ (l : List ℕ). start ++ l) (sym (joined_ids id (texts ids)))

-- the line of ids by its first id and the others
pub references_by : (ids : List (Held ℕ)) (first : Held ℕ) → 1 ≤ length ids
    → first ≡ get_or ids 0 first
    → references_line (texts ids)
    ≡ codes "References: "
    ++ (join_with_byte 32 (first.items ∷ texts (take (length ids - 1) (drop 1 ids)))
    ++ 10 ∷ [])
references_by [] first some is = absurd (omega arith)
references_by (x ∷ ids) first some is =
    let all : take (length (x ∷ ids) - 1) ids ≡ ids =
    take_all (length (x ∷ ids) - 1) ids (omega arith) in
    ap (λ (l : List (Held ℕ)). references_line (x.items ∷ texts l)) (sym all)
    ∙ ap (λ (f : Held ℕ). references_line (f.items ∷ texts (take (length (x ∷ ids) - 1) ids)))
    (sym is)

-- five texts behind another
pub five_behind : (o a b c d e : List ℕ)
    → ((((o ++ a) ++ b) ++ c) ++ d) ++ e ≡ o ++ (a ++ (b ++ (c ++ (d ++ e))))
five_behind o a b c d e = simp append_assoc

-- ---- reading

behind_some : (c : ℕ) (cs t rest : List ℕ) → behind c t ≡ Some rest
    → behind_bytes (c ∷ cs) t ≡ behind_bytes cs rest
unfolding behind_bytes
behind_some c cs [] rest is = absurd (cc)
behind_some c cs (b ∷ t) rest is = by_test (b == c) is
  where
    by_test : (p : Bool) → (if p then Some t else None) ≡ Some rest
        → (if p then behind_bytes cs t else Err (length (b ∷ t))) ≡ behind_bytes cs rest
    by_test true e = let same : t ≡ rest = cc in ap (behind_bytes cs) same
    by_test false e = absurd (cc)

behind_none : (c : ℕ) (cs t : List ℕ) → behind c t ≡ None
    → behind_bytes (c ∷ cs) t ≡ Err (length t)
unfolding behind_bytes
behind_none c cs [] is = refl
behind_none c cs (b ∷ t) is = by_test (b == c) is
  where
    by_test : (p : Bool) → (if p then Some t else None) ≡ None
        → (if p then behind_bytes cs t else Err (length (b ∷ t))) ≡ Err (length (b ∷ t))
    by_test true e = absurd (cc)
    by_test false e = refl

behind_all : (s : List ℕ) → behind_bytes [] s ≡ Ok s
unfolding behind_bytes
behind_all s = refl

-- one more byte stands there
pub behind_on : (bytes s rest : List ℕ) (i : ℕ) (all : Result (List ℕ) ℕ) → i < length bytes
    → behind (get_or bytes i 0) s ≡ Some rest
    → behind_bytes (drop i bytes) s ≡ all
    → behind_bytes (drop (i + 1) bytes) rest ≡ all
behind_on bytes s rest i all less is same =
    sym (behind_some (get_or bytes i 0) (drop (i + 1) bytes) s rest is)
    ∙ ap (λ (l : List ℕ). behind_bytes l s) (sym (drop_more bytes i 0 less)) ∙ same

-- the byte does not stand there
pub behind_stops : (bytes s : List ℕ) (i : ℕ) (all : Result (List ℕ) ℕ) → i < length bytes
    → behind (get_or bytes i 0) s ≡ None
    → behind_bytes (drop i bytes) s ≡ all
    → all ≡ Err (length s)
behind_stops bytes s i all less is same =
    sym same ∙ ap (λ (l : List ℕ). behind_bytes l s) (drop_more bytes i 0 less)
    ∙ behind_none (get_or bytes i 0) (drop (i + 1) bytes) s is

-- all bytes stood there
pub behind_end : (bytes s : List ℕ) (i : ℕ) (all : Result (List ℕ) ℕ) → length bytes ≤ i
    → behind_bytes (drop i bytes) s ≡ all
    → all ≡ Ok s
behind_end bytes s i all none same =
    sym same ∙ ap (λ (l : List ℕ). behind_bytes l s) (drop_all i bytes none) ∙ behind_all s

-- a byte before a line and others before it
first_front : (b : ℕ) (front : List ℕ) (o : Result (List ℕ × List ℕ) ℕ)
    → ((o >>= with_first b) >>= with_front front) ≡ (o >>= with_front (front ++ b ∷ []))
first_front b front (Ok line) =
    ap (λ (l : List ℕ). Ok (l, line.1)) (sym (append_assoc front (b ∷ []) line.0))
first_front b front (Err left) = refl

-- one more byte goes on
pub line_on : (text : List ℕ) (state later : LineState) (i : ℕ)
    (all : Result (List ℕ × List ℕ) ℕ) → i < length text
    → step state (get_or text i 0) ≡ Some later
    → (read_line state (drop i text) >>= with_front (take i text)) ≡ all
    → (read_line later (drop (i + 1) text) >>= with_front (take (i + 1) text)) ≡ all
line_on text state later i all less is same =
    let b = get_or text i 0 in
    let rest = drop (i + 1) text in
    ap (λ (l : List ℕ). read_line later rest >>= with_front l) (take_more text i 0 less)
    ∙ sym (first_front b (take i text) (read_line later rest))
    ∙ ap (λ o. o >>= with_front (take i text)) (sym (read_on state later b rest is))
    ∙ ap (λ (l : List ℕ). read_line state l >>= with_front (take i text))
    (sym (drop_more text i 0 less))
    ∙ same

-- nothing goes on
pub line_done : (text : List ℕ) (state : LineState) (i : ℕ) (all : Result (List ℕ × List ℕ) ℕ)
    → i < length text
    → step state (get_or text i 0) ≡ None
    → (read_line state (drop i text) >>= with_front (take i text)) ≡ all
    → all ≡ line_at state text i
line_done text state i all less is same =
    let b = get_or text i 0 in
    let rest = drop (i + 1) text in
    sym same
    ∙ ap (λ (l : List ℕ). read_line state l >>= with_front (take i text)) (drop_more text i 0 less)
    ∙ ap (λ o. o >>= with_front (take i text)) (read_end state b rest is)
    ∙ by_test (may_end state && b == 10)
  where
    size : length (get_or text i 0 ∷ drop (i + 1) text) ≡ length text - i
    size = omega (arith, length-drop (i + 1) text)

    by_test : (p : Bool)
        → ((if p then empty_line (drop (i + 1) text)
        else Err (length (get_or text i 0 ∷ drop (i + 1) text)))
        >>= with_front (take i text))
        ≡ (if p then Ok (around text i) else Err (length text - i))
    by_test true = ap (λ (l : List ℕ). Ok (l, drop (i + 1) text)) (append-nil (take i text))
    by_test false = ap (λ (n : ℕ). Err n) size

-- the text ends
pub line_out : (text : List ℕ) (state : LineState) (i : ℕ) (all : Result (List ℕ × List ℕ) ℕ)
    → length text ≤ i
    → (read_line state (drop i text) >>= with_front (take i text)) ≡ all
    → all ≡ Err 0
line_out text state i all none same =
    sym same
    ∙ ap (λ (l : List ℕ). read_line state l >>= with_front (take i text)) (drop_all i text none)
    ∙ ap (λ o. o >>= with_front (take i text)) (read_none state)

-- ---- the ids of a text

abbrev is_between : ℕ → Bool
is_between b = b == 32

-- an id before a blank
pub split_some : (s id rest : List ℕ) → Some (id, rest) ≡ split_once 32 s
    → slice_split (λ b. b == 32) s ≡ id ∷ slice_split (λ b. b == 32) rest
split_some s id rest h = by_place (position is_between s) refl h
  where
    by_place : (o : Option ℕ) → position is_between s ≡ o
        → Some (id, rest) ≡ option_map (around s) o
        → slice_split is_between s ≡ id ∷ slice_split is_between rest
    by_place None is e = absurd (cc)
    by_place (Some k) is e =
        let same : (id, rest) ≡ around s k = cc in
        slice_split_first_some is_between s k is
        ∙ ap (λ (p : List ℕ × List ℕ). p.0 ∷ slice_split is_between p.1) (sym same)

-- the last id
pub split_none : (s : List ℕ) → None ≡ split_once 32 s → slice_split (λ b. b == 32) s ≡ s ∷ []
split_none s h = by_place (position is_between s) refl h
  where
    by_place : (o : Option ℕ) → position is_between s ≡ o → None ≡ option_map (around s) o
        → slice_split is_between s ≡ s ∷ []
    by_place None is e = slice_split_first_none is_between s is
    by_place (Some k) is e = absurd (cc)

-- one more text of a list
pub texts_push : (items : List (Held ℕ)) (item : Held ℕ) (text : List ℕ) (new : List (Held ℕ))
    → new ≡ items ++ item ∷ [] → item.items ≡ text
    → texts new ≡ texts items ++ text ∷ []
texts_push items item text new is same =
    ap texts is ∙ map-append (λ (t : Held ℕ). t.items) items (item ∷ [])
    ∙ ap (λ (l : List ℕ). texts items ++ l ∷ []) same

-- one more piece
pub pieces_on : (names names' : List (List ℕ)) (id rest s : List ℕ) (all : List (List ℕ))
    → names' ≡ names ++ id ∷ [] → Some (id, rest) ≡ split_once 32 s
    → names ++ slice_split (λ b. b == 32) s ≡ all
    → names' ++ slice_split (λ b. b == 32) rest ≡ all
pieces_on names names' id rest s all pushed cut same =
    let more = slice_split is_between rest in
    ap (λ (l : List (List ℕ)). l ++ more) pushed
    ∙ append_assoc names (id ∷ []) more
    ∙ ap (λ (l : List (List ℕ)). names ++ l) (sym (split_some s id rest cut))
    ∙ same

-- the last piece
pub pieces_end : (names names' : List (List ℕ)) (s : List ℕ) (all : List (List ℕ))
    → names' ≡ names ++ s ∷ [] → None ≡ split_once 32 s
    → names ++ slice_split (λ b. b == 32) s ≡ all
    → names' ≡ all
pieces_end names names' s all pushed cut same =
    pushed ∙ ap (λ (l : List (List ℕ)). names ++ l) (sym (split_none s cut)) ∙ same

-- ---- the lines of a body

-- what is read of a line
pub read_text : (s line rest : List ℕ) → read_line Text s ≡ Ok (line, rest) → is_text line ≡ true
read_text s line rest h =
    let p = (line_reads Text).sound s rest line h in goes_text line p.2.goes

-- a line and those behind it
abbrev with_rest : ℕ → List ℕ × List ℕ → Result (List (List ℕ)) ℕ
with_rest n line = lines_from n line.1 >>= with_line line.0

line_behind : (front : List (List ℕ)) (line : List ℕ) (o : Result (List (List ℕ)) ℕ)
    → ((o >>= with_line line) >>= with_lines front) ≡ (o >>= with_lines (front ++ line ∷ []))
line_behind front line (Ok lines) =
    ap (λ (l : List (List ℕ)). Ok l) (sym (append_assoc front (line ∷ []) lines))
line_behind front line (Err left) = refl

-- the lines that are left
pub record Left (left : List ℕ) (front : List (List ℕ)) (all : Result (List (List ℕ)) ℕ)
    : Type 0 where
  pub count : ℕ
  pub small : length left ≤ count
  pub same : (lines_from count left >>= with_lines front) ≡ all

-- one more line is read
pub lines_on : (s line rest : List ℕ) (front : List (List ℕ)) (all : Result (List (List ℕ)) ℕ)
    → 0 < length s → length rest < length s
    → read_line Text s ≡ Ok (line, rest) → Left s front all → Left rest (front ++ line ∷ []) all
lines_on s line rest front all some less read so = by_count so.count so.small so.same
  where
    by_count : (n : ℕ) → length s ≤ n → (lines_from n s >>= with_lines front) ≡ all
        → Left rest (front ++ line ∷ []) all
    by_count zero small same = absurd (omega arith)
    by_count (suc n) small same = record {
      count = n;
      small = omega arith;
      same = sym (line_behind front line (lines_from n rest))
          ∙ ap (λ o. (o >>= with_rest n) >>= with_lines front) (sym read)
          ∙ ap (λ o. o >>= with_lines front) (sym (lines_step n s some)) ∙ same;
    }

-- a line fails
pub lines_fail : (s : List ℕ) (left : ℕ) (front : List (List ℕ)) (all : Result (List (List ℕ)) ℕ)
    → 0 < length s → read_line Text s ≡ Err left → Left s front all → all ≡ Err left
lines_fail s left front all some read so = by_count so.count so.small so.same
  where
    by_count : (n : ℕ) → length s ≤ n → (lines_from n s >>= with_lines front) ≡ all
        → all ≡ Err left
    by_count zero small same = absurd (omega arith)
    by_count (suc n) small same =
        sym same ∙ ap (λ o. o >>= with_lines front) (lines_step n s some)
        ∙ ap (λ o. (o >>= with_rest n) >>= with_lines front) read

-- no line is left
pub lines_end : (s : List ℕ) (front : List (List ℕ)) (all : Result (List (List ℕ)) ℕ)
    → length s ≡ 0 → Left s front all → all ≡ Ok front
lines_end (b ∷ s) front all none so = absurd (omega arith)
lines_end [] front all none so =
    sym so.same ∙ ap (λ o. o >>= with_lines front) (lines_none so.count)
    ∙ ap (λ (l : List (List ℕ)). Ok l) (append-nil front)

-- one more text
pub texts_on : (lines : List (List ℕ)) (line : List ℕ) → list_all is_text lines ≡ true
    → is_text line ≡ true → list_all is_text (lines ++ line ∷ []) ≡ true
texts_on lines line all is =
    list_all-append is_text lines (line ∷ [])
    ∙ and_from (list_all is_text lines) (is_text line && true) all
    (and_from (is_text line) true is refl)

-- ---- ids

-- one more id is kept, if a draft may have it
pub ids_on : (names : List (List ℕ)) (id : List ℕ) (more : List (List ℕ))
    → (names ++ filter is_id (id ∷ [])) ++ filter is_id more
    ≡ names ++ filter is_id (id ∷ more)
ids_on names id more =
    append_assoc names (filter is_id (id ∷ [])) (filter is_id more)
    ∙ ap (λ (l : List (List ℕ)). names ++ l) (sym (filter-append is_id (id ∷ []) more))
