-- The bytes of drafts are read, those of no draft are refused at the first place at which none
-- goes on, and two drafts never have the same.
use Rattle.std.proofs.Common.{◌≡◌, ℕ, ◌+◌, ◌-◌, ◌<◌, ◌&&◌, true, List, [], ◌∷◌}
use Rattle.std.proofs.Common.{◌++◌, length, take, Option, Some, None, Result, Ok, Err, refl}
use Rattle.std.proofs.Common.{sym, ap, subst, ◌∙◌, arith, append_assoc, length-append, codes, ◌==◌}
use Rattle.std.specs.List.{flat_map, join_with_byte, list_all, slice_split}
use Rattle.std.proofs.lemmas.Bool.{and_from, and_parts}
use Rattle.std.proofs.lemmas.List.{append-nil, take_at}
use Rattle.std.proofs.lemmas.List.Splits.{join_with_byte-slice_split, length-slice_split}
use Rattle.drafts.specs.Fronts.{IsFront, StopsAt}
use Rattle.drafts.specs.Laws.{DraftsDiffer, WrittenDraftsAreRead}
use Rattle.drafts.specs.PlainDraft.{PlainDraft, can_be, is_id, is_id_if_any, is_text}
use Rattle.drafts.specs.Reading.{◌>>=◌, PlainHead, are_texts, draft_of, ids_in, placed}
use Rattle.drafts.specs.Reading.{read_from, read_head, read_lines}
use Rattle.drafts.specs.Spelled.{draft_bytes, ended, field_line, head_bytes, references_line}
use Rattle.drafts.specs.Spelled.{reply_line}
use Rattle.drafts.proofs.BodyLemmas.{Ends, IsBodyOf, body_reads, read_body}
use Rattle.drafts.proofs.HeadLemmas.{Fields, fields_written, head_reads, head_text, ids_line}
use Rattle.drafts.proofs.HeadLemmas.{written_fields}
use Rattle.drafts.proofs.IdLemmas.{joined_cut}
use Rattle.drafts.proofs.Readers.{Both, IsReader, after, after_reads, bind_ok, ok_is, renamed}

-- a draft as it is written
abbrev IsWritten : PlainDraft → List ℕ → Type 0
IsWritten = Both Fields IsBodyOf

-- a draft is read to the end of the text
abbrev whole : Result PlainDraft ℕ → Result (PlainDraft × List ℕ) ℕ
whole read = read >>= (λ d. Ok (d, []))

both_are : (h : Result (PlainHead × List ℕ) ℕ)
    → (h >>= (λ x. read_body x.0 x.1))
    ≡ whole (h >>= (λ x. read_lines x.1 >>= (λ lines. Ok (draft_of x.0 lines))))
both_are (Err left) = refl
both_are (Ok x) = body_is (read_lines x.1)
  where
    body_is : (o : Result (List (List ℕ)) ℕ)
        → (o >>= (λ lines. Ok (draft_of x.0 lines, [])))
        ≡ whole (o >>= (λ lines. Ok (draft_of x.0 lines)))
    body_is (Ok lines) = refl
    body_is (Err left) = refl

same_draft : (s : List ℕ) → after read_head read_body s ≡ whole (read_from s)
unfolding read_from
same_draft s = both_are (read_head s)

draft_reads : IsReader Ends IsWritten (λ s. whole (read_from s))
draft_reads =
    renamed Ends IsWritten IsWritten (after read_head read_body) (λ s. whole (read_from s))
    same_draft (λ v w p. p) (λ v w p. p)
    (after_reads Ends Fields IsBodyOf read_head read_body head_reads body_reads)

-- ---- how a draft is written

-- the text of ids, where there are any
abbrev ids_text : List (List ℕ) → Option (List ℕ)
ids_text [] = None
ids_text (id ∷ ids) = Some (join_with_byte 32 (id ∷ ids))

line_of_pieces : (pieces : List (List ℕ)) (text : List ℕ) → join_with_byte 32 pieces ≡ text
    → (pieces ≡ [] → ⊥)
    → references_line pieces ≡ ids_line (Some text)
line_of_pieces [] text joined some = absurd (some refl)
line_of_pieces (id ∷ ids) text joined some =
    ap (λ (l : List ℕ). codes "References: " ++ (l ++ 10 ∷ [])) joined

some_pieces : (text : List ℕ) → slice_split (λ b. b == 32) text ≡ [] → ⊥
some_pieces text none =
    let count = length-slice_split (λ b. b == 32) text in
    omega (arith, ap length none, count)

references_are : (references : Option (List ℕ))
    → references_line (ids_in references) ≡ ids_line references
references_are None = refl
references_are (Some text) =
    line_of_pieces (slice_split (λ b. b == 32) text) text (join_with_byte-slice_split 32 text)
    (some_pieces text)

head_is : (head : PlainHead) (body : List (List ℕ))
    → head_text head ≡ head_bytes (draft_of head body)
head_is head body =
    ap (λ (l : List ℕ). field_line (codes "To: ") head.to
    ++ (field_line (codes "Subject: ") head.subject
    ++ (reply_line head.in_reply_to ++ (l ++ codes "X-Mutt-Draft: 1\n\n"))))
    (sym (references_are head.references))

-- what is read of a draft
pub record IsSpelled (d : PlainDraft) (w : List ℕ) : Type 0 where
  pub whole : draft_bytes d ≡ w
  pub can : can_be d ≡ true

written_spelled : (d : PlainDraft) (w : List ℕ) → IsWritten d w → IsSpelled d w
written_spelled d w p =
    let head = fields_written p.head p.front p.first in
    let q = p.second in
    let known = draft_of p.head q.lines in
    let text : w ≡ draft_bytes known =
    p.whole
    ∙ ap (λ (l : List ℕ). l ++ p.back) (head.whole ∙ head_is p.head q.lines)
    ∙ ap (λ (l : List ℕ). head_bytes known ++ l) q.body.whole in
    let can : can_be known ≡ true =
    and_from (are_texts p.head) (list_all is_text q.lines) head.fits q.body.texts in record {
      whole = ap draft_bytes q.value ∙ sym text;
      can = ap can_be q.value ∙ can;
    }

ids_are : (ids : List (List ℕ)) → list_all is_id ids ≡ true → ids_in (ids_text ids) ≡ ids
ids_are [] all = refl
ids_are (id ∷ ids) all = joined_cut id ids all

-- the fields of a draft
abbrev fields_of : PlainDraft → PlainHead
fields_of d = record {
  to = d.to;
  subject = d.subject;
  in_reply_to = d.in_reply_to;
  references = ids_text d.references;
}

spelled_written : (d : PlainDraft) → can_be d ≡ true → IsWritten d (draft_bytes d)
spelled_written d can =
    let all = and_parts
    (is_text d.to && is_text d.subject && is_id_if_any d.in_reply_to && list_all is_id d.references)
    (list_all is_text d.body) can in
    let more = and_parts
    (is_text d.to && is_text d.subject && is_id_if_any d.in_reply_to)
    (list_all is_id d.references) all.0 in
    let ids : ids_in (ids_text d.references) ≡ d.references = ids_are d.references more.1 in
    let head = fields_of d in
    let value : d ≡ draft_of head d.body =
    ap (λ (l : List (List ℕ)). record d { references = l }) (sym ids) in
    let fits : are_texts head ≡ true =
    and_from (is_text d.to && is_text d.subject && is_id_if_any d.in_reply_to)
    (list_all is_id (ids_in (ids_text d.references))) more.0
    (ap (list_all is_id) ids ∙ more.1) in record {
      head = head;
      front = head_text head;
      back = flat_map ended d.body;
      whole = ap (λ (x : PlainDraft). head_bytes x ++ flat_map ended d.body) value
          ∙ ap (λ (l : List ℕ). l ++ flat_map ended d.body) (sym (head_is head d.body));
      first = written_fields head fits;
      second = record {
        lines = d.body;
        value = value;
        body = record { whole = refl; texts = all.1 };
      };
    }

-- ---- the theorems

-- the fields that are read are those that a draft may have
pub head_texts : (s rest : List ℕ) (head : PlainHead) → read_head s ≡ Ok (head, rest)
    → are_texts head ≡ true
head_texts s rest head h =
    let p = head_reads.sound s rest head h in
    let written = fields_written head p.0 p.2 in
    written.fits

-- what is read is spelled so
pub draft_spelled : (s : List ℕ) (d : PlainDraft) → read_from s ≡ Ok d → IsSpelled d s
draft_spelled s d h =
    let p = draft_reads.sound s [] d (ap whole h) in
    subst (λ (l : List ℕ). IsSpelled d l) (sym (p.1 ∙ append-nil p.0))
    (written_spelled d p.0 p.2)

-- what is spelled so is read
pub spelled_draft : (d : PlainDraft) → can_be d ≡ true → read_from (draft_bytes d) ≡ Ok d
spelled_draft d can =
    let bytes = draft_bytes d in
    let read = draft_reads.complete d bytes [] refl (spelled_written d can) in
    let o = bind_ok (read_from bytes) (λ x. Ok (x, [])) (d, [])
    (ap (λ (l : List ℕ). whole (read_from l)) (sym (append-nil bytes)) ∙ read) in
    let same : o.0 ≡ d =
    ap (λ (x : PlainDraft × List ℕ). x.0) (ok_is (o.0, []) (d, []) o.2) in
    o.1 ∙ ap (λ x. Ok x) same

-- what stops is no draft, and the place is the first at which none goes on
pub draft_stops : (s : List ℕ) (left : ℕ) → read_from s ≡ Err left → StopsAt s (length s - left)
draft_stops s left h =
    let p = draft_reads.stops s left (ap whole h) in
    let spelled = written_spelled p.value (p.front ++ p.tail) p.begins in
    let size : length s ≡ length p.front + left =
    ap length p.whole ∙ length-append p.front p.rest ∙ ap (λ n. length p.front + n) p.size in
    let place : length p.front ≡ length s - left = omega arith in
    let front : take (length s - left) s ≡ p.front =
    ap (take (length s - left)) p.whole ∙ take_at p.front p.rest (length s - left) place in record {
      none = λ d can is.
          let read : read_from s ≡ Ok d = ap read_from (sym is) ∙ spelled_draft d can in
          let e : Err left ≡ Ok d = sym h ∙ read in
          cc;
      within = omega arith;
      front = (
        p.value,
        p.tail,
        spelled.can,
        spelled.whole ∙ ap (λ (l : List ℕ). l ++ p.tail) (sym front),
      );
      first = λ less goes. first_byte s left p.front p.rest p.whole place p.size p.fixed less goes;
    }
  where
    first_byte : (s : List ℕ) (left : ℕ) (front rest : List ℕ) → s ≡ front ++ rest
        → length front ≡ length s - left
        → length rest ≡ left
        → ((b : ℕ) (later more : List ℕ) → rest ≡ b ∷ later
        → whole (read_from (front ++ b ∷ more)) ≡ Err (length (b ∷ more)))
        → length s - left < length s → IsFront (take (length s - left + 1) s) → ⊥
    first_byte s left front [] is place size fixed less goes =
        absurd (omega (arith, ap length is, length-append front []))
    first_byte s left front (b ∷ later) is place size fixed less goes =
        let d = goes.0 in
        let more = goes.1 in
        let text : s ≡ (front ++ b ∷ []) ++ later =
        is ∙ sym (append_assoc front (b ∷ []) later) in
        let len : length (front ++ b ∷ []) ≡ length s - left + 1 =
        omega (arith, length-append front (b ∷ [])) in
        let cut : take (length s - left + 1) s ≡ front ++ b ∷ [] =
        ap (take (length s - left + 1)) text
        ∙ take_at (front ++ b ∷ []) later (length s - left + 1) len in
        let bytes : draft_bytes d ≡ front ++ b ∷ more =
        goes.3 ∙ ap (λ (l : List ℕ). l ++ more) cut ∙ append_assoc front (b ∷ []) more in
        let read : whole (read_from (front ++ b ∷ more)) ≡ Ok (d, []) =
        ap (λ (l : List ℕ). whole (read_from l)) (sym bytes)
        ∙ ap whole (spelled_draft d goes.2) in
        let e = sym (fixed b later more refl) ∙ read in
        absurd (cc)

pub written_drafts_are_read : WrittenDraftsAreRead
written_drafts_are_read d can = ap (placed (draft_bytes d)) (spelled_draft d can)

pub drafts_differ : DraftsDiffer
drafts_differ d e can also same =
    let read : Ok d ≡ Ok e =
    sym (spelled_draft d can) ∙ ap read_from same ∙ spelled_draft e also in
    cc
