-- The lines of a body: they are read, and where they stop.
use Rattle.std.proofs.Common.{◌≡◌, ℕ, zero, suc, ◌<◌, ◌≤◌, true, List, []}
use Rattle.std.proofs.Common.{◌∷◌, ◌++◌, length, Result, Ok, Err, ⊎_elim, refl, sym, ap, subst}
use Rattle.std.proofs.Common.{◌∙◌, arith, append_assoc, length-append}
use Rattle.std.specs.List.{flat_map, list_all}
use Rattle.std.proofs.lemmas.Bool.{and_from, and_parts}
use Rattle.std.proofs.lemmas.List.{append-nil}
use Rattle.drafts.specs.PlainDraft.{PlainDraft, is_text}
use Rattle.drafts.specs.Reading.{◌>>=◌, PlainHead, draft_of, lines_from, read_line, read_lines}
use Rattle.drafts.specs.Reading.{with_line}
use Rattle.drafts.specs.Spelled.{ended}
use Rattle.drafts.specs.declared.line_state.LineState.TheVariants.{Text}
use Rattle.drafts.proofs.LineLemmas.{IsLine, line_reads}
use Rattle.drafts.proofs.Readers.{IsReader, bind_err, bind_ok, ok_is}
use Rattle.drafts.proofs.TextLemmas.{goes_text, text_goes}

-- the end of the text
abbrev pub Ends : List ℕ → Type 0
Ends rest = (rest ≡ [])

-- a line and what the rest gives
abbrev with_rest : ℕ → List ℕ × List ℕ → Result (List (List ℕ)) ℕ
with_rest n line = lines_from n line.1 >>= with_line line.0

pub lines_none : (n : ℕ) → lines_from n [] ≡ Ok []
unfolding lines_from
lines_none zero = refl
lines_none (suc n) = refl

pub lines_step : (n : ℕ) (s : List ℕ) → 0 < length s
    → lines_from (suc n) s ≡ (read_line Text s >>= with_rest n)
unfolding lines_from
lines_step n [] some = absurd (omega arith)
lines_step n (b ∷ s) some = refl

-- the lines of a body, as they are written
pub record IsBody (lines : List (List ℕ)) (w : List ℕ) : Type 0 where
  pub whole : w ≡ flat_map ended lines
  pub texts : list_all is_text lines ≡ true

-- a line before others
body_more : (t w rest : List ℕ) (lines : List (List ℕ)) → IsLine Text t w → IsBody lines rest
    → IsBody (t ∷ lines) (w ++ rest)
body_more t w rest lines line body = record {
  whole = ap (λ (l : List ℕ). l ++ rest) line.whole
      ∙ ap (λ (l : List ℕ). ended t ++ l) body.whole;
  texts = and_from (is_text t) (list_all is_text lines) (goes_text t line.goes) body.texts;
}

-- what is left behind a line is shorter
shorter : (s w rest t : List ℕ) → s ≡ w ++ rest → IsLine Text t w → length rest < length s
shorter s w rest t whole line =
    omega (
      arith,
      ap length whole,
      length-append w rest,
      ap length line.whole,
      length-append t (10 ∷ []),
    )

pub lines_sound : (n : ℕ) (s : List ℕ) (lines : List (List ℕ)) → length s ≤ n
    → lines_from n s ≡ Ok lines → IsBody lines s
lines_sound n [] lines small h =
    let none : [] ≡ lines = (let e = sym (lines_none n) ∙ h in cc) in
    subst (λ (l : List (List ℕ)). IsBody l []) none (record { whole = refl; texts = refl })
lines_sound zero (b ∷ s) lines small h = absurd (omega arith)
lines_sound (suc n) (b ∷ s) lines small h =
    let o = bind_ok (read_line Text (b ∷ s)) (with_rest n) lines
    (sym (lines_step n (b ∷ s) (omega arith)) ∙ h) in
    let line = o.0 in
    let p = (line_reads Text).sound (b ∷ s) line.1 line.0 o.1 in
    let less = shorter (b ∷ s) p.0 line.1 line.0 p.1 p.2 in
    let q = bind_ok (lines_from n line.1) (with_line line.0) lines o.2 in
    let body = lines_sound n line.1 q.0 (omega arith) q.1 in
    let all : line.0 ∷ q.0 ≡ lines = (let e = q.2 in cc) in
    subst (λ (l : List (List ℕ)). IsBody l (b ∷ s)) all
    (subst (λ (l : List ℕ). IsBody (line.0 ∷ q.0) l) (sym p.1)
    (body_more line.0 p.0 line.1 q.0 p.2 body))

-- a whole line is read first
line_first : (n : ℕ) (t rest : List ℕ) → is_text t ≡ true
    → lines_from (suc n) (ended t ++ rest) ≡ (lines_from n rest >>= with_line t)
line_first n t rest is =
    lines_step n (ended t ++ rest)
    (omega (arith, length-append (ended t) rest, length-append t (10 ∷ [])))
    ∙ ap (λ o. o >>= with_rest n)
    ((line_reads Text).complete t (ended t) rest tt
    (record { goes = text_goes t is; whole = refl }))

pub lines_complete : (n : ℕ) (lines : List (List ℕ)) → list_all is_text lines ≡ true
    → length (flat_map ended lines) ≤ n → lines_from n (flat_map ended lines) ≡ Ok lines
lines_complete n [] all small = lines_none n
lines_complete zero (t ∷ lines) all small =
    absurd (omega (
      arith,
      length-append (ended t) (flat_map ended lines),
      length-append t (10 ∷ []),
    ))
lines_complete (suc n) (t ∷ lines) all small =
    let both = and_parts (is_text t) (list_all is_text lines) all in
    let rest = flat_map ended lines in
    let less : length rest ≤ n =
    omega (arith, length-append (ended t) rest, length-append t (10 ∷ [])) in
    line_first n t rest both.0
    ∙ ap (λ o. o >>= with_line t) (lines_complete n lines both.1 less)

-- where the lines of a body stop, whatever the bound on them
record LinesStop (s : List ℕ) (left : ℕ) : Type 0 where
  front : List ℕ
  rest : List ℕ
  whole : s ≡ front ++ rest
  size : length rest ≡ left
  lines : List (List ℕ)
  tail : List ℕ
  begins : IsBody lines (front ++ tail)
  fixed : (n b : ℕ) (later more : List ℕ) → rest ≡ b ∷ later
      → length (front ++ b ∷ more) ≤ n
      → lines_from n (front ++ b ∷ more) ≡ Err (length (b ∷ more))

stops_in_line : (s : List ℕ) (left : ℕ) → read_line Text s ≡ Err left → LinesStop s left
stops_in_line s left h =
    let p = (line_reads Text).stops s left h in record {
      front = p.front;
      rest = p.rest;
      whole = p.whole;
      size = p.size;
      lines = p.value ∷ [];
      tail = p.tail;
      begins = subst (λ (l : List ℕ). IsBody (p.value ∷ []) l) (append-nil (p.front ++ p.tail))
          (body_more p.value (p.front ++ p.tail) [] [] p.begins
          (record { whole = refl; texts = refl }));
      fixed = λ n b later more is small. in_line n p.front b more small
          (p.fixed b later more is);
    }
  where
    in_line : (n : ℕ) (front : List ℕ) (b : ℕ) (more : List ℕ)
        → length (front ++ b ∷ more) ≤ n
        → read_line Text (front ++ b ∷ more) ≡ Err (length (b ∷ more))
        → lines_from n (front ++ b ∷ more) ≡ Err (length (b ∷ more))
    in_line zero front b more small e =
        absurd (omega (arith, length-append front (b ∷ more)))
    in_line (suc n) front b more small e =
        lines_step n (front ++ b ∷ more) (omega (arith, length-append front (b ∷ more)))
        ∙ ap (λ o. o >>= with_rest n) e

stops_behind_line : (s t w rest : List ℕ) (left : ℕ) → s ≡ w ++ rest → IsLine Text t w
    → LinesStop rest left → LinesStop s left
stops_behind_line s t w rest left whole line p = record {
  front = w ++ p.front;
  rest = p.rest;
  whole = whole ∙ ap (λ (l : List ℕ). w ++ l) p.whole ∙ sym (append_assoc w p.front p.rest);
  size = p.size;
  lines = t ∷ p.lines;
  tail = p.tail;
  begins = subst (λ (l : List ℕ). IsBody (t ∷ p.lines) l) (sym (append_assoc w p.front p.tail))
      (body_more t w (p.front ++ p.tail) p.lines line p.begins);
  fixed = λ n b later more is small. behind n b later more is small;
}
  where
    behind : (n b : ℕ) (later more : List ℕ) → p.rest ≡ b ∷ later
        → length ((w ++ p.front) ++ b ∷ more) ≤ n
        → lines_from n ((w ++ p.front) ++ b ∷ more) ≡ Err (length (b ∷ more))
    behind zero b later more is small =
        absurd (omega (arith, length-append (w ++ p.front) (b ∷ more)))
    behind (suc n) b later more is small =
        let next = p.front ++ b ∷ more in
        let text : (w ++ p.front) ++ b ∷ more ≡ ended t ++ next =
        append_assoc w p.front (b ∷ more)
        ∙ ap (λ (l : List ℕ). l ++ next) line.whole in
        let less : length next ≤ n =
        omega (arith, ap length text, length-append (ended t) next, length-append t (10 ∷ [])) in
        ap (lines_from (suc n)) text
        ∙ line_first n t next (goes_text t line.goes)
        ∙ ap (λ o. o >>= with_line t) (p.fixed n b later more is less)

lines_stop : (n : ℕ) (s : List ℕ) (left : ℕ) → length s ≤ n → lines_from n s ≡ Err left
    → LinesStop s left
lines_stop n [] left small h = let e = sym (lines_none n) ∙ h in absurd (cc)
lines_stop zero (b ∷ s) left small h = absurd (omega arith)
lines_stop (suc n) (b ∷ s) left small h =
    ⊎_elim
    (λ e. stops_in_line (b ∷ s) left e)
    (λ o.
    let line = o.0 in
    let p = (line_reads Text).sound (b ∷ s) line.1 line.0 o.1 in
    let less = shorter (b ∷ s) p.0 line.1 line.0 p.1 p.2 in
    stops_behind_line (b ∷ s) line.0 p.0 line.1 left p.1 p.2
    (lines_stop n line.1 left (omega arith)
    (⊎_elim
    (λ e. e)
    (λ q. let e = q.2 in absurd (cc))
    (bind_err (lines_from n line.1) (with_line line.0) left o.2))))
    (bind_err (read_line Text (b ∷ s)) (with_rest n) left
    (sym (lines_step n (b ∷ s) (omega arith)) ∙ h))

-- a draft of the lines of a body
pub record IsBodyOf (head : PlainHead) (d : PlainDraft) (w : List ℕ) : Type 0 where
  pub lines : List (List ℕ)
  pub value : d ≡ draft_of head lines
  pub body : IsBody lines w

-- a body is read to the end of the text
abbrev pub read_body : PlainHead → List ℕ → Result (PlainDraft × List ℕ) ℕ
read_body head s = read_lines s >>= (λ lines. Ok (draft_of head lines, []))

abbrev finish : PlainHead → List (List ℕ) → Result (PlainDraft × List ℕ) ℕ
finish head lines = Ok (draft_of head lines, [])

pub body_reads : (head : PlainHead) → IsReader Ends (IsBodyOf head) (read_body head)
body_reads head = record {
  value = draft_of head [];
  piece = [];
  some = record { lines = []; value = refl; body = record { whole = refl; texts = refl } };
  sound = λ s rest d h.
      let o = bind_ok (read_lines s) (finish head) (d, rest) h in
      let body = lines_sound (length s) s o.0 (omega arith) o.1 in
      let same = ok_is (draft_of head o.0, []) (d, rest) o.2 in
      let value : draft_of head o.0 ≡ d = ap (λ (x : PlainDraft × List ℕ). x.0) same in
      let none : [] ≡ rest = ap (λ (x : PlainDraft × List ℕ). x.1) same in (
        s,
        sym (append-nil s) ∙ ap (λ (l : List ℕ). s ++ l) none,
        record { lines = o.0; value = sym value; body = body },
      );
  complete = λ d w rest ends p.
      let text : w ++ rest ≡ flat_map ended p.lines =
      ap (λ (l : List ℕ). w ++ l) ends ∙ append-nil w ∙ p.body.whole in
      ap (read_body head) text
      ∙ ap (λ o. o >>= finish head)
      (lines_complete (length (flat_map ended p.lines)) p.lines p.body.texts (omega arith))
      ∙ ap (λ x. Ok (x, [])) (sym p.value)
      ∙ ap (λ (l : List ℕ). Ok (d, l)) (sym ends);
  stops = λ s left h.
      let p = lines_stop (length s) s left (omega arith)
      (⊎_elim
      (λ e. e)
      (λ q. let e = q.2 in absurd (cc))
      (bind_err (read_lines s) (finish head) left h)) in record {
        front = p.front;
        rest = p.rest;
        whole = p.whole;
        size = p.size;
        value = draft_of head p.lines;
        tail = p.tail;
        begins = record { lines = p.lines; value = refl; body = p.begins };
        fixed = λ b later more is.
            ap (λ o. o >>= finish head)
            (p.fixed (length (p.front ++ b ∷ more)) b later more is (omega arith));
      };
}
