-- Lines that go from a state on: they are read, and each state may go on to the end of a line.
use Rattle.std.proofs.Common.{◌≡◌, ℕ, zero, suc, ◌-◌, ◌==◌, ◌&&◌, Bool, true, false, List, []}
use Rattle.std.proofs.Common.{◌∷◌, ◌++◌, length, Option, Some, None, Result, Ok, Err, ⊎_elim, refl}
use Rattle.std.proofs.Common.{sym, ap, subst, ◌∙◌, arith, append_assoc}
use Rattle.std.specs.Prelude.{if◌then◌else◌}
use Rattle.std.proofs.lemmas.Bool.{and_parts, cases_Bool, cond-true, cond-false, eqb-true}
use Rattle.bstr.specs.Utf8.{lead_len, second}
use Rattle.drafts.specs.LineState.{may_end, only_if, step, with_more}
use Rattle.drafts.specs.Reading.{◌>>=◌, line_with, read_line, with_first}
use Rattle.drafts.specs.declared.line_state.LineState.{LineState}
use Rattle.drafts.specs.declared.line_state.LineState.TheVariants.{Text, Second, More, NoId, Id}
use Rattle.drafts.specs.declared.line_state.LineState.TheVariants.{NextId, Ids}
use Rattle.drafts.proofs.Readers.{Any, IsReader, Stops, bind_err, bind_ok, ok_is}

-- what a test of the state behind gives, if there is one
abbrev pub accepts_at : (LineState → Bool) → Option LineState → Bool
accepts_at more None = false
accepts_at more (Some next) = more next

-- a line may go on with these bytes from a state to its end
abbrev pub accepts : LineState → List ℕ → Bool
accepts state [] = may_end state
accepts state (b ∷ t) = accepts_at (λ next. accepts next t) (step state b)

-- a line from a state on, with its LF
pub record IsLine (start : LineState) (text w : List ℕ) : Type 0 where
  pub goes : accepts start text ≡ true
  pub whole : w ≡ text ++ 10 ∷ []

-- ---- each state goes on

with_more_goes : (n : ℕ) → (t : List ℕ) × (accepts (with_more n) t ≡ true)
with_more_goes zero = ([], refl)
with_more_goes (suc n) =
    let more = with_more_goes n in
    let less : suc n - 1 ≡ n = omega arith in
    (128 ∷ more.0, ap (λ k. accepts (with_more k) more.0) less ∙ more.1)

second_some : (a : ℕ) → (b : ℕ) × (second a b ≡ true)
second_some a = ⊎_elim
    (λ is. (191, cond-true (a == 0xE0) _ _ is))
    (λ e0. ⊎_elim
    (λ is. (128, cond-false (a == 0xE0) _ _ e0 ∙ cond-true (a == 0xED) _ _ is))
    (λ ed. ⊎_elim
    (λ is. (
      191,
      cond-false (a == 0xE0) _ _ e0 ∙ cond-false (a == 0xED) _ _ ed
          ∙ cond-true (a == 0xF0) _ _ is,
    ))
    (λ f0. ⊎_elim
    (λ is. (
      128,
      cond-false (a == 0xE0) _ _ e0 ∙ cond-false (a == 0xED) _ _ ed
          ∙ cond-false (a == 0xF0) _ _ f0 ∙ cond-true (a == 0xF4) _ _ is,
    ))
    (λ f4. (
      128,
      cond-false (a == 0xE0) _ _ e0 ∙ cond-false (a == 0xED) _ _ ed
          ∙ cond-false (a == 0xF0) _ _ f0 ∙ cond-false (a == 0xF4) _ _ f4,
    ))
    (cases_Bool (a == 0xF4)))
    (cases_Bool (a == 0xF0)))
    (cases_Bool (a == 0xED)))
    (cases_Bool (a == 0xE0))

pub goes_on : (state : LineState) → (t : List ℕ) × (accepts state t ≡ true)
goes_on Text = ([], refl)
goes_on (Second a) =
    let b = second_some a in
    let more = with_more_goes (lead_len a - 2) in (
      b.0 ∷ more.0,
      ap (λ t. accepts_at (λ next. accepts next more.0)
          (only_if t (with_more (lead_len a - 2)))) b.1 ∙ more.1,
    )
goes_on (More n) = let more = with_more_goes (n - 1) in (128 ∷ more.0, more.1)
goes_on NoId = (33 ∷ [], refl)
goes_on Id = ([], refl)
goes_on NextId = (33 ∷ [], refl)
goes_on Ids = ([], refl)

-- ---- reading

read_step : (state : LineState) (b : ℕ) (s : List ℕ)
    → read_line state (b ∷ s)
    ≡ line_with (λ next. read_line next s) (may_end state) b s (step state b)
unfolding read_line
read_step state b s = refl

pub read_none : (state : LineState) → read_line state [] ≡ Err 0
unfolding read_line
read_none state = refl

-- one more byte goes on
pub read_on : (state later : LineState) (b : ℕ) (s : List ℕ) → step state b ≡ Some later
    → read_line state (b ∷ s) ≡ (read_line later s >>= with_first b)
read_on state later b s is =
    read_step state b s ∙ ap (line_with (λ n. read_line n s) (may_end state) b s) is

-- a line without a byte
abbrev pub empty_line : List ℕ → Result (List ℕ × List ℕ) ℕ
empty_line rest = Ok ([], rest)

-- nothing goes on
pub read_end : (state : LineState) (b : ℕ) (s : List ℕ) → step state b ≡ None
    → read_line state (b ∷ s)
    ≡ (if may_end state && b == 10 then empty_line s else Err (length (b ∷ s)))
read_end state b s is =
    read_step state b s ∙ ap (line_with (λ n. read_line n s) (may_end state) b s) is

-- what was read of a line
abbrev Read : LineState → List ℕ → List ℕ → List ℕ → Type 0
Read start s rest t = (s ≡ t ++ 10 ∷ rest) × (accepts start t ≡ true)

ended : (start : LineState) (b : ℕ) (s rest t : List ℕ) (test : Bool)
    → (may_end start && b == 10) ≡ test
    → (if test then empty_line s else Err (length (b ∷ s))) ≡ Ok (t, rest)
    → Read start (b ∷ s) rest t
ended start b s rest t true is h =
    let both = and_parts (may_end start) (b == 10) is in
    let same = ok_is ([], s) (t, rest) h in
    let text : [] ≡ t = ap (λ (p : List ℕ × List ℕ). p.0) same in
    let behind : s ≡ rest = ap (λ (p : List ℕ × List ℕ). p.1) same in
    let feed : b ≡ 10 = eqb-true b 10 both.1 in (
      ap (λ (x : ℕ). x ∷ s) feed ∙ ap (λ (l : List ℕ). 10 ∷ l) behind
          ∙ ap (λ (l : List ℕ). l ++ 10 ∷ rest) text,
      ap (accepts start) (sym text) ∙ both.0,
    )
ended start b s rest t false is h = absurd (cc)

line_sound : (start : LineState) (s rest t : List ℕ) → read_line start s ≡ Ok (t, rest)
    → Read start s rest t
line_sound start [] rest t h = let e = sym (read_none start) ∙ h in absurd (cc)
line_sound start (b ∷ s) rest t h =
    by_step (step start b) refl (λ next r u e. line_sound next s r u e)
  where
    by_step : (o : Option LineState) → step start b ≡ o
        → ((next : LineState) (r u : List ℕ) → read_line next s ≡ Ok (u, r) → Read next s r u)
        → Read start (b ∷ s) rest t
    by_step None is more =
        ended start b s rest t (may_end start && b == 10) refl (sym (read_end start b s is) ∙ h)
    by_step (Some next) is more =
        let o = bind_ok (read_line next s) (with_first b) (t, rest)
        (sym (read_on start next b s is) ∙ h) in
        let line = o.0 in
        let p = more next line.1 line.0 o.1 in
        let same = ok_is (b ∷ line.0, line.1) (t, rest) o.2 in
        let text : b ∷ line.0 ≡ t = ap (λ (p : List ℕ × List ℕ). p.0) same in
        let behind : line.1 ≡ rest = ap (λ (p : List ℕ × List ℕ). p.1) same in (
          ap (λ (l : List ℕ). b ∷ l) p.0
              ∙ ap (λ (l : List ℕ). b ∷ (line.0 ++ 10 ∷ l)) behind
              ∙ ap (λ (l : List ℕ). l ++ 10 ∷ rest) text,
          ap (accepts start) (sym text)
              ∙ ap (accepts_at (λ n. accepts n line.0)) is ∙ p.1,
        )

-- no line that may end goes on with LF
feed_ends : (start : LineState) → may_end start ≡ true → step start 10 ≡ None
feed_ends Text h = refl
feed_ends (Second a) h = absurd (cc)
feed_ends (More n) h = absurd (cc)
feed_ends NoId h = absurd (cc)
feed_ends Id h = refl
feed_ends NextId h = absurd (cc)
feed_ends Ids h = refl

line_complete : (start : LineState) (t rest : List ℕ) → accepts start t ≡ true
    → read_line start (t ++ 10 ∷ rest) ≡ Ok (t, rest)
line_complete start [] rest h =
    read_end start 10 rest (feed_ends start h)
    ∙ ap (λ t. if t && true then empty_line rest else Err (length (10 ∷ rest))) h
line_complete start (b ∷ t) rest h =
    by_step (step start b) refl (λ next e. line_complete next t rest e)
  where
    by_step : (o : Option LineState) → step start b ≡ o
        → ((next : LineState) → accepts next t ≡ true
        → read_line next (t ++ 10 ∷ rest) ≡ Ok (t, rest))
        → read_line start (b ∷ (t ++ 10 ∷ rest)) ≡ Ok (b ∷ t, rest)
    by_step None is more =
        let e = sym (ap (accepts_at (λ n. accepts n t)) is) ∙ h in absurd (cc)
    by_step (Some next) is more =
        read_on start next b (t ++ 10 ∷ rest) is
        ∙ ap (λ o. o >>= with_first b)
        (more next (sym (ap (accepts_at (λ n. accepts n t)) is) ∙ h))

-- where a line stops at its first byte
stops_here : (start : LineState) (s : List ℕ) (left : ℕ) → length s ≡ left
    → ((b : ℕ) (later more : List ℕ) → s ≡ b ∷ later
    → read_line start (b ∷ more) ≡ Err (length (b ∷ more)))
    → Stops (IsLine start) (read_line start) s left
stops_here start s left size fixed =
    let on = goes_on start in record {
      front = [];
      rest = s;
      whole = refl;
      size = size;
      value = on.0;
      tail = on.0 ++ 10 ∷ [];
      begins = record { goes = on.1; whole = refl };
      fixed = fixed;
    }

line_stops : (start : LineState) (s : List ℕ) (left : ℕ) → read_line start s ≡ Err left
    → Stops (IsLine start) (read_line start) s left
line_stops start [] left h =
    let e = sym (read_none start) ∙ h in
    let size : length {A = ℕ} [] ≡ left = cc in
    stops_here start [] left size (λ b later more is. absurd (cc))
line_stops start (b ∷ s) left h =
    by_step (step start b) refl (λ next l e. line_stops next s l e)
  where
    at_end : step start b ≡ None → (test : Bool) → (may_end start && b == 10) ≡ test
        → (if test then empty_line s else Err (length (b ∷ s))) ≡ Err left
        → Stops (IsLine start) (read_line start) (b ∷ s) left
    at_end is true is_test e = absurd (cc)
    at_end is false is_test e =
        let size : length (b ∷ s) ≡ left = cc in
        stops_here start (b ∷ s) left size (λ x later more same.
        let first : b ≡ x = cc in
        subst (λ (y : ℕ). read_line start (y ∷ more) ≡ Err (length (y ∷ more))) first
        (read_end start b more is
        ∙ ap (λ t. if t then empty_line more else Err (length (b ∷ more))) is_test))

    by_step : (o : Option LineState) → step start b ≡ o
        → ((next : LineState) (l : ℕ) → read_line next s ≡ Err l
        → Stops (IsLine next) (read_line next) s l)
        → Stops (IsLine start) (read_line start) (b ∷ s) left
    by_step None is more =
        at_end is (may_end start && b == 10) refl (sym (read_end start b s is) ∙ h)
    by_step (Some next) is more =
        ⊎_elim
        (λ e.
        let p = more next left e in record {
          front = b ∷ p.front;
          rest = p.rest;
          whole = ap (λ (l : List ℕ). b ∷ l) p.whole;
          size = p.size;
          value = b ∷ p.value;
          tail = p.tail;
          begins = record {
            goes = ap (accepts_at (λ n. accepts n p.value)) is ∙ p.begins.goes;
            whole = ap (λ (l : List ℕ). b ∷ l) p.begins.whole;
          };
          fixed = λ x later after same.
              read_on start next b (p.front ++ x ∷ after) is
              ∙ ap (λ o. o >>= with_first b) (p.fixed x later after same);
        })
        (λ o. let e = o.2 in absurd (cc))
        (bind_err (read_line next s) (with_first b) left
        (sym (read_on start next b s is) ∙ h))

-- lines from a state on are read
pub line_reads : (start : LineState) → IsReader Any (IsLine start) (read_line start)
line_reads start =
    let on = goes_on start in record {
      value = on.0;
      piece = on.0 ++ 10 ∷ [];
      some = record { goes = on.1; whole = refl };
      sound = λ s rest t h.
          let p = line_sound start s rest t h in (
            t ++ 10 ∷ [],
            p.0 ∙ sym (append_assoc t (10 ∷ []) rest),
            record { goes = p.1; whole = refl },
          );
      complete = λ t w rest e line.
          ap (λ (l : List ℕ). read_line start (l ++ rest)) line.whole
          ∙ ap (read_line start) (append_assoc t (10 ∷ []) rest)
          ∙ line_complete start t rest line.goes;
      stops = line_stops start;
    }
