-- Readers of the pieces of a draft, and how they follow one another: what they read, that they read
-- all that may stand there, and where they stop.
use Rattle.std.proofs.Common.{◌≡◌, ◌⊎◌, ℕ, Bool, true, false, List, [], ◌∷◌, ◌++◌, length}
use Rattle.std.proofs.Common.{Result, Ok, Err, inl, inr, ⊎_elim, refl, sym, ap, subst, ◌∙◌}
use Rattle.std.proofs.Common.{append_assoc, ◌==◌}
use Rattle.std.specs.Prelude.{if◌then◌else◌}
use Rattle.std.proofs.lemmas.Bool.{cond-true, cond-false, cases_eq, eq-eqb}
use Rattle.std.proofs.lemmas.Bool.{ne_eqb}
use Rattle.drafts.specs.Reading.{◌>>=◌, behind_bytes}

-- What a reader of the pieces S tells where it stops: a front of the text begins some piece, and
-- the byte behind that front stops it again, whatever follows.
pub record Stops {V R : Type 0} (S : V → List ℕ → Type 0) (r : List ℕ → Result R ℕ) (s : List ℕ)
    (left : ℕ) : Type 0 where
  pub front : List ℕ
  pub rest : List ℕ
  pub whole : s ≡ front ++ rest
  pub size : length rest ≡ left
  pub value : V
  pub tail : List ℕ
  pub begins : S value (front ++ tail)
  pub fixed : (b : ℕ) (later more : List ℕ) → rest ≡ b ∷ later
      → r (front ++ b ∷ more) ≡ Err (length (b ∷ more))

-- A reader reads pieces, each with its value, from the front of a text. It reads each piece with
-- which a text begins, where one of the rests E follows.
pub record IsReader {V : Type 0} (E : List ℕ → Type 0) (S : V → List ℕ → Type 0)
    (r : List ℕ → Result (V × List ℕ) ℕ) : Type 0 where
  pub value : V
  pub piece : List ℕ
  pub some : S value piece
  pub sound : (s rest : List ℕ) (v : V) → r s ≡ Ok (v, rest)
      → (w : List ℕ) × (s ≡ w ++ rest) × S v w
  pub complete : (v : V) (w rest : List ℕ) → E rest → S v w → r (w ++ rest) ≡ Ok (v, rest)
  pub stops : (s : List ℕ) (left : ℕ) → r s ≡ Err left → Stops S r s left

-- whatever follows
abbrev pub Any : List ℕ → Type 0
Any rest = Unit {0}

-- the value of a reading that did not fail
pub bind_ok : {A B : Type 0} (r : Result A ℕ) (f : A → Result B ℕ) (y : B) → (r >>= f) ≡ Ok y
    → (x : A) × (r ≡ Ok x) × (f x ≡ Ok y)
bind_ok (Ok x) f y h = (x, refl, h)
bind_ok (Err left) f y h = absurd (cc)

-- which of two readings failed
pub bind_err : {A B : Type 0} (r : Result A ℕ) (f : A → Result B ℕ) (left : ℕ)
    → (r >>= f) ≡ Err left
    → (r ≡ Err left) ⊎ ((x : A) × (r ≡ Ok x) × (f x ≡ Err left))
bind_err (Ok x) f left h = inr (x, refl, h)
bind_err (Err e) f left h = inl (cc)

-- a reading of this value
abbrev pub ok : {A : Type 0} → A → Result A ℕ
ok x = Ok x

pub ok_is : {A : Type 0} (x y : A) → ok x ≡ ok y → x ≡ y
ok_is x y h = cc

-- a piece of one sort, and one of another behind it
pub record Both {A B : Type 0} (S : A → List ℕ → Type 0) (T : A → B → List ℕ → Type 0) (b : B)
    (w : List ℕ) : Type 0 where
  pub head : A
  pub front : List ℕ
  pub back : List ℕ
  pub whole : w ≡ front ++ back
  pub first : S head front
  pub second : T head b back

-- one reading and then another, which may go by the value of the first
abbrev pub after : {A B : Type 0} → (List ℕ → Result (A × List ℕ) ℕ)
    → (A → List ℕ → Result (B × List ℕ) ℕ) → List ℕ → Result (B × List ℕ) ℕ
after r k s = r s >>= (λ x. k x.0 x.1)

module _ {A B : Type 0} (E : List ℕ → Type 0) (S : A → List ℕ → Type 0)
    (T : A → B → List ℕ → Type 0) (r : List ℕ → Result (A × List ℕ) ℕ)
    (k : A → List ℕ → Result (B × List ℕ) ℕ) (first : IsReader Any S r)
    (second : (a : A) → IsReader E (T a) (k a)) where
  after_sound : (s rest : List ℕ) (b : B) → after r k s ≡ Ok (b, rest)
      → (w : List ℕ) × (s ≡ w ++ rest) × Both S T b w
  after_sound s rest b h =
      let o = bind_ok (r s) (λ x. k x.0 x.1) (b, rest) h in
      let x = o.0 in
      let p = first.sound s x.1 x.0 o.1 in
      let q = (second x.0).sound x.1 rest b o.2 in (
        p.0 ++ q.0,
        p.1 ∙ ap (λ (l : List ℕ). p.0 ++ l) q.1 ∙ sym (append_assoc p.0 q.0 rest),
        record {
          head = x.0;
          front = p.0;
          back = q.0;
          whole = refl;
          first = p.2;
          second = q.2;
        },
      )

  after_complete : (b : B) (w rest : List ℕ) → E rest → Both S T b w
      → after r k (w ++ rest) ≡ Ok (b, rest)
  after_complete b w rest e both =
      let parts : w ++ rest ≡ both.front ++ (both.back ++ rest) =
      ap (λ (l : List ℕ). l ++ rest) both.whole ∙ append_assoc both.front both.back rest in
      ap (after r k) parts
      ∙ ap (λ o. o >>= (λ x. k x.0 x.1))
      (first.complete both.head both.front (both.back ++ rest) tt both.first)
      ∙ (second both.head).complete b both.back rest e both.second

  after_stops : (s : List ℕ) (left : ℕ) → after r k s ≡ Err left
      → Stops (Both S T) (after r k) s left
  after_stops s left h = ⊎_elim (in_first s left) (in_second s left)
      (bind_err (r s) (λ x. k x.0 x.1) left h)
    where
      in_first : (s : List ℕ) (left : ℕ) → r s ≡ Err left → Stops (Both S T) (after r k) s left
      in_first s left h =
          let p = first.stops s left h in
          let q = second p.value in record {
            front = p.front;
            rest = p.rest;
            whole = p.whole;
            size = p.size;
            value = q.value;
            tail = p.tail ++ q.piece;
            begins = record {
              head = p.value;
              front = p.front ++ p.tail;
              back = q.piece;
              whole = sym (append_assoc p.front p.tail q.piece);
              first = p.begins;
              second = q.some;
            };
            fixed = λ b later more is.
                ap (λ o. o >>= (λ x. k x.0 x.1)) (p.fixed b later more is);
          }

      in_second : (s : List ℕ) (left : ℕ)
          → ((x : A × List ℕ) × (r s ≡ Ok x) × (k x.0 x.1 ≡ Err left))
          → Stops (Both S T) (after r k) s left
      in_second s left o =
          let x = o.0 in
          let p = first.sound s x.1 x.0 o.1 in
          let q = (second x.0).stops x.1 left o.2 in record {
            front = p.0 ++ q.front;
            rest = q.rest;
            whole = p.1 ∙ ap (λ (l : List ℕ). p.0 ++ l) q.whole
                ∙ sym (append_assoc p.0 q.front q.rest);
            size = q.size;
            value = q.value;
            tail = q.tail;
            begins = record {
              head = x.0;
              front = p.0;
              back = q.front ++ q.tail;
              whole = append_assoc p.0 q.front q.tail;
              first = p.2;
              second = q.begins;
            };
            fixed = λ b later more is.
                ap (after r k) (append_assoc p.0 q.front (b ∷ more))
                ∙ ap (λ o. o >>= (λ y. k y.0 y.1))
                (first.complete x.0 p.0 (q.front ++ b ∷ more) tt p.2)
                ∙ q.fixed b later more is;
          }

  -- a reading behind another is a reading
  pub after_reads : IsReader E (Both S T) (after r k)
  after_reads = record {
    value = (second first.value).value;
    piece = first.piece ++ (second first.value).piece;
    some = record {
      head = first.value;
      front = first.piece;
      back = (second first.value).piece;
      whole = refl;
      first = first.some;
      second = (second first.value).some;
    };
    sound = after_sound;
    complete = after_complete;
    stops = after_stops;
  }

-- a piece with a text before it
pub record Behind {V : Type 0} (before : List ℕ) (S : V → List ℕ → Type 0) (v : V) (w : List ℕ)
    : Type 0 where
  pub piece : List ℕ
  pub whole : w ≡ before ++ piece
  pub inside : S v piece

-- a byte, and then what a reader reads
abbrev pub byte_then : {A : Type 0} → ℕ → (List ℕ → Result A ℕ) → List ℕ → Result A ℕ
byte_then c r [] = Err 0
byte_then c r (b ∷ s) = if b == c then r s else Err (length (b ∷ s))

module _ {V : Type 0} (E : List ℕ → Type 0) (c : ℕ) (S : V → List ℕ → Type 0)
    (r : List ℕ → Result (V × List ℕ) ℕ) (reads : IsReader E S r) where
  byte_sound : (s rest : List ℕ) (v : V) → byte_then c r s ≡ Ok (v, rest)
      → (w : List ℕ) × (s ≡ w ++ rest) × Behind (c ∷ []) S v w
  byte_sound [] rest v h = absurd (cc)
  byte_sound (b ∷ s) rest v h = ⊎_elim
      (λ is.
      let p = reads.sound s rest v (sym (cond-true (b == c) _ _ (eq-eqb b c is)) ∙ h) in (
        c ∷ p.0,
        ap (λ (x : ℕ). x ∷ s) is ∙ ap (λ (l : List ℕ). c ∷ l) p.1,
        record { piece = p.0; whole = refl; inside = p.2 },
      ))
      (λ other.
      let fails = cond-false (b == c) (r s) (Err (length (b ∷ s))) (ne_eqb b c other) in
      let e = sym fails ∙ h in absurd (cc))
      (cases_eq b c)

  byte_complete : (v : V) (w rest : List ℕ) → E rest → Behind (c ∷ []) S v w
      → byte_then c r (w ++ rest) ≡ Ok (v, rest)
  byte_complete v w rest e p =
      ap (λ (l : List ℕ). byte_then c r (l ++ rest)) p.whole
      ∙ cond-true (c == c) _ _ (eq-eqb c c refl)
      ∙ reads.complete v p.piece rest e p.inside

  byte_stops : (s : List ℕ) (left : ℕ) → byte_then c r s ≡ Err left
      → Stops (Behind (c ∷ []) S) (byte_then c r) s left
  byte_stops [] left h = record {
    front = [];
    rest = [];
    whole = refl;
    size = cc;
    value = reads.value;
    tail = c ∷ reads.piece;
    begins = record { piece = reads.piece; whole = refl; inside = reads.some };
    fixed = λ b later more is. absurd (cc);
  }
  byte_stops (b ∷ s) left h = ⊎_elim
      (λ is.
      let p = reads.stops s left (sym (cond-true (b == c) _ _ (eq-eqb b c is)) ∙ h) in record {
        front = c ∷ p.front;
        rest = p.rest;
        whole = ap (λ (x : ℕ). x ∷ s) is ∙ ap (λ (l : List ℕ). c ∷ l) p.whole;
        size = p.size;
        value = p.value;
        tail = p.tail;
        begins = record { piece = p.front ++ p.tail; whole = refl; inside = p.begins };
        fixed = λ x later more e.
            cond-true (c == c) _ _ (eq-eqb c c refl) ∙ p.fixed x later more e;
      })
      (λ other.
      let fails = cond-false (b == c) (r s) (Err (length (b ∷ s))) (ne_eqb b c other) in
      let size : length (b ∷ s) ≡ left = cc in record {
        front = [];
        rest = b ∷ s;
        whole = refl;
        size = size;
        value = reads.value;
        tail = c ∷ reads.piece;
        begins = record { piece = reads.piece; whole = refl; inside = reads.some };
        fixed = λ x later more e.
            let same : x ≡ b = cc in
            let apart : x ≡ c → ⊥ = λ k. other (sym same ∙ k) in
            cond-false (x == c) (r more) (Err (length (x ∷ more))) (ne_eqb x c apart);
      })
      (cases_eq b c)

  pub byte_reads : IsReader E (Behind (c ∷ []) S) (byte_then c r)
  byte_reads = record {
    value = reads.value;
    piece = c ∷ reads.piece;
    some = record { piece = reads.piece; whole = refl; inside = reads.some };
    sound = byte_sound;
    complete = byte_complete;
    stops = byte_stops;
  }

-- a reader by another name
module _ {V : Type 0} (E : List ℕ → Type 0) (S T : V → List ℕ → Type 0)
    (r q : List ℕ → Result (V × List ℕ) ℕ) (same : (s : List ℕ) → r s ≡ q s)
    (to : (v : V) (w : List ℕ) → S v w → T v w) (back : (v : V) (w : List ℕ) → T v w → S v w)
    (reads : IsReader E S r) where
  pub renamed : IsReader E T q
  renamed = record {
    value = reads.value;
    piece = reads.piece;
    some = to reads.value reads.piece reads.some;
    sound = λ s rest v h.
        let p = reads.sound s rest v (same s ∙ h) in (p.0, p.1, to v p.0 p.2);
    complete = λ v w rest e t.
        sym (same (w ++ rest)) ∙ reads.complete v w rest e (back v w t);
    stops = λ s left h.
        let p = reads.stops s left (same s ∙ h) in record {
          front = p.front;
          rest = p.rest;
          whole = p.whole;
          size = p.size;
          value = p.value;
          tail = p.tail;
          begins = to p.value (p.front ++ p.tail) p.begins;
          fixed = λ b later more is.
              sym (same (p.front ++ b ∷ more)) ∙ p.fixed b later more is;
        };
  }

-- bytes, and then what a reader reads
abbrev pub bytes_then : {A : Type 0} → List ℕ → (List ℕ → Result A ℕ) → List ℕ → Result A ℕ
bytes_then bytes r s = behind_bytes bytes s >>= r

step_is : {A : Type 0} (c : ℕ) (cs : List ℕ) (r : List ℕ → Result A ℕ) (s : List ℕ)
    → byte_then c (bytes_then cs r) s ≡ bytes_then (c ∷ cs) r s
unfolding behind_bytes
step_is c cs r [] = refl
step_is c cs r (b ∷ s) = by_test (b == c)
  where
    by_test : (t : Bool) → (if t then bytes_then cs r s else Err (length (b ∷ s)))
        ≡ ((if t then behind_bytes cs s else Err (length (b ∷ s))) >>= r)
    by_test true = refl
    by_test false = refl

nothing_is : {A : Type 0} (r : List ℕ → Result A ℕ) (s : List ℕ) → r s ≡ bytes_then [] r s
unfolding behind_bytes
nothing_is r s = refl

-- what stands behind bytes is read
pub bytes_read : {V : Type 0} (E : List ℕ → Type 0) (bytes : List ℕ) (S : V → List ℕ → Type 0)
    (r : List ℕ → Result (V × List ℕ) ℕ)
    → IsReader E S r → IsReader E (Behind bytes S) (bytes_then bytes r)
bytes_read E [] S r reads =
    renamed E S (Behind [] S) r (bytes_then [] r) (nothing_is r)
    (λ v w p. record { piece = w; whole = refl; inside = p })
    (λ v w p. let P : List ℕ → Type 0 = S v in subst P (sym p.whole) p.inside)
    reads
bytes_read E (c ∷ cs) S r reads =
    renamed E (Behind (c ∷ []) (Behind cs S)) (Behind (c ∷ cs) S)
    (byte_then c (bytes_then cs r)) (bytes_then (c ∷ cs) r) (step_is c cs r)
    (λ v w p. record {
      piece = p.inside.piece;
      whole = p.whole ∙ ap (λ (l : List ℕ). c ∷ l) p.inside.whole;
      inside = p.inside.inside;
    })
    (λ v w p. record {
      piece = cs ++ p.piece;
      whole = p.whole;
      inside = record { piece = p.piece; whole = refl; inside = p.inside };
    })
    (byte_reads E c (Behind cs S) (bytes_then cs r) (bytes_read E cs S r reads))

-- nothing more is read
abbrev pub done : {V : Type 0} → V → List ℕ → Result (V × List ℕ) ℕ
done v s = Ok (v, s)

-- the value without a byte
pub record Empty {V : Type 0} (known v : V) (w : List ℕ) : Type 0 where
  pub same : v ≡ known
  pub none : w ≡ []

pub done_reads : {V : Type 0} (known : V) → IsReader Any (Empty known) (done known)
done_reads {V} known = record {
  value = known;
  piece = [];
  some = record { same = refl; none = refl };
  sound = λ s rest v h. (
    [],
    ap (λ (p : V × List ℕ). p.1) (ok_is (known, s) (v, rest) h),
    record {
      same = sym (ap (λ (p : V × List ℕ). p.0) (ok_is (known, s) (v, rest) h));
      none = refl;
    },
  );
  complete = λ v w rest e p.
      ap (λ (l : List ℕ). done known (l ++ rest)) p.none
      ∙ ap (λ x. done x rest) (sym p.same);
  stops = λ s left h. absurd (cc);
}
