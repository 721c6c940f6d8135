-- What was done step by step is what was wanted, where nobody else acted.
use Rattle.std.proofs.Common.{◌≡◌, ◌≤◌, ◌<◌, ◌+◌, ◌-◌, ◌==◌, ◌≢◌, ◌++◌, ℕ, zero, suc, Bool, true}
use Rattle.std.proofs.Common.{false, List, [], ◌∷◌, Option, Some, None}
use Rattle.std.proofs.Common.{option_map, nat_lt, if◌then◌else◌, refl, sym, ◌∙◌, ap, arith}
use Rattle.std.proofs.lemmas.Grind.{flat_map-append}
use Rattle.std.proofs.lemmas.List.{append-nil}
use Rattle.std.specs.List.{flat_map}
use Rattle.mail_base.specs.declared.kind.Kind.{Kind}
use Rattle.disk_model.specs.Journal.{Past}
use Rattle.folder_core.specs.Message.{Message}
use Rattle.index_items.specs.Changes.{PlainChange, Alters, Discards}
use Rattle.folder_changes.specs.Wanted.{changed, wanted}
use Rattle.folder_changes.specs.Worked.{Works, due, own_at}

-- the change of a key, where its step stands before this mark
abbrev done_by : (List ℕ → ℕ) → (List ℕ → Option PlainChange) → ℕ → List ℕ → Option PlainChange
done_by step what mark key = if nat_lt (step key) mark then what key else None

-- one change behind another
abbrev twice : Kind → Option PlainChange → Option PlainChange → Message → List Message
twice kind first next m = flat_map (λ x. changed kind next x) (changed kind first m)

same_key : (kind : Kind) (f : List ℕ → Option PlainChange) (d : Option PlainChange) (m : Message)
    → flat_map (λ x. changed kind (f x.key) x) (changed kind d m) ≡ twice kind d (f m.key) m
same_key kind f None m = refl
same_key kind f (Some (Alters added cleared)) m = refl
same_key kind f (Some Discards) m = refl

none_behind : (kind : Kind) (d : Option PlainChange) (m : Message)
    → twice kind d None m ≡ changed kind d m
none_behind kind None m = refl
none_behind kind (Some (Alters added cleared)) m = refl
none_behind kind (Some Discards) m = refl

none_before : (kind : Kind) (d : Option PlainChange) (m : Message)
    → twice kind None d m ≡ changed kind d m
none_before kind d m = append-nil (changed kind d m)

-- by the three tests
by_tests : (kind : Kind) (w : Option PlainChange) (m : Message) (before at behind : Bool)
    → (before ≡ true → at ≡ false) → (before ≡ true → behind ≡ true) → (at ≡ true → behind ≡ true)
    → (before ≡ false → at ≡ false → behind ≡ false)
    → twice kind (if before then w else None) (if at then w else None) m ≡ changed kind (if behind
    then w else None) m
by_tests kind w m true true behind a b c d = absurd (cc (a refl))
by_tests kind w m true false true a b c d = none_behind kind w m
by_tests kind w m true false false a b c d = absurd (cc (b refl))
by_tests kind w m false true true a b c d = none_before kind w m
by_tests kind w m false true false a b c d = absurd (cc (c refl))
by_tests kind w m false false true a b c d = absurd (cc (d refl refl))
by_tests kind w m false false false a b c d = refl

one_more : (kind : Kind) (step : List ℕ → ℕ) (what : List ℕ
    → Option PlainChange) (mark : ℕ) (m : Message)
    → flat_map (λ x. changed kind (due step what mark x.key) x) (changed kind (done_by step what
    mark m.key) m)
    ≡ changed kind (done_by step what (mark + 1) m.key) m
one_more kind step what mark m =
    same_key kind (due step what mark) (done_by step what mark m.key) m
    ∙ by_tests kind (what m.key) m (nat_lt (step m.key) mark) (step m.key == mark) (nat_lt (step
    m.key) (mark + 1))
    (λ is. grind (arith, is)) (λ is. grind (arith, is)) (λ is. grind (arith, is)) (λ is not. grind
    (arith, is, not))

more : (kind : Kind) (step : List ℕ → ℕ) (what : List ℕ
    → Option PlainChange) (mark : ℕ) (l : List Message)
    → wanted kind (due step what mark) (wanted kind (done_by step what mark) l)
    ≡ wanted kind (done_by step what (mark + 1)) l
more kind step what mark [] = refl
more kind step what mark (m ∷ l) =
    flat_map-append (λ x. changed kind (due step what mark x.key) x) (changed kind (done_by step
    what mark m.key) m)
    (wanted kind (done_by step what mark) l)
    ∙ ap (λ (ms : List Message). ms ++ wanted kind (due step what mark) (wanted kind (done_by step
    what mark) l))
    (one_more kind step what mark m)
    ∙ ap (λ (ms : List Message). changed kind (done_by step what (mark + 1) m.key) m ++ ms) (more
    kind step what mark l)

more_of : (kind : Kind) (step : List ℕ → ℕ) (what : List ℕ
    → Option PlainChange) (mark : ℕ) (l : Option (List Message))
    → option_map (wanted kind (due step what mark)) (option_map (wanted kind (done_by step what
    mark)) l)
    ≡ option_map (wanted kind (done_by step what (mark + 1))) l
more_of kind step what mark None = refl
more_of kind step what mark (Some l) = ap (λ (ms : List Message). Some ms) (more kind step what
    mark l)

-- two tables that say the same
pub same_what : (kind : Kind) (f g : List ℕ → Option PlainChange) → ((key : List ℕ) → f key ≡ g key)
    → (l : List Message) → wanted kind f l ≡ wanted kind g l
same_what kind f g same [] = refl
same_what kind f g same (m ∷ l) =
    ap (λ (c : Option PlainChange). changed kind c m ++ wanted kind f l) (same m.key)
    ∙ ap (λ (ms : List Message). changed kind (g m.key) m ++ ms) (same_what kind f g same l)

pub same_of : (kind : Kind) (f g : List ℕ → Option PlainChange) → ((key : List ℕ) → f key ≡ g key)
    → (l : Option (List Message)) → option_map (wanted kind f) l ≡ option_map (wanted kind g) l
same_of kind f g same None = refl
same_of kind f g same (Some l) = ap (λ (ms : List Message). Some ms) (same_what kind f g same l)

-- nothing is wanted
pub nothing : (kind : Kind) (l : List Message) → wanted kind (λ key. None) l ≡ l
nothing kind [] = refl
nothing kind (m ∷ l) = ap (λ (ms : List Message). m ∷ ms) (nothing kind l)

pub nothing_of : (kind : Kind) (l : Option (List Message))
    → option_map (wanted kind (λ key. None)) l ≡ l
nothing_of kind None = refl
nothing_of kind (Some l) = ap (λ (ms : List Message). Some ms) (nothing kind l)

pub early : (w : Option PlainChange) (b : Bool) → (w ≢ None → b ≡ false)
    → (if b then w else None) ≡ None
early None true not = refl
early None false not = refl
early (Some c) true not = absurd (cc (not (λ is. absurd (cc is))))
early (Some c) false not = refl

late : (w : Option PlainChange) (b : Bool) → (w ≢ None → b ≡ true) → (if b then w else None) ≡ w
late None true is = refl
late None false is = refl
late (Some c) true is = refl
late (Some c) false is = absurd (cc (is (λ no. absurd (cc no))))

module _ (kind : Kind) (what : List ℕ → Option PlainChange) (reads_at : ℕ
    → Option (List Message)) (m n : ℕ)
    (past : Past) (alone : (mark : ℕ) → m ≤ mark → mark < n → own_at mark past ≡ true)
    (works : Works kind what reads_at m n past) where
  along : (k : ℕ) → m + k ≤ n
      → reads_at (m + k) ≡ option_map (wanted kind (done_by works.step what (m + k))) (reads_at m)
  along zero low = ap reads_at zero_more ∙ sym (
      same_of kind (done_by works.step what (m + 0)) (λ key. None)
      (λ key. early (what key) (nat_lt (works.step key) (m + 0)) (λ some. grind (
        arith,
        works.from
            key some,
      ))) (reads_at m)
      ∙ nothing_of kind (reads_at m))
    where
      zero_more : m + 0 ≡ m
      zero_more = omega arith
  along (suc k) low =
      ap reads_at (next k)
      ∙ works.does (m + k) (omega arith) (omega (arith, low)) (alone (m + k) (omega arith) (omega
      (arith, low)))
      ∙ ap (λ (l : Option (List Message)). option_map (wanted kind (due works.step what (m + k))) l)
      (along k (omega (arith, low)))
      ∙ more_of kind works.step what (m + k) (reads_at m)
      ∙ ap (λ (j : ℕ). option_map (wanted kind (done_by works.step what j)) (reads_at m)) (sym
      (next k))
    where
      next : (k : ℕ) → m + suc k ≡ m + k + 1
      next k = omega arith

  pub works_alone : m ≤ n → reads_at n ≡ option_map (wanted kind what) (reads_at m)
  works_alone on =
      ap reads_at (sym (whole on))
      ∙ along (n - m) (omega (arith, on))
      ∙ ap (λ (j : ℕ). option_map (wanted kind (done_by works.step what j)) (reads_at m)) (whole on)
      ∙ same_of kind (done_by works.step what n) what
      (λ key. late (what key) (nat_lt (works.step key) n) (λ some. grind (
        arith,
        works.to key
            some,
      ))) (reads_at m)
    where
      whole : m ≤ n → m + (n - m) ≡ n
      whole on = omega (arith, on)
