-- Texts of patterns behind a token.
use Rattle.std.proofs.Common.{◌≡◌, ◌∙◌, ◌+◌, ◌≤◌, ℕ, zero, suc, Bool, true, false, List, [], ◌∷◌}
use Rattle.std.proofs.Common.{Option, Ok, Err, drop, length, refl, sym, ap, arith, if◌then◌else◌}
use Rattle.mail_base.specs.Blanks.{is_blank}
use Rattle.patterns.specs.Faults.{Fault, Reading}
use Rattle.patterns.specs.Patterns.{State, more_of, read_from, stepped}
use Rattle.patterns.specs.States.{Fails}
use Rattle.patterns.specs.Tokens.{token_at}
use Rattle.patterns_match.specs.Trees.{Days, Tree}
use Rattle.patterns.specs.declared.read_error.ReadError.{ReadError}
use Rattle.patterns.specs.declared.read_error.ReadError.TheVariants as error

both : {x y z : Reading Tree} (t : Bool) → x ≡ z → y ≡ z → (if t then x else y) ≡ z
both true same other = same
both false same other = other

-- what is read behind a fault
pub read_fault : (days : List ℕ → Option Days) (n place : ℕ) (fault : Fault) (text : List ℕ)
    → read_from days n place (Err fault) text ≡ Err fault
read_fault days n place fault [] = refl
read_fault days (suc n) place fault (b ∷ rest) = read_fault days n (place + 1) fault rest
read_fault days zero place fault (b ∷ rest) =
    both (is_blank b) (read_fault days 0 (place + 1) fault rest)
    (read_fault days (more_of rest (token_at days place b rest)) (place + 1) fault rest)

-- bytes that a token takes are passed over
pub read_behind : (days : List ℕ → Option Days) (n place : ℕ) (state : Reading State)
    (text : List ℕ) → n ≤ length text
    → read_from days n place state text ≡ read_from days 0 (place + n) state (drop n text)
read_behind days zero place state text within =
    ap (λ p. read_from days 0 p state text) (omega arith)
read_behind days (suc n) place state [] within = absurd (omega arith)
read_behind days (suc n) place state (b ∷ rest) within =
    let at : place + 1 + n ≡ place + suc n = omega arith in
    read_behind days n (place + 1) state rest (omega arith)
    ∙ ap (λ p. read_from days 0 p state (drop n rest)) at

-- a byte that begins a token
pub read_step : (days : List ℕ → Option Days) (place : ℕ) (s t : State) (b : ℕ) (rest : List ℕ)
    (more : ℕ) → is_blank b ≡ false → stepped place s (token_at days place b rest) ≡ Ok t
    → more ≡ more_of rest (token_at days place b rest) → more ≤ length rest
    → read_from days 0 place (Ok s) (b ∷ rest)
    ≡ read_from days 0 (place + 1 + more) (Ok t) (drop more rest)
read_step days place s t b rest more no_blank is taken within =
    ap (λ t. if t then read_from days 0 (place + 1) (Ok s) rest
    else read_from days (more_of rest (token_at days place b rest)) (place + 1)
    (stepped place s (token_at days place b rest)) rest) no_blank
    ∙ ap (λ r. read_from days (more_of rest (token_at days place b rest)) (place + 1) r rest) is
    ∙ ap (λ n. read_from days n (place + 1) (Ok t) rest) (sym taken)
    ∙ read_behind days more (place + 1) (Ok t) rest within

pub read_stop : (days : List ℕ → Option Days) (place : ℕ) (s : State) (b : ℕ) (rest : List ℕ)
    (fault : Fault) → is_blank b ≡ false
    → stepped place s (token_at days place b rest) ≡ Err fault
    → read_from days 0 place (Ok s) (b ∷ rest) ≡ Err fault
read_stop days place s b rest fault no_blank is =
    ap (λ t. if t then read_from days 0 (place + 1) (Ok s) rest
    else read_from days (more_of rest (token_at days place b rest)) (place + 1)
    (stepped place s (token_at days place b rest)) rest) no_blank
    ∙ ap (λ r. read_from days (more_of rest (token_at days place b rest)) (place + 1) r rest) is
    ∙ read_fault days (more_of rest (token_at days place b rest)) (place + 1) fault rest

-- a text whose token gives a fault
pub fails_stop : (error : ReadError) (days : List ℕ → Option Days) (place : ℕ) (s : State)
    (b : ℕ) (rest : List ℕ) (whole : Reading Tree) → is_blank b ≡ false
    → Fails error (stepped place s (token_at days place b rest))
    → read_from days 0 place (Ok s) (b ∷ rest) ≡ whole → Fails error whole
fails_stop (error.Fault fault) days place s b rest whole no_blank is whole_is =
    sym whole_is ∙ read_stop days place s b rest fault no_blank is
fails_stop error.NoMemory days place s b rest whole no_blank is whole_is = tt
