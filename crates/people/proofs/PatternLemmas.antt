-- What is built for a text, and why a text is refused.
use Rattle.std.proofs.Common.{◌≡◌, ◌≢◌, ℕ, ◌<◌, ◌≤◌, Bool, true, false, List, length, get_or}
use Rattle.std.proofs.Common.{Option, Some, None}
use Rattle.std.proofs.Common.{is_some, refl, ap, subst, ⊎_elim, IsSomeAnd, IfSome}
use Rattle.std.specs.Str.{chars}
use Rattle.std.proofs.lemmas.Bool.{le-leb, lt-leb}
use Rattle.regex.specs.Failures.{IsPattern}
use Rattle.regex.specs.Patterns.{Config, Re, Reads, Refuses, SameCaptures, find_str}
use Rattle.regex.specs.Strings.{regex_pattern}
use Rattle.regex.specs.declared.string.regex.Regex.{Regex}
use Rattle.regex.proofs.ForCallers.{is_match_alike}
use Rattle.regex_hir.specs.Meaning.{meaning}
use Rattle.regex_hir.specs.declared.hir.Hir.{Hir}
use Rattle.regex_syntax.specs.Brackets.{Nested}
use Rattle.regex_syntax.specs.Grammar.{Names, group_count, read}
use Rattle.regex_syntax.specs.declared.error.ErrorKind.{ErrorKind}
use Rattle.regex_syntax.specs.declared.error.ErrorKind.TheVariants.{OutOfMemory}
use Rattle.people.specs.Expr.{IsBuilt, config, is_folded, is_pattern, is_read, pattern_found}
use Rattle.people.specs.Expr.{read_found}

-- the grammar's reading, as a regex stands to it
abbrev IsReading : Config → Re → Names → Option (Nested Re × Names) → Type 0
IsReading options a names o = IsSomeAnd o (λ (re, found).
    (re.depth ≤ options.nest_limit) × SameCaptures a re.value × (names ≡ found) ×
    (group_count a ≤ length names))

reading_is_read : (options : Config) (a : Re) (names : Names) (o : Option (Nested Re × Names))
    → IsReading options a names o → is_read options o ≡ true
reading_is_read options a names None h = absurd h
reading_is_read options a names (Some found) h = le-leb found.0.depth options.nest_limit h.0

reading_found : (options : Config) (a : Re) (names : Names) (o : Option (Nested Re × Names))
    (hay : List ℕ)
    → ((k : ℕ) → get_or hay k 0 < 256) → IsReading options a names o
    → is_some (find_str a hay 0) ≡ read_found o hay
reading_found options a names None hay bytes h = absurd h
reading_found options a names (Some found) hay bytes h = is_match_alike h.1 hay bytes true 0

-- where regex reads a pattern, it is one
pub read_pattern : (fold : Bool) (text : List ℕ) (hir : Hir) (names : Names)
    → Reads (config fold) text hir names
    → is_pattern fold text ≡ true
unfolding Reads is_pattern
read_pattern fold text hir names h =
    reading_is_read (config fold) (meaning hir) names (read (config fold) (chars text)) h

pub pattern_is : (fold : Bool) (text : List ℕ) (options : Config) → options ≡ config fold
    → IsPattern options text
    → is_pattern fold text ≡ true
pattern_is fold text options same h =
    let is : IsPattern (config fold) text = subst (λ (o : Config). IsPattern o text) same h in
    read_pattern fold text is.0 is.1 is.2

pub built_pattern : (fold : Bool) (text : List ℕ) (regex : Regex) → IsBuilt fold text regex
    → is_pattern fold text ≡ true
built_pattern fold text regex built =
    read_pattern fold text _ _ (rw (built.source, built.options) at built.reads)

-- what is built finds what was read
pub built_found : (text : List ℕ) (regex : Regex) (hay : List ℕ)
    → IsBuilt (is_folded text) text regex
    → ((k : ℕ) → get_or hay k 0 < 256)
    → is_some (find_str (regex_pattern regex) hay 0) ≡ pattern_found text hay
unfolding Reads pattern_found
built_found text regex hay built bytes =
    reading_found (config (is_folded text)) _ _ (read (config (is_folded text)) (chars text)) hay
    bytes
    (rw (built.source, built.options) at built.reads)

none_read : (options : Config) (o : Option (Nested Re × Names)) → o ≡ None
    → is_read options o ≡ false
none_read options o e = ap (is_read options) e

deep_read : (options : Config) (o : Option (Nested Re × Names))
    → IfSome o (λ (re, _). options.nest_limit < re.depth)
    → is_read options o ≡ false
deep_read options None h = refl
deep_read options (Some found) h = lt-leb found.0.depth options.nest_limit h

-- what is refused for its form is no pattern
pub refused_pattern : (fold : Bool) (text : List ℕ) (options : Config) (kind : ErrorKind)
    → options ≡ config fold
    → kind ≢ OutOfMemory → Refuses options text kind → is_pattern fold text ≡ false
unfolding Refuses is_pattern
refused_pattern fold text options kind same apart h =
    let is : Refuses (config fold) text kind = subst (λ (o : Config). Refuses o text kind) same h in
    let o = read (config fold) (chars text) in
    ⊎_elim (λ memory. absurd (apart memory))
    (λ rest. ⊎_elim (λ none. none_read (config fold) o none)
    (λ deep. deep_read (config fold) o deep.1) rest) is
