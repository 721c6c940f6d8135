-- What `score` and `unscore` ask for (Mutt's manual, "score").
use Rattle.std.specs.Prelude.{◌==◌, ◌||◌, ◌∷◌, [], ℕ, ℤ, pos, neg_ℤ, Bool, true, false, not, List}
use Rattle.std.specs.Prelude.{Option, Some, None, Result, Ok, Err, codes, map, option_map}
use Rattle.std.specs.Prelude.{if◌then◌else◌}
use Rattle.std.specs.List.{filter, list_any}
use Rattle.std.specs.Str.{bytes_eq}
use Rattle.mail_base.specs.Decimal.{decimal_in}
use Rattle.mail_base.specs.Shown.{utf8_text}
use Rattle.patterns_match.specs.Pattern.{PlainPattern}
use Rattle.patterns_match.specs.Leaves.{may_score}
use Rattle.patterns_match.specs.Scores.{PlainEntry}
use Rattle.people.specs.Judged.{PlainJudged}
use Rattle.rc_lang.specs.Settings.{fault_of}
use Rattle.rc_lang_words.specs.Faults.{Fault}
use Rattle.rc_lang_words.specs.declared.fault.RcFault.TheVariants.{BadPattern, PatternNotHere}
use Rattle.session_state.specs.Days.{reading_of}
use Rattle.session_state.specs.declared.instant.Instant.{Instant}
use Rattle.session_state.specs.declared.scoring.ScoreValue.{ScoreValue}

-- Values.

-- a number of decimal digits that an entry may have
abbrev pub digits_of : List ℕ → Option ℕ
digits_of digits = decimal_in 0 1_000_000 digits

-- the same with a sign before it, or none
abbrev pub number_of : List ℕ → Option ℤ
number_of [] = None
number_of (c ∷ rest) =
    if c == 45 then option_map (λ n. neg_ℤ (pos n)) (digits_of rest)
    else (if c == 43 then option_map pos (digits_of rest)
    else option_map pos (digits_of (c ∷ rest)))

-- the value of a score
abbrev pub valued : Bool → Option ℤ → Option ScoreValue
valued last number = option_map (λ n. record { number = n; last = last }) number

-- a number; where `=` stands before it, it ends the sum and stands in place of it
abbrev pub value_of : List ℕ → Option ScoreValue
value_of [] = None
value_of (c ∷ rest) =
    if c == 61 then valued true (number_of rest) else valued false (number_of (c ∷ rest))

-- Entries.

-- an entry of a pattern with its value
abbrev pub entry_with : PlainPattern → ScoreValue → PlainEntry
entry_with pattern value = record {
  tree = pattern.tree;
  offset = pattern.offset;
  value = value.number;
  last = value.last;
}

-- the entry of a pattern, if the text is one and may score
abbrev pub entry_if : List ℕ → ScoreValue → Option PlainPattern → Result PlainEntry Fault
entry_if word value None = Err (fault_of BadPattern word)
entry_if word value (Some pattern) =
    if may_score pattern.tree then Ok (entry_with pattern value)
    else Err (fault_of PatternNotHere word)

-- the entry of a word that is a pattern, or why it is none
unfoldable pub entry_of : Instant → List PlainJudged → List ℕ → ScoreValue → Result PlainEntry Fault
entry_of time verdicts word value = entry_if word value (reading_of verdicts time (utf8_text word))

-- Entries that are taken away.

-- a word names an entry with this text: it is the same, or names all
abbrev pub names : List ℕ → List ℕ → Bool
names word text = bytes_eq word (codes "*") || bytes_eq word text

-- none of these words names an entry with this text
abbrev pub is_kept : List (List ℕ) → List ℕ → Bool
is_kept words text = not (list_any (λ word. names word text) words)

-- which of the entries with these texts are kept
abbrev pub keeps_of : List (List ℕ) → List (List ℕ) → List Bool
keeps_of words texts = map (is_kept words) texts

-- the texts that are kept
abbrev pub kept_texts : List (List ℕ) → List (List ℕ) → List (List ℕ)
kept_texts words texts = filter (is_kept words) texts
