-- The words of a command line. The last of a repeated option counts, but for commands and names of
-- variables, which are all kept.
use Rattle.std.specs.Prelude.{◌≡◌, ℕ, List, [], ◌∷◌, map, Option, Some, None, Result, Ok, Err}
use Rattle.std.specs.Prelude.{codes, if◌then◌else◌}
use Rattle.std.specs.Str.{bytes_eq}
use Rattle.mail_base.specs.Series.{Held}
use Rattle.mutt_words.specs.LongOption.{read_long}
use Rattle.mutt_words.specs.Options.{PlainOptions, no_words, turned_on, with_short}
use Rattle.mutt_words.specs.Options.{with_long}
use Rattle.mutt_words.specs.ShortOption.{read_short}
use Rattle.mutt_words.specs.Switch.{switch_of}
use Rattle.mutt_words.specs.declared.error.ValueError.{ValueError}
use Rattle.mutt_words.specs.declared.error.ValueError.TheVariants as value_error
use Rattle.mutt_words.specs.declared.error.WordsError.{WordsError}
use Rattle.mutt_words.specs.declared.error.WordsError.TheVariants.{Usage, NoMemory}
use Rattle.mutt_words.specs.declared.long_option.LongOption.{LongOption}
use Rattle.mutt_words.specs.declared.short_option.ShortOption.{ShortOption}
use Rattle.mutt_words.specs.declared.switch.Switch.{Switch}

-- the options with that of a letter, where the word begins with one
abbrev pub by_short : PlainOptions → Option (ShortOption × List ℕ) → Option PlainOptions
by_short o None = None
by_short o (Some found) = with_short o found.0 found.1

-- the options with that of a name, or else these
abbrev pub by_long : PlainOptions → Option (LongOption × List ℕ) → Option PlainOptions
    → Option PlainOptions
by_long o None others = others
by_long o (Some found) others = with_long o found.0 found.1

-- the options with a switch, or else these
abbrev pub by_switch : PlainOptions → Option Switch → Option PlainOptions → Option PlainOptions
by_switch o None others = others
by_switch o (Some switch) others = Some (turned_on o switch)

-- the options after a word that is whole in itself, where it is one
abbrev pub after_word : PlainOptions → List ℕ → Option PlainOptions
after_word o word =
    by_switch o (switch_of word) (by_long o (read_long word) (by_short o (read_short word)))

-- the option of a letter behind which nothing stands
abbrev pub without_value : Option (ShortOption × List ℕ) → Option ShortOption
without_value (Some (option, [])) = Some option
without_value _ = None

-- the option whose value stands in the next word
abbrev pub waiting : List ℕ → Option ShortOption
waiting word = without_value (read_short word)

-- the options so far go on to the next words, or the word is faulty
abbrev pub next_options : Option PlainOptions → (PlainOptions → Result PlainOptions (List ℕ))
    → List ℕ → Result PlainOptions (List ℕ)
next_options None more word = Err word
next_options (Some o) more word = more o

-- nothing may stand behind `--`
abbrev pub at_end : PlainOptions → List (List ℕ) → Result PlainOptions (List ℕ)
at_end o [] = Ok o
at_end o (word ∷ words) = Err word

-- The options after all words, or the first faulty one: an option whose value is missing, or the
-- word that holds a bad value. An option may wait for its value.
abbrev pub read_from : PlainOptions → Option (ShortOption × List ℕ) → List (List ℕ)
    → Result PlainOptions (List ℕ)
read_from o None [] = Ok o
read_from o (Some asked) [] = Err asked.1
read_from o None (word ∷ words) =
    if bytes_eq word (codes "--") then at_end o words
    else elim (waiting word) [
      | Some option ↦ read_from o (Some (option, word)) words
      | None ↦ next_options (after_word o word) (λ next. read_from next None words) word
    ]
read_from o (Some asked) (value ∷ words) =
    next_options (with_short o asked.0 value) (λ next. read_from next None words) value

-- what a command line chooses
abbrev pub options_of : List (List ℕ) → Result PlainOptions (List ℕ)
options_of words = read_from no_words None words

-- words without their rooms
abbrev pub texts : List (Held ℕ) → List (List ℕ)
texts words = map (λ word. word.items) words

-- an error tells this word, or is for want of memory
abbrev pub IsFaulty : List ℕ → WordsError → Type 0
IsFaulty word (Usage faulty) = faulty.items ≡ word
IsFaulty word NoMemory = Unit {0}

-- an error tells the faulty word that was found, or is for want of memory
abbrev pub IsFault : WordsError → Result PlainOptions (List ℕ) → Type 0
IsFault (Usage faulty) wanted = wanted ≡ Err faulty.items
IsFault NoMemory wanted = Unit {0}

-- For the code alone.

-- the error of a bad value tells the word that holds it
abbrev pub IsTold : Result (Unit {0}) ValueError → List ℕ → Result (Unit {0}) WordsError → Type 0
IsTold taken word (Ok _) = taken ≡ Ok tt
IsTold taken word (Err NoMemory) = Unit {0}
IsTold taken word (Err (Usage faulty)) = (taken ≡ Err value_error.Bad) × (faulty.items ≡ word)
