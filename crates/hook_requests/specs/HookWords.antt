-- The words of a hook (Mutt's manual, "folder-hook", "message-hook", "save-hook").
use Rattle.std.specs.Prelude.{◌==◌, ℕ, Bool, true, false, List, [], ◌∷◌, codes, if◌then◌else◌}
use Rattle.std.specs.Str.{byte, bytes_eq}
use Rattle.mail_base.specs.Blanks.{without_blanks}
use Rattle.rc_lang.specs.Settings.{plain_names}
use Rattle.hook_requests.specs.declared.hook_words.HookWords.{HookWords}

-- it counts where its expression or pattern does not match; the word of that as it is written; the
-- expression or pattern; and the words behind it
pub record PlainHookWords : Type 0 where
  pub negated : Bool
  pub word : List ℕ
  pub text : List ℕ
  pub rest : List (List ℕ)

-- the words of a hook as contracts see them
abbrev pub plain_hook_words : HookWords → PlainHookWords
plain_hook_words h = record {
  negated = h.negated;
  word = h.word.now;
  text = h.text.now;
  rest = plain_names h.rest.now;
}

-- the word is a `!` alone
abbrev pub is_negation : List ℕ → Bool
is_negation word = bytes_eq word (codes "!")

-- a `!` at the front of a word is taken off, with the blanks behind it
abbrev pub split_negation : List ℕ → Bool × List ℕ
split_negation [] = (false, [])
split_negation (c ∷ rest) =
    if c == byte "!" then (true, without_blanks rest) else (false, c ∷ rest)

-- the word of the expression or pattern has its own `!`, or none
abbrev pub with_word : List ℕ → List (List ℕ) → PlainHookWords
with_word word rest = record {
  negated = (split_negation word).0;
  word = word;
  text = (split_negation word).1;
  rest = rest;
}

-- a `!` alone stands before the word of the expression or pattern
abbrev pub with_negated : List ℕ → List (List ℕ) → PlainHookWords
with_negated word rest = record { negated = true; word = word; text = word; rest = rest }

-- the words behind the name of the command
abbrev pub hook_words : List (List ℕ) → PlainHookWords
hook_words [] = with_word [] []
hook_words (word ∷ []) = with_word word []
hook_words (first ∷ word ∷ rest) =
    if is_negation first then with_negated word rest else with_word first (word ∷ rest)
