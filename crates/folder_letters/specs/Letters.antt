-- Letters and listings, without the rooms of their lists.
use Rattle.std.specs.Prelude.{ℕ, ℤ, List}
use Rattle.folder_letters.specs.declared.letter.Letter.{Letter}

-- a letter by its values
pub record Mail : Type 0 where
  pub order : ℕ
  pub key : List ℕ
  pub core : List ℕ
  pub text_at : ℕ
  pub received : ℤ

-- a letter as contracts see it
abbrev pub plain_letter : Letter → Mail
plain_letter letter = record {
  order = letter.order;
  key = letter.key.items;
  core = letter.core.items;
  text_at = letter.text_at;
  received = letter.received;
}
