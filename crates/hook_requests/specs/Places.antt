-- Where commands are given.
use Rattle.std.specs.Prelude.{ℕ, List}
use Rattle.hook_requests.specs.declared.place.CommandPlace.{CommandPlace as Given}

-- the file in which a command is given, and its line
pub record CommandPlace : Type 0 where
  pub file : List ℕ
  pub line : ℕ

-- where a command is given, as contracts see it
abbrev pub plain_place : Given → CommandPlace
plain_place p = record { file = p.file.now; line = p.line }
