-- What a reader keeps of what is shown.
use Rattle.std.specs.Prelude.{ℕ, List, Option}
use Rattle.mail_base.specs.declared.kind.Id.{Id}
use Rattle.pager.specs.Pager.{PlainPager}

-- a message or one of its parts, with its pager
pub record KeptText : Type 0 where
  pub id : Id
  pub part : Option ℕ
  pub pager : PlainPager

-- the parts of a message: the cursor, and their rows
pub record KeptParts : Type 0 where
  pub id : Id
  pub cursor : ℕ
  pub rows : List (List ℕ)
