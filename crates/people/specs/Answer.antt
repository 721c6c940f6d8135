-- For the code alone: what a builder tells of a text.
use Rattle.std.specs.Prelude.{◌≡◌, ◌≤◌, ℕ, false, List, IfOk, IsErrOf}
use Rattle.mail_base.specs.Faults.{Rose}
use Rattle.people.specs.Cause.{is_readable}
use Rattle.people.specs.Expr.{IsBuilt, is_folded}
use Rattle.people.specs.declared.answer.Answer.{Answer}
use Rattle.people.specs.declared.error.ExprError.TheVariants.{Syntax, Size}

-- the answer of a builder with these counts before and after
pub record Tells (text : List ℕ) (answer : Answer) (before after : ℕ) : Type 0 where
  pub built : IfOk answer.result (IsBuilt (is_folded text) text)
  pub syntax : IsErrOf answer.result Syntax → is_readable text ≡ false
  pub size : IsErrOf answer.result Size → Rose before after
  pub was : answer.before ≡ before
  pub now : answer.after ≡ after
  pub later : answer.before ≤ answer.after
