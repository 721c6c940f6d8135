-- The builder over the regex crate.
use Rattle.std.specs.Prelude.{◌≡◌, ◌||◌, ℕ, Bool, true, List, Result, Err, IsErrOf}
use Rattle.std.specs.List.{list_any}
use Rattle.std.specs.Str.{bytes_eq}
use Rattle.mail_base.specs.Faults.{counted_up}
use Rattle.people.specs.Expr.{is_pattern}
use Rattle.people.specs.declared.error.ExprError.{ExprError}
use Rattle.people.specs.declared.error.ExprError.TheVariants.{Size}

-- the texts that it refuses for their size, and how many it has refused
pub record PlainBuild : Type 0 where
  pub sizes : List (List ℕ)
  pub refusals : ℕ

-- the text is among those
abbrev pub is_sized : PlainBuild → List ℕ → Bool
is_sized builder text = list_any (λ s. bytes_eq s text) builder.sizes

-- the builder behind an answer: a refusal for size is counted
abbrev pub counted : {T : Type 0} → PlainBuild → Result T ExprError → PlainBuild
counted builder (Err Size) = record builder { refusals = counted_up builder.refusals }
counted builder _ = builder

-- What a builder over regex answers beside what every builder does: it refuses the texts of its
-- list for their size, and no other text but patterns.
pub record Builds {T : Type 0} (fold : Bool) (text : List ℕ) (result : Result T ExprError)
    (old new : PlainBuild) : Type 0 where
  pub sized : is_sized old text ≡ true → result ≡ Err Size
  pub size : IsErrOf result Size → is_sized old text || is_pattern fold text ≡ true
  pub counts : new ≡ counted old result
