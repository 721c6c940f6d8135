-- Why a text is no pattern, and where.
use Rattle.std.specs.Prelude.{Result, Ok, Err}
pub use Rattle.patterns.specs.declared.fault.Fault.{Fault}
pub use Rattle.patterns.specs.declared.fault.Fault.TheVariants.{Empty, UnknownLetter, Unbalanced}
pub use Rattle.patterns.specs.declared.fault.Fault.TheVariants.{BadRange, BadDate, TooDeep}

-- what is read, or the fault
abbrev pub Reading : Type 0 → Type 0
Reading X = Result X Fault

-- the next step, where the one before gave a value
infixl 10 ◌>>?◌
-- the second reading behind the first; a fault of the first ends both
abbrev pub ◌>>?◌ : {A B : Type 0} → Reading A → (A → Reading B) → Reading B
Ok a >>? f = f a
Err fault >>? f = Err fault

-- the same with another value
abbrev pub reading_map : {A B : Type 0} → (A → B) → Reading A → Reading B
reading_map f (Ok a) = Ok (f a)
reading_map f (Err fault) = Err fault
