-- What the definitions of a run are given beside its events: the letters that were met, and the
-- verdicts on expressions.
use Rattle.std.specs.Prelude.{◌≡◌, ℕ, List, length, take}
use Rattle.folder_letters.specs.Letters.{Mail}
use Rattle.patterns.specs.Causes.{Keeps}
use Rattle.people.specs.Judged.{PlainJudged}

-- letters and verdicts
pub record Given : Type 0 where
  pub mails : List Mail
  pub verdicts : List PlainJudged

-- these letters and verdicts
abbrev pub given_of : List Mail → List PlainJudged → Given
given_of mails verdicts = record { mails = mails; verdicts = verdicts }

-- these letters, and at least these verdicts
pub record IsGiven (mails : List Mail) (verdicts : List PlainJudged) (given : Given)
    : Type 0 where
  pub mails_are : given.mails ≡ mails
  pub keeps : Keeps verdicts given.verdicts

-- the letters that were met first, as many as these, and at least these verdicts
pub record IsGivenOn (mails : List Mail) (verdicts : List PlainJudged) (given : Given)
    : Type 0 where
  pub first : take (length mails) given.mails ≡ mails
  pub keeps : Keeps verdicts given.verdicts

-- the first so many letters, and the verdicts
abbrev pub met_of : ℕ → Given → Given
met_of met given = given_of (take met given.mails) given.verdicts
