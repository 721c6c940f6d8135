-- Lists of names that are text.
use Rattle.std.proofs.Common.{ℕ, List, [], ◌∷◌, ◌++◌}
use Rattle.std.specs.Str.{IsUtf8}
use Rattle.mail_base.specs.Series.{Held}
use Rattle.disk_model.specs.Answers.{AreText}

pub AreText-push : (names : List (Held ℕ)) (name : Held ℕ) → AreText names → IsUtf8 name.items
    → AreText (names ++ name ∷ [])
AreText-push [] name texts text = (text, tt)
AreText-push (other ∷ names) name texts text = (texts.0, AreText-push names name texts.1 text)
