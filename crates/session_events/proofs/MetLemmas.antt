-- Letters that were met, event by event.
use Rattle.std.proofs.Common.{◌≡◌, ◌++◌, ◌∷◌, ℕ, ℤ, List, [], ap, arith, length, refl, subst}
use Rattle.std.proofs.Common.{sym}
use Rattle.folder_letters.specs.Letters.{Mail}
use Rattle.keymap.specs.declared.key.Key.{Key}
use Rattle.session_events.specs.Events.{AreFiles, Happening, FileRead, FileRefused, KeyPressed}
use Rattle.session_events.specs.Events.{FolderOpened, FolderRefused}
use Rattle.session_events.specs.Happened.{AllMet, IsListed, met_after}
use Rattle.session_events.specs.Opening.{IsOpening}

pub met_append : (letters mid met : ℕ) (xs ys : List Happening) → AllMet mid met xs
    → AllMet letters mid ys → AllMet letters met (xs ++ ys)
met_append letters mid met [] ys here more = subst (λ (n : ℕ). AllMet letters n ys) here more
met_append letters mid met (x ∷ xs) ys here more =
    (here.0, met_append letters mid (met_after met x) xs ys here.1 more)

-- files of commands meet none
pub met_files : (met : ℕ) (files : List Happening) → AreFiles files → AllMet met met files
met_files met [] are = refl
met_files met (FileRead path text marks ∷ files) are = (tt, met_files met files are.1)
met_files met (FileRefused path why marks ∷ files) are = (tt, met_files met files are.1)
met_files met (_ ∷ files) are = absurd are.0

-- nor does a key
pub met_key : (met : ℕ) (key : Key) (moment : ℤ) (files : List Happening) → AreFiles files
    → AllMet met met (KeyPressed key moment ∷ files)
met_key met key moment files are = (tt, met_files met files are)

-- where none is met there are none
pub met_none : (mails : List Mail) (files : List Happening) → mails ≡ [] → AreFiles files
    → AllMet (length mails) 0 files
met_none mails files none are =
    subst (λ (l : List Mail). AllMet (length l) 0 files) (sym none) (met_files 0 files are)

-- an opening meets those that came
pub met_opening : (mails : List Mail) (files : List Happening) (moment : ℤ) (event : Happening)
    → AreFiles files → IsOpening moment event → IsListed mails event
    → AllMet (length mails) 0 (files ++ event ∷ [])
met_opening mails files moment (FolderOpened path kind at came marks) are is listed =
    met_append (length mails) 0 0 files (FolderOpened path kind at came marks ∷ [])
    (met_files 0 files are) (listed.0, omega (arith, listed.1))
met_opening mails files moment (FolderRefused path why marks) are is none =
    met_append (length mails) 0 0 files (FolderRefused path why marks ∷ []) (met_files 0 files are)
    (tt, ap length none)
met_opening mails files moment _ are is listed = absurd is
