use Rattle.std.proofs.Common.{◌≡◌, ◌==◌, ℕ, false, List, [], ◌∷◌, ◌++◌, length, ap, ◌∙◌, arith, sym}
use Rattle.std.specs.Str.{bytes_eq}
use Rattle.mail_base.specs.Lines.{is_empty_line}
use Rattle.std.proofs.lemmas.Bool.Decides.{nat_tests}
use Rattle.mbox_text.proofs.message_core.is_empty_text.Goals as goal

alone : (text : List ℕ) → (length text == 0) ≡ false
    → bytes_eq text (13 ∷ []) ≡ is_empty_line (text ++ 10 ∷ [])
alone [] some = cc
alone (b ∷ []) some = grind (arith, nat_tests)
alone (b ∷ c ∷ []) some = grind (arith, nat_tests)
alone (b ∷ c ∷ d ∷ rest) some = grind (arith, nat_tests)

pub returns-else-is_empty : goal.returns-else-is_empty
returns-else-is_empty c =
    c.eq.ensures ∙ ap (bytes_eq c.args.text.now) c.as_slice.ensures
    ∙ alone c.args.text.now (sym c.is_empty.ensures ∙ c.if-is_empty.false)
