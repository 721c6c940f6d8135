-- What a search for a literal comes to, and texts without lines.
use Rattle.std.proofs.Common.{◌≡◌, ◌∙◌, ◌||◌, ℕ, true, false, List, [], ◌∷◌, refl, sym, ap}
use Rattle.bstr.specs.Text.{lines_from}
use Rattle.headers.specs.FoldedField.{continued}
use Rattle.joined_texts.specs.Joined.{begins, case_of, holds, is_there}
use Rattle.joined_texts.specs.declared.joined.Case.{Case}

-- no line stands in nothing
pub no_lines : continued [] ≡ []
unfolding lines_from
no_lines = refl

begins_holds : (case : Case) (t l : List ℕ) → begins case t l ≡ true → holds case t l ≡ true
begins_holds case [] l e = e
begins_holds case (b ∷ t) l e = ap (λ r. r || holds case t l) e

-- what a search tells where the literal stands at the front of what is left, and at the end
pub found_front : (case : Case) (left text literal : List ℕ) → case ≡ case_of literal
    → holds case left literal ≡ holds case text literal → begins case left literal ≡ true
    → true ≡ is_there literal text
found_front case left text literal is same here =
    sym (begins_holds case left literal here) ∙ same
    ∙ ap (λ k. holds k text literal) is

pub found_nowhere : (case : Case) (left text literal : List ℕ) → case ≡ case_of literal
    → holds case left literal ≡ holds case text literal → begins case left literal ≡ false
    → left ≡ []
    → false ≡ is_there literal text
found_nowhere case left text literal is same none ended =
    sym none ∙ ap (λ t. begins case t literal) ended ∙ sym (ap (λ t. holds case t literal) ended)
    ∙ same ∙ ap (λ k. holds k text literal) is
