-- Where the cursor goes, nothing is said.
use Rattle.std.proofs.Common.{◌≡◌, ◌∙◌, Bool, true, false, Option, ap, not, refl, sym}
use Rattle.std.specs.Prelude.{is_some}
use Rattle.session_index.specs.Motions.{notice_of}
use Rattle.session_index.specs.Viewing.{leads}
use Rattle.index_functions.specs.declared.notice.Notice.{Notice}
use Rattle.index_functions.specs.declared.way.Way.{Way}
use Rattle.index_functions.specs.declared.way.Way.TheVariants.{To, Stays}

unsaid : (w : Way) → not (is_some (notice_of w)) ≡ leads w
unsaid (To id) = refl
unsaid (Stays notice) = refl

twice : (b : Bool) → b ≡ not (not b)
twice true = refl
twice false = refl

pub silent_leads : (w : Way) (silent : Bool) (notice : Option Notice)
    → is_some notice ≡ not silent → notice ≡ notice_of w → silent ≡ leads w
silent_leads w silent notice is said =
    twice silent ∙ ap not (sym is) ∙ ap (λ (n : Option Notice). not (is_some n)) said ∙ unsaid w
