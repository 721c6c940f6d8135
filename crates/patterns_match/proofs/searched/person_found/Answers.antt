use Rattle.std.proofs.Common.{◌≡◌, ℕ, List, [], ◌++◌, ◌∙◌, ap, append_assoc, sym}
use Rattle.std.proofs.lemmas.List.{append-nil}
use Rattle.std.proofs.lemmas.Result.{IfOk-weaker}
use Rattle.std.specs.Prelude.{codes}
use Rattle.headers.specs.FoldedField.{continued}
use Rattle.patterns_match.specs.Sought.{sought_found}
use Rattle.joined_texts.proofs.JoinedLemmas.{no_lines}
use Rattle.patterns_match.proofs.searched.person_found.Goals as goal

-- no line continues a person
joined_person : (n a : List ℕ) → n ++ (codes " <" ++ (a ++ (codes ">" ++ []))) ++ continued []
    ≡ n ++ codes " <" ++ a ++ codes ">"
joined_person n a =
    ap (λ more. n ++ (codes " <" ++ (a ++ codes ">")) ++ more) no_lines
    ∙ append-nil (n ++ (codes " <" ++ (a ++ codes ">")))
    ∙ sym (append_assoc n (codes " <") (a ++ codes ">"))
    ∙ sym (append_assoc (n ++ codes " <") a (codes ">"))

pub returns-clause-value : goal.returns-clause-value
returns-clause-value c =
    IfOk-weaker c.is_found_in.result _ _ (λ found is. is ∙ ap (sought_found c.args.sought.now)
    (joined_person c.as_slice.result.now c.as_slice-2.result.now
    ∙ (λ i. c.as_slice.ensures.bytes i ++ codes " <" ++ c.as_slice-2.ensures i ++ codes ">")))
    c.is_found_in.ensures.value
