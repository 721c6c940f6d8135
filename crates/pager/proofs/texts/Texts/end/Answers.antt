use Rattle.std.proofs.Common.{◌∙◌, ◌++◌, ◌∷◌, [], ap}
use Rattle.pager.specs.Inner.{PlainTexts}
use Rattle.pager.proofs.TextsLemmas.{texts_end}
use Rattle.pager.proofs.texts.Texts.end.Goals as goal

pub returns : goal.returns
returns c =
    let ends = c.self.inside.ends.items in
    let bytes = c.self.inside.bytes.items in
    let ended : PlainTexts → PlainTexts = λ t. record {
      done = t.done ++ t.current ∷ [];
      current = [];
    } in
    texts_end ends bytes _ (c.in_ok-push.ensures.ok ∙ ap (λ n. ends ++ n ∷ []) c.len.ensures)
    ∙ ap ended c.self.view_is
