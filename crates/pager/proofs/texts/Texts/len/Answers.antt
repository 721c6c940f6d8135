use Rattle.std.proofs.Common.{◌∙◌, ap, sym, length}
use Rattle.pager.specs.Inner.{PlainTexts}
use Rattle.pager.proofs.TextsLemmas.{length_cut}
use Rattle.pager.proofs.texts.Texts.len.Goals as goal

pub returns : goal.returns
returns c =
    c.len.ensures ∙ sym (length_cut 0 c.self.inside.ends.items c.self.inside.bytes.items)
    ∙ ap (λ (t : PlainTexts). length t.done) c.self.view_is
