use Rattle.std.proofs.Common.{◌∙◌, ap, sym, get_or, length, [], arith}
use Rattle.std.proofs.lemmas.List.{get_or_past}
use Rattle.pager.specs.Inner.{PlainTexts, cut_at}
use Rattle.pager.proofs.TextsLemmas.{length_cut}
use Rattle.pager.proofs.texts.Texts.text.Goals as goal

pub returns-else-place-ends : goal.returns-else-place-ends
returns-else-place-ends c =
    let ends = c.self.inside.ends.items in
    let bytes = c.self.inside.bytes.items in
    sym (get_or_past (cut_at 0 ends bytes) c.args.place [] (omega
    (arith, length_cut 0 ends bytes, ap length c.as_slice-ends.ensures)))
    ∙ ap (λ (t : PlainTexts). get_or t.done c.args.place []) c.self.view_is
