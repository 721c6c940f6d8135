use Rattle.std.proofs.Common.{length, ap, ◌++◌, ◌∙◌, arith}
use Rattle.std.specs.List.{concat}
use Rattle.bstr.proofs.lemmas.RestLemmas.{concat-lines_of}
use Rattle.mime_tree.specs.DashLines.{dash_starts}
use Rattle.mime_tree.proofs.dash_lines.read_dash_starts.Goals as goal

pub loop-line-init : goal.loop-line-init
loop-line-init c =
    let value =
    c.into_iter-line-iterator.ensures.into_iter_gives
    ∙ c.lines_with_terminator-line-items.ensures.value in
    record {
      within = omega (arith, ap length (ap concat value ∙ concat-lines_of c.args.raw.now));
      same =
          ap (λ xs. xs ++ dash_starts 0 c.into_iter-line-iterator.result) c.new-found.ensures.items
          ∙ ap (dash_starts 0) value;
    }
