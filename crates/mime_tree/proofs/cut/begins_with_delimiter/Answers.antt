use Rattle.std.proofs.Common.{sym, ◌∙◌}
use Rattle.mime_tree.proofs.CutLemmas.{delimits_at-false}
use Rattle.mime_tree.proofs.cut.begins_with_delimiter.Goals as goal

pub returns-then-not-may_delimit : goal.returns-then-not-may_delimit
returns-then-not-may_delimit c =
    sym (delimits_at-false c.args.boundary.now c.args.text.now
    (sym c.may_delimit.ensures ∙ c.if-not-may_delimit.true))
