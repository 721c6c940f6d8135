use Rattle.std.proofs.Common.{◌∙◌, false, sym, ap}
use Rattle.mbox_text.specs.Regions.{last_empty}
use Rattle.mbox_text.proofs.RegionsLemmas.{last_empty-push}
use Rattle.mbox_text.proofs.regions.ends_empty.Goals as goal

pub returns-in-Some : goal.returns-in-Some
returns-in-Some c =
    c.is_empty_line.ensures ∙ sym (last_empty-push false c.next_back.new.self c.in-Some.line.now)
    ∙ ap (last_empty false) (sym c.in-Some.ensures.steps ∙ c.lines_with_terminator.ensures.value)
