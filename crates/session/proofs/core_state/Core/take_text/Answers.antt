use Rattle.std.proofs.Common.{map}
use Rattle.std.proofs.lemmas.Result.{on_ok_weaker}
use Rattle.folder_letters.specs.Letters.{plain_letter}
use Rattle.session.proofs.ActingLemmas.{over_fresh}
use Rattle.session.proofs.GivenLemmas.{keeps_same}
use Rattle.session.proofs.core_state.Core.take_text.Goals as goal

pub returns-in-Pager-Search-clause-over : goal.returns-in-Pager-Search-clause-over
returns-in-Pager-Search-clause-over g c =
    on_ok_weaker c.search_text.result (λ reads. over_fresh
    (map plain_letter c.args.archive.now.items) c.args.window c.args.self.now.desk.view
    c.search_text.new.self c.search_text.ensures.view c.requires.over.is_of reads)
    c.search_text.ensures.reads

pub returns-in_ok-do_text-in_default-clause-over :
    goal.returns-in_ok-do_text-in_default-clause-over
returns-in_ok-do_text-in_default-clause-over g c =
    let verdicts = c.do_text.new.verdicts.kept in
    on_ok_weaker c.refresh.result (λ reads. over_fresh
    (map plain_letter c.args.archive.now.items) c.args.window c.do_text.new.self.desk.view
    c.refresh.new.self c.refresh.ensures.view
    (c.in_ok-do_text-in_default.ensures.core verdicts (keeps_same verdicts)).is_of reads)
    c.refresh.ensures.reads
