use Rattle.std.proofs.Common.{map}
use Rattle.std.proofs.lemmas.Result.{on_ok_weaker}
use Rattle.folder_letters.specs.Letters.{plain_letter}
use Rattle.session.proofs.ActingLemmas.{over_fresh}
use Rattle.session.proofs.core_state.Core.run.Goals as goal

pub returns-in-Attach-clause-over : goal.returns-in-Attach-clause-over
returns-in-Attach-clause-over g c =
    on_ok_weaker c.do_in_list.result (λ reads. over_fresh
    (map plain_letter c.args.archive.now.items) c.args.window c.args.self.now.desk.view
    c.do_in_list.new.self c.do_in_list.ensures.view c.requires.over.is_of reads)
    c.do_in_list.ensures.reads
