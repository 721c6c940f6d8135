use Rattle.std.proofs.Common.{map}
use Rattle.std.proofs.lemmas.Result.{on_ok_weaker}
use Rattle.folder_letters.specs.Letters.{plain_letter}
use Rattle.session.proofs.ActingLemmas.{over_fresh}
use Rattle.session.proofs.core_state.Core.turn_over.Goals as goal

pub returns-in_ok-set_by-in-DisplayToggleWeed-clause-over :
    goal.returns-in_ok-set_by-in-DisplayToggleWeed-clause-over
returns-in_ok-set_by-in-DisplayToggleWeed-clause-over c =
    on_ok_weaker c.refresh.result (λ reads. over_fresh (map plain_letter c.args.archive.now.items)
    c.args.window c.args.self.now.desk.view c.refresh.new.self c.refresh.ensures.view
    c.requires.over.is_of reads) c.refresh.ensures.reads
