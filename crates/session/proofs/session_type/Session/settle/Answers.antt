use Rattle.std.proofs.Common.{map}
use Rattle.folder_letters.specs.Letters.{plain_letter}
use Rattle.session.specs.Core.{ground_of, plain_core}
use Rattle.session.proofs.FittingLemmas.{open_fits, turn_open}
use Rattle.session.proofs.GivenLemmas.{keeps_same}
use Rattle.session.proofs.session_type.Session.settle.Goals as goal

pub returns-clause-fits : goal.returns-clause-fits
returns-clause-fits g c =
    let old = c.args.self.now in
    open_fits (map plain_letter c.args.archive.now.items) _
    (turn_open (ground_of (map plain_letter c.args.archive.now.items) c.settle.new.verdicts.kept
    old.window old.moment.0) c.in_ok-self.field-0 (plain_core old.core) (plain_core
    c.settle.new.core) old.queue c.settle.new.queue
    (c.in_ok-self.ensures.settled c.settle.new.verdicts.kept (keeps_same _))) (record {
      over = c.in_ok-self.ensures.over;
      can = record {
        window = c.requires.can.window;
        moment = c.requires.can.moment;
        few = c.in_ok-self.ensures.few;
      };
    })
