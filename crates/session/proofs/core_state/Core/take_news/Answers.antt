use Rattle.std.proofs.Common.{map}
use Rattle.folder_letters.specs.Letters.{plain_letter}
use Rattle.session.proofs.CheckingLemmas.{quiet_news, told_news}
use Rattle.session.proofs.core_state.Core.take_news.Goals as goal

pub returns-then-quiet-clause-ok : goal.returns-then-quiet-clause-ok
returns-then-quiet-clause-ok c =
    quiet_news (map plain_letter c.args.archive.now.items) c.args.found.now c.args.quiet
    c.args.self.now c.take_quietly.new.self c.take_quietly.result c.if-quiet.true
    c.take_quietly.ensures.ok

pub returns-clause-ok : goal.returns-clause-ok
returns-clause-ok c =
    told_news (map plain_letter c.args.archive.now.items) c.args.found.now c.args.quiet
    c.args.self.now c.check_in.new.self c.check_in.result c.if-quiet.false c.check_in.ensures.ok
