use Rattle.std.proofs.Common.{sym}
use Rattle.index_view.proofs.TableLemmas.{seen_long}
use Rattle.index_view.proofs.asked.MessagesTable.len.Goals as goal

pub returns : goal.returns
returns c = sym (seen_long c.args.self.now)
