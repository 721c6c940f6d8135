use Rattle.std.proofs.Common.{false, rules}
use Rattle.folder_core.proofs.ReadsLemmas.{left_same}
use Rattle.maildir_folder.proofs.walk.take_next.Goals as goal

pub returns-then-is_taken-clause-walks : goal.returns-then-is_taken-clause-walks
returns-then-is_taken-clause-walks g c = record {
  meets = search rules;
  reads = left_same false c.args.so_far.now.bytes _;
}
