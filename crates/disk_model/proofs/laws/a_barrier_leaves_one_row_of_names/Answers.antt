use Rattle.disk_model.proofs.LawsOfImages.{others_are_barrier, sync_dir_is_barrier}
use Rattle.disk_model.proofs.laws.a_barrier_leaves_one_row_of_names.Goals as goal

pub returns-clause-others : goal.returns-clause-others
returns-clause-others c = others_are_barrier

pub returns-clause-synced : goal.returns-clause-synced
returns-clause-synced c = sync_dir_is_barrier
