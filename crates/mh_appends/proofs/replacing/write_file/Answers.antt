use Rattle.mh_appends.proofs.Calls.{writes_last}
use Rattle.mh_appends.proofs.replacing.write_file.Goals as goal

pub returns-clause-writes : goal.returns-clause-writes
returns-clause-writes g c =
    writes_last c.sync.result c.in_ok-create.ensures.called c.in_ok-write_at.ensures.called
    c.sync.ensures.called
