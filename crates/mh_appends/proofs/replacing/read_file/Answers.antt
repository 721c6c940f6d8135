use Rattle.mh_appends.proofs.Calls.{read_anyway}
use Rattle.mh_appends.proofs.replacing.read_file.Goals as goal

pub returns-in-Err-clause-reads : goal.returns-in-Err-clause-reads
returns-in-Err-clause-reads g c =
    read_anyway c.args.path.now _ c.in-Err.why c.none_if_missing.result
    c.none_if_missing.ensures.none c.none_if_missing.ensures.missing
    c.none_if_missing.ensures.same c.none_if_missing.ensures.other c.in-Err.ensures.0.called
