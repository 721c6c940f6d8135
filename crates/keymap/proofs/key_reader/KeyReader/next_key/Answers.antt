use Rattle.keymap.proofs.ReaderLemmas.{cause_open, gives}
use Rattle.keymap.proofs.key_reader.KeyReader.next_key.Goals as goal

pub returns-in_err-fill-clause-ahead : goal.returns-in_err-fill-clause-ahead
returns-in_err-fill-clause-ahead g c = cause_open _ _ c.in_err-fill.ensures.ends

pub returns-clause-key : goal.returns-clause-key
returns-clause-key g c =
    gives c.fill.ensures.filled c.in_ok-fill.ensures.ends c.take_key.ensures.first
    c.take_key.ensures.taken
