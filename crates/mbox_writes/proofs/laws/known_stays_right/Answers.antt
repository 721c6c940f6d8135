use Rattle.mbox_writes.proofs.LawLemmas as lemmas
use Rattle.mbox_writes.proofs.laws.known_stays_right.Goals as goal

pub returns : goal.returns
returns c mails known told new_told changes bytes right as_known begins few =
    lemmas.known_stays mails known told new_told changes bytes right as_known begins few
