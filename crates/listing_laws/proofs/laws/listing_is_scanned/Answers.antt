use Rattle.listing_laws.proofs.LawLemmas.{behind_is}
use Rattle.listing_laws.proofs.laws.listing_is_scanned.Goals as goal

pub returns : goal.returns
returns c mails old new found once rise difference =
    behind_is mails old new found once rise difference
