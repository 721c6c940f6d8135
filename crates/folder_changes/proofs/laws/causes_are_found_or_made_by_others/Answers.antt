use Rattle.folder_changes.proofs.CauseLemmas.{was_cause}
use Rattle.folder_changes.proofs.laws.causes_are_found_or_made_by_others.Goals as goal

pub returns : goal.returns
returns c is_so past m i j n not_yet becomes first low last so =
    was_cause is_so past i not_yet becomes m n j first low last so
