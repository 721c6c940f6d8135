use Rattle.std.proofs.Common.{ap, map}
use Rattle.std.proofs.lemmas.Result.{on_ok_weaker}
use Rattle.folder_letters.specs.Letters.{plain_letter}
use Rattle.session.specs.Answers.{tuned}
use Rattle.session.proofs.CoreLemmas.{stands_as}
use Rattle.session.proofs.core_state.Core.catch_up.Goals as goal

pub tune-requires : goal.tune-requires
tune-requires c = c.in_ok-learn.ensures.is_of

pub returns : goal.returns
returns c =
    let mails = map plain_letter c.args.archive.now.items in
    on_ok_weaker c.tune.result (λ stands. stands_as mails _ _ _
    (ap (tuned mails) c.in_ok-learn.ensures.same) stands) c.tune.ensures
