use Rattle.std.proofs.Common.{◌∙◌, ap, length}
use Rattle.std.proofs.lemmas.Result.{IfOk-weaker}
use Rattle.index_listed.specs.Seen.{marked_threads}
use Rattle.index_listed.proofs.SightLemmas.{told_threads}
use Rattle.index_listed.proofs.sight.unread_threads.Goals as goal

pub returns : goal.returns
returns c = IfOk-weaker c.threads_with.result _ _ (λ threads told.
    told_threads _ c.args.entries.now (length c.args.entries.now) threads.items told
    ∙ ap (marked_threads c.args.entries.now)
    (c.deref.ensures.value ∙ c.in_ok-unread.ensures)) c.threads_with.ensures
