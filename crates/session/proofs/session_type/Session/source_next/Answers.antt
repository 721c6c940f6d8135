use Rattle.std.proofs.Common.{◌∙◌, ◌++◌, ◌∷◌, [], List, ap, refl}
use Rattle.session_events.specs.Events.{Happening, plain_event, plain_events}
use Rattle.session.proofs.CallsLemmas.{file_read, file_whole, still_reads, still_whole}
use Rattle.session.proofs.GivenLemmas.{keeps_same}
use Rattle.session.proofs.session_type.Session.source_next.Goals as goal

pub returns-in_err-reserve-clause-reads : goal.returns-in_err-reserve-clause-reads
returns-in_err-reserve-clause-reads g c =
    still_reads c.args.self.now _ _ _ _ (ap plain_events c.reserve.ensures.items) refl
    (keeps_same _) refl

pub returns-in_err-source-clause-reads : goal.returns-in_err-source-clause-reads
returns-in_err-source-clause-reads g c =
    still_reads c.args.self.now _ _ _ _ (ap plain_events c.in_ok-reserve.ensures.items) refl
    (keeps_same _) c.in_err-source.ensures.still

pub returns-in-None-clause-reads : goal.returns-in-None-clause-reads
returns-in-None-clause-reads g c =
    still_reads c.args.self.now _ _ _ _ (ap plain_events c.in_ok-reserve.ensures.items) refl
    (keeps_same _) (rw c.in-None.is at c.in_ok-source.ensures.still)

pub returns-in-None-clause-whole : goal.returns-in-None-clause-whole
returns-in-None-clause-whole g c =
    still_whole c.args.self.now _ _ (ap plain_events c.in_ok-reserve.ensures.items) refl refl
    c.requires

pub returns-in_err-happen-in-Some-clause-reads : goal.returns-in_err-happen-in-Some-clause-reads
returns-in_err-happen-in-Some-clause-reads g c =
    file_read c.args.self.now _ _ _ _ _ _
    (c.happen.ensures.happens.events
    ∙ ap (λ (l : List Happening). l ++ plain_event c.in-Some.event ∷ [])
    (ap plain_events c.in_ok-reserve.ensures.items))
    (rw c.in-Some.is at c.in_ok-source.ensures.ok)
    ((rw c.in-Some.is at c.in_ok-source.ensures.wish) c.args.trace.now.notes)
    c.happen.ensures.happens.window c.happen.ensures.happens.folder
    c.happen.ensures.happens.archive c.happen.ensures.happens.kept

pub returns-in_ok-happen-in-Some-clause-reads : goal.returns-in_ok-happen-in-Some-clause-reads
returns-in_ok-happen-in-Some-clause-reads g c =
    file_read c.args.self.now _ _ _ _ _ _
    (c.happen.ensures.happens.events
    ∙ ap (λ (l : List Happening). l ++ plain_event c.in-Some.event ∷ [])
    (ap plain_events c.in_ok-reserve.ensures.items))
    (rw c.in-Some.is at c.in_ok-source.ensures.ok)
    ((rw c.in-Some.is at c.in_ok-source.ensures.wish) c.args.trace.now.notes)
    c.happen.ensures.happens.window c.happen.ensures.happens.folder
    c.happen.ensures.happens.archive c.happen.ensures.happens.kept

pub returns-in_ok-happen-in-Some-clause-whole : goal.returns-in_ok-happen-in-Some-clause-whole
returns-in_ok-happen-in-Some-clause-whole g c =
    file_whole c.args.self.now c.happen.new.self _ c.happen.new.trace _ _ _
    (c.happen.ensures.happens.events
    ∙ ap (λ (l : List Happening). l ++ plain_event c.in-Some.event ∷ [])
    (ap plain_events c.in_ok-reserve.ensures.items))
    (rw c.in-Some.is at c.in_ok-source.ensures.ok)
    ((rw c.in-Some.is at c.in_ok-source.ensures.wish) c.args.trace.now.notes)
    c.in_ok-happen-in-Some.ensures.taken.arrived_is c.in_ok-happen-in-Some.ensures.taken.left
    c.requires.met c.happen.ensures.happens.folder c.happen.ensures.happens.archive
