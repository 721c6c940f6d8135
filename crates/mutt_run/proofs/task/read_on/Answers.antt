use Rattle.std.proofs.Common.{arith, refl, sym, ◌∙◌}
use Rattle.session.proofs.GivenLemmas.{given_then}
use Rattle.mutt_run.proofs.KeysLemmas.{counts_from}
use Rattle.mutt_run.proofs.ReadsLemmas.{empty_counts, starts_cut, starts_empty, starts_go}
use Rattle.mutt_run.proofs.task.read_on.Goals as goal

pub returns-in-Err-clause-reads : goal.returns-in-Err-clause-reads
returns-in-Err-clause-reads g c = λ o skips task start before starts given h.
    starts_cut o start _ _ _ _ _ task _ _ _ (starts given h) refl refl refl refl _
    c.in-Err.ensures.which
    c.in-Err.ensures.err

pub returns-then-is_hidden-clause-reads : goal.returns-then-is_hidden-clause-reads
returns-then-is_hidden-clause-reads g c = λ o skips task start before starts given h.
    let hidden = c.is_hidden.ensures.hidden c.if-is_hidden.true in
    starts_empty o start _ _ _ _ _ task _ _ _ (starts given h) refl refl refl refl
    (skips ∙ hidden.0) (sym (c.as_slice.ensures ∙ c.listing.ensures) ∙ hidden.1)
    c.in_default.ensures.ok

pub returns-then-is_hidden-clause-faults : goal.returns-then-is_hidden-clause-faults
returns-then-is_hidden-clause-faults g c = empty_counts c.tell_notes.ensures.later

pub returns-clause-reads : goal.returns-clause-reads
returns-clause-reads g c = λ o skips task start before starts given h.
    starts_go o start _ _ _ _ _ task _ _ _ (starts _ (given_then c.go.ensures.kept h)) _ _ _ _
    (λ on none. c.is_hidden.ensures.shown c.if-is_hidden.false (sym skips ∙ on)
    (c.as_slice.ensures ∙ c.listing.ensures ∙ none))
    refl c.in_default.ensures.ok c.tell_notes.ensures.later
    (c.go.ensures.ended given h) (c.go.ensures.told given h) c.go.ensures.pressed

pub returns-clause-faults : goal.returns-clause-faults
returns-clause-faults g c = counts_from (omega arith) c.tell_notes.ensures.later c.go.ensures.faults
