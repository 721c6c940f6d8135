use Rattle.std.proofs.Common.{ap, refl, sym, ◌∙◌}
use Rattle.std.proofs.Math.Facts.{to_z-of_z}
use Rattle.session_events.specs.Events.{plain_events}
use Rattle.mutt_words.specs.Options.{plain_options}
use Rattle.mutt_run.proofs.WordsLemmas.{offset_fits, reads_chosen, reads_driven, setup_is}
use Rattle.mutt_run.proofs.WordsLemmas.{task_reads, task_tells, version_counts, version_reads}
use Rattle.mutt_run.proofs.reader.obey.Goals as goal

pub returns-then-options-clause-reads : goal.returns-then-options-clause-reads
returns-then-options-clause-reads g c = λ given h.
    version_reads (plain_options c.args.options) _ _ _ _ _ _
    (ap plain_events c.requires.events) refl refl refl
    refl c.if-options.true c.tell_version.result _ _ c.tell_version.ensures

pub returns-then-options-clause-faults : goal.returns-then-options-clause-faults
returns-then-options-clause-faults g c =
    version_counts c.tell_version.result _ _ _ _ c.tell_version.ensures

pub returns-then-are_asked-clause-reads : goal.returns-then-are_asked-clause-reads
returns-then-are_asked-clause-reads g c = λ given h.
    reads_driven _ c.answer.ensures.files (reads_chosen (simp (to_z-of_z c.ranges.moment)) refl
    ((rw (to_z-of_z (offset_fits c.args.options.offset c.requires.usable.offset))
    at c.answer.ensures.reads) (plain_options c.args.options) (setup_is c.args.options)
    (task_tells c.args.options c.if-options.false
    (λ none. c.are_asked.ensures.some c.if-are_asked.true (c.as_slice.ensures ∙ none))) _ _ given
    h))

pub returns-then-are_asked-clause-faults : goal.returns-then-are_asked-clause-faults
returns-then-are_asked-clause-faults g c = c.answer.ensures.faults _ _

pub returns-clause-reads : goal.returns-clause-reads
returns-clause-reads g c = λ given h.
    reads_chosen (simp (to_z-of_z c.ranges.moment)) refl
    ((rw (to_z-of_z (offset_fits c.args.options.offset c.requires.usable.offset))
    at c.read.ensures.reads) (plain_options c.args.options) (setup_is c.args.options) refl
    (task_reads c.args.options c.if-options.false
    (sym c.as_slice.ensures ∙ c.are_asked.ensures.none c.if-are_asked.false)) given h)
