use Rattle.std.proofs.Common.{refl, inr, rules}
use Rattle.std.proofs.Math.Facts.{to_z-of_z}
use Rattle.session.specs.Starting.{plain_setup}
use Rattle.session.proofs.StepsLemmas.{off_at}
use Rattle.mutt_run.proofs.ValuesLemmas.{names_at, sources_kept, values_done, values_early}
use Rattle.mutt_run.proofs.ValuesLemmas.{values_off}
use Rattle.mutt_run.proofs.ValuesLemmas.{values_part, values_untold}
use Rattle.mutt_run.proofs.task.answer.Goals as goal

pub returns-in_default-clause-reads : goal.returns-in_default-clause-reads
returns-in_default-clause-reads g c = λ o is task left moments given h.
    values_early o c.args.moment _ _ _ _ _ _ is task
    (off_at (plain_setup c.args.setup) _ _ (to_z-of_z c.ranges.moment)
    (sources_kept h.keeps c.answers.ensures.sources)) refl refl refl refl

pub returns-in-Err-clause-reads : goal.returns-in-Err-clause-reads
returns-in-Err-clause-reads g c = λ o is task left moments given h.
    values_untold o c.args.moment _ _ _ _ _ _ is task
    (off_at (plain_setup c.args.setup) _ _ (to_z-of_z c.ranges.moment)
    (sources_kept h.keeps c.answers.ensures.sources)) refl refl _ _
    (names_at (plain_setup c.args.setup) _ _ (to_z-of_z c.ranges.moment)
    (c.in-Ok.ensures.ok given h.keeps)) refl _
    c.in-Err.ensures.which c.in-Err.ensures.err

pub returns-then-is_err-clause-reads : goal.returns-then-is_err-clause-reads
returns-then-is_err-clause-reads g c = λ o is task left moments given h.
    values_off o c.args.moment _ _ _ _ _ _ is task
    (off_at (plain_setup c.args.setup) _ _ (to_z-of_z c.ranges.moment)
    (sources_kept h.keeps c.answers.ensures.sources)) refl refl _ _
    (names_at (plain_setup c.args.setup) _ _ (to_z-of_z c.ranges.moment)
    (c.in-Ok.ensures.ok given h.keeps))
    c.in_default-tell_notes.ensures.ok refl _ (inr refl)

pub returns-in-Ok-print-clause-reads : goal.returns-in-Ok-print-clause-reads
returns-in-Ok-print-clause-reads g c = λ o is task left moments given h.
    values_done o c.args.moment _ _ _ _ _ _ is task
    (off_at (plain_setup c.args.setup) _ _ (to_z-of_z c.ranges.moment)
    (sources_kept h.keeps c.answers.ensures.sources)) refl refl _ _
    (names_at (plain_setup c.args.setup) _ _ (to_z-of_z c.ranges.moment)
    (c.in-Ok.ensures.ok given h.keeps))
    c.in_default-tell_notes.ensures.ok (search rules)

pub returns-clause-reads : goal.returns-clause-reads
returns-clause-reads g c = λ o is task left moments given h.
    values_part o c.args.moment _ _ _ _ _ _ is task
    (off_at (plain_setup c.args.setup) _ _ (to_z-of_z c.ranges.moment)
    (sources_kept h.keeps c.answers.ensures.sources)) refl refl _ _
    (names_at (plain_setup c.args.setup) _ _ (to_z-of_z c.ranges.moment)
    (c.in-Ok.ensures.ok given h.keeps))
    c.in_default-tell_notes.ensures.ok _
    c.in-Err-print.ensures.which (search rules)
