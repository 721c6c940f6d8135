use Rattle.std.proofs.Common.{◌∙◌, sym}
use Rattle.people.proofs.JudgedLemmas.{told_cause, told_reads}
use Rattle.people.proofs.verdicts.Verdicts.judge_first.Goals as goal

pub invariant_of-judged-clause-cause : goal.invariant_of-judged-clause-cause
invariant_of-judged-clause-cause g c =
    told_cause c.args.text.now c.in_ok-copy_of.field-0.items c.ask-answer.result c.in-Some.verdict _
    _ c.ask-answer.ensures.tells
    (c.in_ok-copy_of.ensures ∙ c.as_bytes.ensures.value) (sym c.in-Some.ensures)

pub returns-clause-reads : goal.returns-clause-reads
returns-clause-reads g c =
    told_reads c.args.text.now c.in_ok-copy_of.field-0.items c.ask-answer.result c.in-Some.verdict
    c.args.self.now.kept
    c.ask-answer.new.self.kept c.add.new.self _ _ c.ask-answer.ensures.tells
    (c.in_ok-copy_of.ensures
    ∙ c.as_bytes.ensures.value) c.requires.literal c.requires.first (sym c.in-Some.ensures)
    c.ask-answer.ensures.same c.in_ok-add.ensures.ok
