use Rattle.std.proofs.Common.{ℕ, [], None, refl, ap, map, ◌∙◌}
use Rattle.mail_base.specs.Series.{Held, plain_texts}
use Rattle.drafts.specs.Clean.{clean}
use Rattle.drafts.specs.PlainDraft.{can_be}
use Rattle.drafts.proofs.ReplyLemmas.{drafted_same, new_can}
use Rattle.drafts.proofs.new_drafts.new_draft.Goals as goal

pub invariant_of-result : goal.invariant_of-result
invariant_of-result c = record {
  may_be = ap can_be
      (drafted_same c.in_ok-cleaned.field-0.items (clean c.args.to.now)
      c.in_ok-cleaned-2.field-0.items (clean c.args.subject.now) None None
      (plain_texts c.new.result) [] (plain_texts c.new-2.result) []
      c.in_ok-cleaned.ensures c.in_ok-cleaned-2.ensures refl
      (ap (map (λ (t : Held ℕ). t.items)) c.new.ensures)
      (ap (map (λ (t : Held ℕ). t.items)) c.new-2.ensures))
      ∙ new_can c.args.to.now c.args.subject.now;
}
