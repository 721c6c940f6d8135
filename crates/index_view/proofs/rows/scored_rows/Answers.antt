use Rattle.std.proofs.Common.{◌∙◌, ap}
use Rattle.patterns_match.specs.ScoreEntries.{held_entries}
use Rattle.patterns_match.specs.declared.scores.Scores.{Scores}
use Rattle.people.specs.People.{PlainPeople}
use Rattle.index_listed.proofs.ListLemmas.{put_next}
use Rattle.index_view.specs.Tables as spec
use Rattle.index_view.proofs.rows.scored_rows.Goals as goal

pub loop-place-preserved : goal.loop-place-preserved
loop-place-preserved c =
    let messages = spec.seen_of c.args.messages.now in
    let rows = c.args.rows.now in
    let place = c.loop-place.place in
    let same = c.loop-place.invariant in (
      c.in_ok-scored_at.ensures.same.0 ∙ same.0,
      c.in_ok-scored_at.ensures.same.1 ∙ same.1,
      put_next (spec.scored_at c.args.people.now (held_entries c.args.scores.now.entries.items)
          messages rows) place c.loop-place.all.items _ _ c.in_ok-push.ensures.items same.2
          (c.in_ok-scored_at.ensures.value
          ∙ ap (λ (s : Scores). spec.scored_at c.loop-place.people (held_entries s.entries.items)
          messages rows place) same.0
          ∙ ap (λ (p : PlainPeople). spec.scored_at p (held_entries c.args.scores.now.entries.items)
          messages rows place) same.1),
    )
