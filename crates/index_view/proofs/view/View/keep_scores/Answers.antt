use Rattle.std.proofs.Common.{◌≡◌, ◌∙◌, ◌≤◌, List, ap, arith, length, option_map, subst, sym}
use Rattle.std.proofs.lemmas.Result.{on_ok_weaker}
use Rattle.index_items.specs.Kept.{kept}
use Rattle.index_items.proofs.KeptLemmas.{length-kept, map-kept}
use Rattle.index_listed.specs.Cursor.{moved}
use Rattle.patterns_match.specs.Pattern.{plain_pattern}
use Rattle.index_view.specs.View.{visible_of}
use Rattle.patterns_match.specs.ScoreEntries.{held_entries, held_entry}
use Rattle.patterns_match.specs.declared.score_entry.ScoreEntry.{ScoreEntry}
use Rattle.index_view.proofs.view.View.keep_scores.Goals as goal

pub invariant_of-self-inside : goal.invariant_of-self-inside
invariant_of-self-inside c =
    let entries : List ScoreEntry = c.self.inside.tables.scores.entries.items in
    let shorter = length-kept c.args.marks.now entries in
    let few = c.self.inside.tables.scores.few in
    record {
      few = subst (λ (es : List ScoreEntry). length es ≤ 4_096) (sym c.keep.ensures)
          (omega (arith, shorter, few));
    }

pub returns : goal.returns
returns c =
    let marks = c.args.marks.now in
    let entries : List ScoreEntry = c.self.inside.tables.scores.entries.items in
    let scores : held_entries c.keep.new.items.items
    ≡ kept marks (held_entries c.args.self.now.scores)
    = ap held_entries c.keep.ensures ∙ map-kept held_entry marks entries
    ∙ (λ i. kept marks (held_entries (c.self.view_is i).scores)) in
    on_ok_weaker c.judge.result (λ turned. record {
      is_of = turned.is_of;
      given = turned.given ∙ (λ i. record {
        options = (c.self.view_is i).options;
        items = (c.self.view_is i).items;
        people = (c.self.view_is i).people;
        scores = scores i;
        limit = option_map plain_pattern (c.self.view_is i).limit;
      });
      cursor = turned.cursor ∙ (λ i. moved (visible_of (c.self.view_is i))
          (visible_of c.judge.new.self) (c.self.view_is i).cursor);
      aliases = turned.aliases ∙ (λ i. (c.self.view_is i).aliases);
    }) c.judge.ensures.ok
