-- What a view answers is of its messages and of what they are judged by.
use Rattle.std.proofs.Common.{◌≡◌, ◌∙◌, List, Option, ap, length, option_map, refl, subst, sym}
use Rattle.folder_letters.specs.Letters.{Mail}
use Rattle.patterns_match.specs.Listings.{Message}
use Rattle.patterns_match.specs.declared.pattern.Pattern.{Pattern}
use Rattle.index_items.specs.Items.{numbers}
use Rattle.index_listed.specs.Cursor.{moved}
use Rattle.index_listed.specs.Heads.{AreHeads, AreWithin}
use Rattle.index_listed.specs.Listed.{PlainListed}
use Rattle.index_listed.specs.Seen.{PlainSight, sight, visible_ids}
use Rattle.index_listed.proofs.CursorLemmas.{stands_moved}
use Rattle.index_view.specs.Answers.{PlainAnswers, picked}
use Rattle.index_view.specs.Limit.{all_within}
use Rattle.patterns_match.specs.Pattern.{PlainPattern, plain_pattern}
use Rattle.index_view.specs.Listing.{all_listed}
use Rattle.index_view.specs.Marks.{marks_of}
use Rattle.index_view.specs.Tables.{table}
use Rattle.index_view.specs.View.{AreApart, IsOf, PlainView, Turned, answers_over, facts_of}
use Rattle.index_view.specs.View.{messages_over, picked_of, turned, visible_of}
use Rattle.index_view.proofs.AnswersLemmas.{rows_long}

-- there is a row for each message
pub rows_all : (mails : List Mail) (v : PlainView) → IsOf mails v
    → length v.answers.rows ≡ length (all_listed mails v.items)
rows_all mails v of = ap (λ (a : PlainAnswers). length a.rows) of.answered
    ∙ rows_long (all_listed mails v.items) (facts_of v)

-- the messages as patterns see them are those that the view answers of
pub seen_over : (mails : List Mail) (v : PlainView) → IsOf mails v
    → (ls : List PlainListed) → ls ≡ all_listed mails v.items
    → table ls v.answers.rows v.answers.links ≡ messages_over mails (facts_of v)
seen_over mails v of ls is =
    λ i. table (is i) (of.answered i).rows (of.answered i).links

-- the same of what a pattern picks of them
pub picked_is : (mails : List Mail) (pattern : PlainPattern) (v : PlainView) → IsOf mails v
    → (ls : List PlainListed) → ls ≡ all_listed mails v.items
    → picked v.people pattern (table ls v.answers.rows v.answers.links) v.answers
    ≡ picked_of mails pattern v
picked_is mails pattern v of ls is =
    ap (λ (m : List Message). picked v.people pattern m v.answers) (seen_over mails v of ls is)

-- a view with another limit, and with what is seen under it
abbrev pub limited : PlainView → Option Pattern → PlainSight → PlainView
limited v limit s = record v {
  limit = limit;
  answers = record v.answers { sight = s };
  cursor = moved (visible_of v) (visible_ids s) v.cursor;
}

-- all but what is seen is answered as before
pub limited_turned : (mails : List Mail) (v : PlainView) (limit : Option Pattern)
    (ls : List PlainListed) (s : PlainSight) → IsOf mails v → ls ≡ all_listed mails v.items
    → s ≡ sight (marks_of v.answers.rows (all_within v.people (option_map plain_pattern limit)
    (table ls v.answers.rows v.answers.links))) v.answers.sight.order v.answers.stances
    → Turned mails v (limited v limit s)
    (record (facts_of v) { limit = option_map plain_pattern limit })
limited_turned mails v limit ls s of listed seen =
    let is = of.answered in
    let pattern = option_map plain_pattern limit in
    let seen_is = seen ∙ (λ i. sight (marks_of (is i).rows (all_within v.people pattern
    (table (listed i) (is i).rows (is i).links))) (is i).sight.order (is i).stances) in record {
      is_of = record {
        heads = of.heads;
        within = of.within;
        apart = of.apart;
        answered = λ i. record {
          parents = (is i).parents;
          links = (is i).links;
          rows = (is i).rows;
          ties = (is i).ties;
          stances = (is i).stances;
          sight = seen_is i;
        };
        stands = stands_moved (visible_of v) (visible_ids s) v.cursor;
      };
      given = refl;
      cursor = refl;
      aliases = refl;
    }

-- the same where the view, the limit and what is left are told by others that are equal
pub limit_set : (mails : List Mail) (old v new : PlainView) (given limit : Option Pattern)
    (ls : List PlainListed) (s : PlainSight) → IsOf mails old → v ≡ old → limit ≡ given
    → ls ≡ all_listed mails v.items
    → s ≡ sight (marks_of v.answers.rows (all_within v.people (option_map plain_pattern limit)
    (table ls v.answers.rows v.answers.links))) v.answers.sight.order v.answers.stances
    → new ≡ limited v limit s
    → Turned mails old new (record (facts_of old) { limit = option_map plain_pattern given })
limit_set mails old v new given limit ls s of same limits listed seen is =
    subst (λ (n : PlainView). Turned mails old n
    (record (facts_of old) { limit = option_map plain_pattern given })) (sym is)
    (subst (λ (l : Option Pattern). Turned mails old (limited v limit s)
    (record (facts_of old) { limit = option_map plain_pattern l })) limits
    (subst (λ (o : PlainView). Turned mails o (limited v limit s)
    (record (facts_of o) { limit = option_map plain_pattern limit })) same
    (limited_turned mails v limit ls s (subst (IsOf mails) (sym same) of) listed seen)))

-- what is worked out from scratch for what stands there is of it
pub judged : (mails : List Mail) (old v new : PlainView) (all : PlainAnswers)
    → AreHeads old.heads mails → AreWithin (length old.heads) (numbers old.items)
    → AreApart old.items → all ≡ answers_over mails (facts_of old) → v ≡ old
    → new ≡ turned v all → Turned mails old new (facts_of old)
judged mails old v new all heads within apart answered same is =
    subst (λ (n : PlainView). Turned mails old n (facts_of old))
    (sym (is ∙ ap (λ (w : PlainView). turned w all) same)) (record {
      is_of = record {
        heads = heads;
        within = within;
        apart = apart;
        answered = answered;
        stands = stands_moved (visible_of old) (visible_ids all.sight) old.cursor;
      };
      given = refl;
      cursor = refl;
      aliases = refl;
    })
