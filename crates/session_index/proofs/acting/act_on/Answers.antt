use Rattle.std.proofs.Common.{◌∙◌, map, option_map, subst, sym}
use Rattle.std.proofs.lemmas.Bool.{and_parts}
use Rattle.folder_letters.specs.Letters.{plain_letter}
use Rattle.patterns_match.specs.ScoreEntries.{held_entries}
use Rattle.index_listed.specs.Cursor.{Stands}
use Rattle.index_listed.specs.Seen.{visible_ids}
use Rattle.index_view.specs.Answers.{PlainAnswers}
use Rattle.patterns_match.specs.Pattern.{plain_pattern}
use Rattle.session_index.specs.Index.{PlainIndex, Shows, index_of}
use Rattle.index_view.specs.Staying.{entries_stay, limit_stays, touched}
use Rattle.session_index.proofs.ActsLemmas.{acted_at_once}
use Rattle.session_index.proofs.IndexLemmas.{turned_shows}
use Rattle.index_view.proofs.StayingLemmas.{entries_blind, limit_blind}
use Rattle.session_index.proofs.acting.act_on.Goals as goal

pub returns-then-is_still-clause-acted : goal.returns-then-is_still-clause-acted
returns-then-is_still-clause-acted c =
    let mails = map plain_letter c.args.archive.now.items in
    let v = c.args.view.now in
    let stands = subst (λ (a : PlainAnswers). Stands (visible_ids a.sight) v.cursor)
    c.requires.answered c.requires.stands in
    let still = and_parts (entries_stay (held_entries v.scores))
    (limit_stays (touched c.args.act) (option_map plain_pattern v.limit)) (sym c.is_still.ensures ∙ c.if-is_still.true) in
    let same = acted_at_once mails c.args.act c.args.ids.now (index_of v)
    (limit_blind (touched c.args.act) (option_map plain_pattern v.limit) still.1)
    (entries_blind (held_entries v.scores) still.0) stands in
    subst (λ (i : PlainIndex). Shows mails i c.act_still.new.self) (sym same)
    (turned_shows mails v c.act_still.new.self _ c.requires c.act_still.ensures)
