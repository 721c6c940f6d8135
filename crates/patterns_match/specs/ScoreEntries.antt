-- Entries of scores, without the rooms of their lists.
use Rattle.std.specs.Prelude.{List, map}
use Rattle.patterns_match.specs.Scores.{PlainEntry, plain_entry}
use Rattle.patterns_match.specs.declared.score_entry.ScoreEntry.{ScoreEntry}

-- an entry as it is kept
abbrev pub held_entry : ScoreEntry → PlainEntry
held_entry e = plain_entry e.pattern e.value e.last

-- entries as they are kept
abbrev pub held_entries : List ScoreEntry → List PlainEntry
held_entries entries = map held_entry entries
