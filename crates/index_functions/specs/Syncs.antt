-- What is told of syncs.
use Rattle.std.specs.Prelude.{◌++◌, ℕ, Bool, true, false, List, codes}
use Rattle.std.specs.Fmt.{decimal}
use Rattle.std.specs.List.{count_by}
use Rattle.index_items.specs.Changes.{Changed, PlainChange, Discards}

-- a message is taken away
abbrev pub is_discard : PlainChange → Bool
is_discard Discards = true
is_discard _ = false

-- how many messages these changes take away
abbrev pub count_discards : List Changed → ℕ
count_discards changes = count_by (λ c. is_discard c.change) changes

-- how many messages a sync kept and took away
abbrev pub synced_text : ℕ → ℕ → List ℕ
synced_text kept gone =
    decimal kept ++ codes " kept, " ++ decimal gone ++ codes " deleted."
