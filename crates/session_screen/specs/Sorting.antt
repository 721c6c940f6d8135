-- The orders that keys name (Mutt's manual, "sort-mailbox").
use Rattle.std.specs.Prelude.{◌==◌, ◌++◌, ◌∷◌, [], ℕ, Bool, List, codes, if◌then◌else◌}

-- the order that a key names
abbrev pub order_of_key : ℕ → List ℕ
order_of_key key =
    if key == 102 then codes "from"
    else (if key == 114 then codes "date-received"
    else (if key == 115 then codes "subject"
    else (if key == 111 then codes "to"
    else (if key == 116 then codes "threads"
    else (if key == 117 then codes "mailbox-order"
    else (if key == 122 then codes "size"
    else (if key == 99 then codes "score" else codes "date-sent")))))))

-- the words of the command that sets an order
abbrev pub sort_words : Bool → ℕ → List (List ℕ)
sort_words reversed key = codes "set"
    ∷ (codes "sort=" ++ (if reversed then codes "reverse-" else []) ++ order_of_key key) ∷ []
