-- The tree before a subject: how a message hangs below its nearest visible ancestor.
use Rattle.std.specs.Prelude.{◌≡◌, ◌<◌, ◌≤◌, ◌==◌, ◌&&◌, ◌++◌, ◌∷◌, []}
use Rattle.std.specs.Prelude.{ℕ, zero, suc, Bool, false, List, length}
use Rattle.std.specs.Prelude.{Option, Some, None, codes, nat_lt}
use Rattle.std.specs.Prelude.{option_map, slice_index, slice_set, if◌then◌else◌}
use Rattle.std.specs.Str.{byte}
use Rattle.threads.specs.declared.options.Link.{Link}
use Rattle.threads.specs.declared.options.Link.TheVariants.{Reference, Duplicate, Subject}
use Rattle.index_listed.specs.Entries.{ParentsFirst, Tells, link, parent, some_below}
use Rattle.index_listed.specs.Visibility.{is_visible}
use Rattle.index_listed.specs.declared.entry.Above.{Above}
use Rattle.index_listed.specs.declared.entry.Entry.{Entry}

-- a parent that is visible, or else what is found further up
abbrev pub visible_or : (ℕ → Bool) → (ℕ → Option ℕ) → Option ℕ → Option ℕ
visible_or visible further None = None
visible_or visible further (Some q) = if visible q then Some q else further q

-- the nearest visible ancestor that is at most so many steps up
abbrev pub nearest_in : List Entry → ℕ → ℕ → Option ℕ
nearest_in entries zero p = None
nearest_in entries (suc n) p =
    visible_or (is_visible entries) (nearest_in entries n) (parent entries p)

-- the nearest visible ancestor; no way up has more steps than there are messages
abbrev pub nearest : List Entry → ℕ → Option ℕ
nearest entries p = nearest_in entries (length entries) p

-- this is a message's nearest visible ancestor
abbrev pub is_above : ℕ → Option ℕ → Bool
is_above above None = false
is_above above (Some q) = q == above

-- a message is visible, and this is its nearest visible ancestor
abbrev pub hangs_below : List Entry → ℕ → ℕ → Bool
hangs_below entries above p = is_visible entries p && is_above above (nearest entries p)

-- a message behind a place hangs below this one
abbrev pub has_later : List Entry → ℕ → ℕ → Bool
has_later entries above p =
    some_below (λ q. nat_lt p q && hangs_below entries above q) (length entries)

-- the column of a visible ancestor behind which a message hangs beside it, or none does
abbrev pub column : Bool → List ℕ
column later = if later then codes "| " else codes "  "

-- the columns above, and that of a message which hangs below another; the topmost has none
abbrev pub columns_below : (ℕ → List ℕ) → (ℕ → Bool) → Option ℕ → List ℕ
columns_below columns later None = []
columns_below columns later (Some above) = columns above ++ column (later above)

-- the columns of a message and of at most so many of its visible ancestors, the topmost first
abbrev pub columns_in : List Entry → ℕ → ℕ → List ℕ
columns_in entries zero p = []
columns_in entries (suc n) p = columns_below (columns_in entries n)
    (λ above. has_later entries above p) (nearest entries p)

-- the columns of a message and of its visible ancestors, the topmost first
abbrev pub columns : List Entry → ℕ → List ℕ
columns entries p = columns_in entries (length entries) p

-- the sign of a link
abbrev pub sign : Link → ℕ
sign Reference = byte "-"
sign Duplicate = byte "="
sign Subject = byte "*"

-- how a message hangs there: whether another one does behind it, and by what it follows its parent
abbrev pub branch : Bool → Link → List ℕ
branch later l = (if later then byte "|" else byte "`") ∷ sign l ∷ codes "> "

-- the text of a message below its nearest visible ancestor, if it has one
abbrev pub text_below : List Entry → ℕ → Option ℕ → List ℕ
text_below entries p None = []
text_below entries p (Some above) =
    columns entries above ++ branch (has_later entries above p) (link entries p)

-- the tree text of a message
abbrev pub tree_text : List Entry → ℕ → List ℕ
tree_text entries p = text_below entries p (nearest entries p)

-- For the code alone.

-- where the message of a link stands
abbrev pub place_of : Option Above → Option ℕ
place_of link = option_map (λ a. a.place) link

-- the last place is put at the nearest visible ancestor of a visible message, if it has one
abbrev pub with_last : List ℕ → Option ℕ → Bool → ℕ → List ℕ
with_last last None visible place = last
with_last last (Some above) visible place =
    if visible then slice_set last above place else last

-- the last visible message below a place that hangs below each one, or zero: no message hangs
-- below another in front
pub record AreLast (entries : List Entry) (count : ℕ) (last : List ℕ) : Type 0 where
  pub long : length last ≡ length entries
  pub below : (above : ℕ) → above < length entries → slice_index last above ≤ count
  pub later : (above p : ℕ) → above < length entries → nat_lt p (slice_index last above)
      ≡ some_below (λ q. nat_lt p q && hangs_below entries above q) count

-- the lists of a tree are those of its messages
pub record IsTree (entries : List Entry) (nearest_ones : List (Option ℕ)) (last : List ℕ)
    : Type 0 where
  pub parents : ParentsFirst entries
  pub the_nearest : Tells None (nearest entries) (length entries) nearest_ones
  pub the_last : AreLast entries (length entries) last
