-- Which header fields are shown, and in which order (Mutt's manual, "ignore", "hdr_order").
use Rattle.std.specs.Prelude.{◌||◌, ℕ, Bool, false, not, List, [], ◌∷◌, ◌++◌, take, length, codes}
use Rattle.std.specs.Prelude.{filter, if◌then◌else◌}
use Rattle.std.specs.List.{list_any}
use Rattle.std.specs.Str.{bytes_eq, str_eq_ignore_ascii_case}
use Rattle.mail_base.specs.Lines.{PlainField}
use Rattle.mail_base.specs.Series.{plain_texts}
use Rattle.headers.specs.Values.{is_named}
use Rattle.message_text.specs.declared.weeding.Weeding.{Weeding}

-- what is shown of a header, without the rooms of its lists
pub record PlainWeeding : Type 0 where
  pub shown : List (List ℕ)
  pub hidden : List (List ℕ)
  pub order : List (List ℕ)
  pub weed : Bool

-- what is shown of a header, as contracts see it
abbrev pub plain_weeding : Weeding → PlainWeeding
plain_weeding w = record {
  shown = plain_texts w.shown;
  hidden = plain_texts w.hidden;
  order = plain_texts w.order;
  weed = w.weed;
}

-- all fields as they stand
abbrev pub unweeded : PlainWeeding
unweeded = record { shown = []; hidden = []; order = []; weed = false }

-- a name that begins with the entry, without regard to ASCII case; `*` stands for all names
abbrev pub stands_for : List ℕ → List ℕ → Bool
stands_for name entry =
    bytes_eq entry (codes "*") || str_eq_ignore_ascii_case (take (length entry) name) entry

-- an entry of the list stands for the name
abbrev pub is_listed : List ℕ → List (List ℕ) → Bool
is_listed name entries = list_any (stands_for name) entries

-- a field that is not left out: with weeding, one that is not hidden, or shown all the same
abbrev pub is_kept : PlainWeeding → PlainField → Bool
is_kept w f = not w.weed || not (is_listed f.name w.hidden) || is_listed f.name w.shown

-- the names of the fields that come first; none with no weeding
abbrev pub names_of : PlainWeeding → List (List ℕ)
names_of w = if w.weed then w.order else []

-- the fields of the names come first, in the order of the names, and the others behind them
abbrev pub in_order : List (List ℕ) → List PlainField → List PlainField
in_order [] fields = fields
in_order (name ∷ names) fields =
    filter (is_named name) fields ++ in_order names (filter (λ f. not (is_named name f)) fields)

-- the fields that are shown, in their order
abbrev pub shown_fields : PlainWeeding → List PlainField → List PlainField
shown_fields w fields = in_order (names_of w) (filter (is_kept w) fields)
