-- Which header fields muttrc names to be shown (Mutt's manual, "ignore", "hdr_order").
use Rattle.std.specs.Prelude.{◌++◌, ℕ, Bool, List, [], ◌∷◌, codes}
use Rattle.message_text.specs.Weeding.{PlainWeeding}
use Rattle.hook_requests.specs.declared.weeds.WeedList.{WeedList}
use Rattle.hook_requests.specs.declared.weeds.WeedList.TheVariants.{Shown, Hidden, Order}

-- the names of fields that `unignore`, `ignore` and `hdr_order` have given
pub record PlainWeeds : Type 0 where
  pub shown : List (List ℕ)
  pub hidden : List (List ℕ)
  pub order : List (List ℕ)

-- the names before a muttrc is read
abbrev pub first_weeds : PlainWeeds
first_weeds = record {
  shown = codes "from" ∷ codes "date" ∷ codes "subject" ∷ codes "to" ∷ codes "cc" ∷ [];
  hidden = codes "*" ∷ [];
  order = [];
}

-- words are added at the end of a list
abbrev pub with_words : WeedList → List (List ℕ) → PlainWeeds → PlainWeeds
with_words Shown words weeds = record weeds { shown = weeds.shown ++ words }
with_words Hidden words weeds = record weeds { hidden = weeds.hidden ++ words }
with_words Order words weeds = record weeds { order = weeds.order ++ words }

-- what is shown of a header by these names
abbrev pub weeding_by : Bool → PlainWeeds → PlainWeeding
weeding_by weed weeds = record {
  shown = weeds.shown;
  hidden = weeds.hidden;
  order = weeds.order;
  weed = weed;
}
