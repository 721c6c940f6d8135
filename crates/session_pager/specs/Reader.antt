-- What is shown in place of the index (Mutt's manual, "The Pager", "Attachment menu").
use Rattle.std.specs.Prelude.{ℕ, Bool, List, Option, None, Some}
use Rattle.keymap.specs.declared.menu.Menu.{Menu}
use Rattle.keymap.specs.declared.menu.Menu.TheVariants as menu
use Rattle.mail_base.specs.declared.kind.Id.{Id}

-- what is shown: the index, a message or one of its parts on pages, or the list of its parts
pub data PlainShowing : Type 0 where
  Index : PlainShowing
  Text : (id : Id) → (part : Option ℕ) → (top : ℕ) → (hidden : Bool) → PlainShowing
  Parts : (id : Id) → (cursor : ℕ) → PlainShowing

-- a reader: what is shown, the expression that is searched for, and the message that waits for
-- files of commands before it is shown
pub record PlainReader : Type 0 where
  pub showing : PlainShowing
  pub search : Option (List ℕ)
  pub awaited : Option Id

-- a reader that shows the index, and searched for nothing
abbrev pub no_reader : PlainReader
no_reader = record { showing = Index; search = None; awaited = None }

-- a reader that shows something else
abbrev pub with_showing : PlainShowing → PlainReader → PlainReader
with_showing showing r = record r { showing = showing }

-- the index comes back
abbrev pub index_shown : PlainReader → PlainReader
index_shown r = with_showing Index r

-- another message waits, or none
abbrev pub with_awaited : Option Id → PlainReader → PlainReader
with_awaited awaited r = record r { awaited = awaited }

-- the menu of what is shown
abbrev pub menu_for : PlainShowing → Menu
menu_for Index = menu.Index
menu_for (Text id part top hidden) = menu.Pager
menu_for (Parts id cursor) = menu.Attach

-- the menu in which keys are read
abbrev pub menu_of : PlainReader → Menu
menu_of r = menu_for r.showing

-- the message of a text
abbrev pub text_id : PlainShowing → Option Id
text_id (Text id part top hidden) = Some id
text_id _ = None

-- the message of which a text is shown
abbrev pub shown_id : PlainReader → Option Id
shown_id r = text_id r.showing
