-- What keys act on: the index, the last line, a prompt, a search.
use Rattle.std.specs.Prelude.{◌≡◌, [], ℕ, Bool, List, Option, Some, option_map}
use Rattle.folder_letters.specs.Letters.{Mail}
use Rattle.patterns_match.specs.Pattern.{PlainPattern, plain_pattern}
use Rattle.index_view.specs.View.{IsOf}
use Rattle.session_index.specs.Index.{PlainIndex, index_of}
use Rattle.index_functions.specs.Messages.{message_text}
use Rattle.index_functions.specs.Notices.{notice_text}
use Rattle.index_functions.specs.declared.notice.Notice.{Notice}
use Rattle.prompts.specs.Prompts.{PlainPrompt}
use Rattle.prompts.specs.declared.asking.Asking.{Asking}
use Rattle.session_index.specs.declared.desk.Desk.{Desk}
use Rattle.index_functions.specs.declared.wanted.Wanted.{Wanted}
use Rattle.index_functions.specs.declared.wanted.Wanted.TheVariants as wanted

-- what keys want of the outside: nothing, that the run ends, that an answer to a prompt is taken,
-- that the cursor's message is shown, that its parts are listed, or that changes are written, where
-- deleted messages may go, and the run may end behind it
pub data PlainWanted : Type 0 where
  Unasked : PlainWanted
  ToEnd : PlainWanted
  ToAnswer : (asking : Asking) → (text : List ℕ) → PlainWanted
  ToChoose : (asking : Asking) → (choice : ℕ) → PlainWanted
  ToDisplay : PlainWanted
  ToList : PlainWanted
  ToSync : (purge quits : Bool) → PlainWanted

-- what keys act on, without the rooms of its lists
pub record PlainDesk : Type 0 where
  pub index : PlainIndex
  pub message : List ℕ
  pub prompt : Option PlainPrompt
  pub search : Option PlainPattern
  pub prefix : Bool
  pub read_only : Bool
  pub wanted : PlainWanted

-- what is wanted, as contracts see it
abbrev pub plain_wanted : Wanted → PlainWanted
plain_wanted wanted.Unasked = Unasked
plain_wanted wanted.ToEnd = ToEnd
plain_wanted (wanted.ToAnswer asking text) = ToAnswer asking text.items
plain_wanted (wanted.ToChoose asking choice) = ToChoose asking choice
plain_wanted wanted.ToDisplay = ToDisplay
plain_wanted wanted.ToList = ToList
plain_wanted (wanted.ToSync purge quits) = ToSync purge quits

-- a desk as contracts see it
abbrev pub plain_desk : Desk → PlainDesk
plain_desk d = record {
  index = index_of d.view;
  message = message_text d.message;
  prompt = d.prompt;
  search = option_map plain_pattern d.search;
  prefix = d.prefix;
  read_only = d.read_only;
  wanted = plain_wanted d.wanted;
}

-- a desk as it is said, over these letters
pub record Holds (mails : List Mail) (wanted : PlainDesk) (d : Desk) : Type 0 where
  pub is_of : IsOf mails d.view
  pub same : plain_desk d ≡ wanted

-- the last line says this
abbrev pub said : Notice → PlainDesk → PlainDesk
said notice d = record d { message = notice_text notice }

-- a desk with another index
abbrev pub with_index : PlainIndex → PlainDesk → PlainDesk
with_index i d = record d { index = i }

-- a prompt stands
abbrev pub asked : Asking → PlainDesk → PlainDesk
asked asking d = record d { prompt = Some (record { asking = asking; typed = [] }) }

-- this is wanted
abbrev pub wanting : PlainWanted → PlainDesk → PlainDesk
wanting wanted d = record d { wanted = wanted }
