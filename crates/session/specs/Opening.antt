-- What an opened folder makes of the index.
use Rattle.std.specs.Prelude.{List, []}
use Rattle.folder_letters.specs.Letters.{Mail}
use Rattle.folder_letters.specs.declared.listing.Found.{Found}
use Rattle.folder_letters.specs.declared.listing.Listed.{Listed}
use Rattle.session_events.specs.Events.{held}
use Rattle.session_index.specs.Opening.{begun, taken_in}
use Rattle.session.specs.Answers.{learnt, tuned}
use Rattle.session.specs.Core.{CoreState, with_desk}
use Rattle.session.specs.Reading.{left}

-- these messages came
abbrev pub first_found : List Listed → Found
first_found came = record { gone = held []; reflagged = held []; came = held came }

-- the cursor stands where a reader begins: on the first new message, else on the first unread one,
-- else on the last
abbrev pub begun_in : List Mail → CoreState → CoreState
begun_in mails c = with_desk (begun mails c.desk) c

-- the messages of an opened folder are taken in
abbrev pub found_in : List Mail → List Listed → CoreState → CoreState
found_in mails came c = with_desk (taken_in mails (first_found came) c.desk) c

-- a folder with these messages is open: the index, which is shown, has learnt what commands told it
-- and stands by the variables
unfoldable pub opened : List Mail → List Listed → CoreState → CoreState
opened mails came c = left (found_in mails came (tuned mails (learnt mails c)))
