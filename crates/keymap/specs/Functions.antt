-- The functions that keys run: names, menus and default keys.
use Rattle.std.specs.Prelude.{ℕ, List, [], ◌∷◌, Option, Some, None, codes, find, map, option_map}
use Rattle.std.specs.Str.{bytes_eq}
use Prim.Native.String.{String}
use Rattle.keymap.specs.declared.function.Function.{Function}
use Rattle.keymap.specs.declared.function.Row.{Row}
use Rattle.keymap.specs.declared.function.Function.TheVariants.{NextUndeleted, PreviousUndeleted}
use Rattle.keymap.specs.declared.function.Function.TheVariants.{NextEntry, PreviousEntry}
use Rattle.keymap.specs.declared.function.Function.TheVariants.{FirstEntry, LastEntry, NextPage}
use Rattle.keymap.specs.declared.function.Function.TheVariants.{PreviousPage, NextNewThenUnread}
use Rattle.keymap.specs.declared.function.Function.TheVariants.{NextThread, PreviousThread}
use Rattle.keymap.specs.declared.function.Function.TheVariants.{ParentMessage, DeleteMessage}
use Rattle.keymap.specs.declared.function.Function.TheVariants.{UndeleteMessage, DeleteThread}
use Rattle.keymap.specs.declared.function.Function.TheVariants.{UndeleteThread, DeletePattern}
use Rattle.keymap.specs.declared.function.Function.TheVariants.{UndeletePattern, TagEntry}
use Rattle.keymap.specs.declared.function.Function.TheVariants.{TagPattern, UntagPattern}
use Rattle.keymap.specs.declared.function.Function.TheVariants.{TagThread, TagPrefix, Limit}
use Rattle.keymap.specs.declared.function.Function.TheVariants.{SortMailbox, SortReverse, Search}
use Rattle.keymap.specs.declared.function.Function.TheVariants.{SearchNext, FlagMessage}
use Rattle.keymap.specs.declared.function.Function.TheVariants.{ToggleNew, SetFlag, ClearFlag}
use Rattle.keymap.specs.declared.function.Function.TheVariants.{CollapseThread, CollapseAll}
use Rattle.keymap.specs.declared.function.Function.TheVariants.{DisplayMessage, ViewAttachments}
use Rattle.keymap.specs.declared.function.Function.TheVariants.{DisplayToggleWeed, SaveMessage}
use Rattle.keymap.specs.declared.function.Function.TheVariants.{CopyMessage, ChangeFolder, Mail}
use Rattle.keymap.specs.declared.function.Function.TheVariants.{Reply, RecallMessage}
use Rattle.keymap.specs.declared.function.Function.TheVariants.{EnterCommand, ToggleWrite}
use Rattle.keymap.specs.declared.function.Function.TheVariants.{SyncMailbox, Quit, Exit, Noop}
use Rattle.keymap.specs.declared.function.Function.TheVariants.{NextLine, PreviousLine, Top}
use Rattle.keymap.specs.declared.function.Function.TheVariants.{Bottom, ToggleQuoted}

-- default keys in a menu, as key words with a blank between them; none where the menu lacks the
-- function
abbrev pub MenuKeys : Type 0
MenuKeys = Option (List ℕ)

-- the default keys that a menu has
abbrev pub keys : String → MenuKeys
keys words = Some (codes words)

-- the menu lacks the function
abbrev pub lacks : MenuKeys
lacks = None

-- a name, and the default keys in the index, the pager and the attachment screen
pub record Line : Type 0 where
  pub name : List ℕ
  pub index : MenuKeys
  pub pager : MenuKeys
  pub attach : MenuKeys

-- a line of a name and such keys
abbrev pub line : String → MenuKeys → MenuKeys → MenuKeys → Line
line name index pager attach =
    record { name = codes name; index = index; pager = pager; attach = attach }

-- the table
abbrev pub line_of : Function → Line
line_of NextUndeleted = line "next-undeleted" (keys "j <Down>") (keys "j") lacks
line_of PreviousUndeleted = line "previous-undeleted" (keys "k <Up>") (keys "k") lacks
line_of NextEntry = line "next-entry" (keys "J") (keys "J") (keys "j J <Down>")
line_of PreviousEntry = line "previous-entry" (keys "K") (keys "K") (keys "k K <Up>")
line_of FirstEntry = line "first-entry" (keys "= <Home>") lacks lacks
line_of LastEntry = line "last-entry" (keys "* <End>") lacks lacks
line_of NextPage = line "next-page" (keys "z <PageDown> <Right>") (keys "<Space> <PageDown>") lacks
line_of PreviousPage = line "previous-page" (keys "Z <PageUp> <Left>") (keys "- <PageUp>") lacks
line_of NextNewThenUnread = line "next-new-then-unread" (keys "<Tab>") lacks lacks
line_of NextThread = line "next-thread" (keys "\u{e}") lacks lacks
line_of PreviousThread = line "previous-thread" (keys "\u{10}") lacks lacks
line_of ParentMessage = line "parent-message" (keys "P") lacks lacks
line_of DeleteMessage = line "delete-message" (keys "d") (keys "d") lacks
line_of UndeleteMessage = line "undelete-message" (keys "u") (keys "u") lacks
line_of DeleteThread = line "delete-thread" (keys "\u{4}") lacks lacks
line_of UndeleteThread = line "undelete-thread" (keys "\u{15}") lacks lacks
line_of DeletePattern = line "delete-pattern" (keys "D") lacks lacks
line_of UndeletePattern = line "undelete-pattern" (keys "U") lacks lacks
line_of TagEntry = line "tag-entry" (keys "t") lacks lacks
line_of TagPattern = line "tag-pattern" (keys "T") lacks lacks
line_of UntagPattern = line "untag-pattern" (keys "\u{14}") lacks lacks
line_of TagThread = line "tag-thread" (keys "<Esc>t") lacks lacks
line_of TagPrefix = line "tag-prefix" (keys ";") lacks lacks
line_of Limit = line "limit" (keys "l") lacks lacks
line_of SortMailbox = line "sort-mailbox" (keys "o") lacks lacks
line_of SortReverse = line "sort-reverse" (keys "O") lacks lacks
line_of Search = line "search" (keys "/") (keys "/") lacks
line_of SearchNext = line "search-next" (keys "n") (keys "n") lacks
line_of FlagMessage = line "flag-message" (keys "F") (keys "F") lacks
line_of ToggleNew = line "toggle-new" (keys "N") lacks lacks
line_of SetFlag = line "set-flag" (keys "w") lacks lacks
line_of ClearFlag = line "clear-flag" (keys "W") lacks lacks
line_of CollapseThread = line "collapse-thread" (keys "<Esc>v") lacks lacks
line_of CollapseAll = line "collapse-all" (keys "<Esc>V") lacks lacks
line_of DisplayMessage = line "display-message" (keys "<Enter>") lacks (keys "<Enter>")
line_of ViewAttachments = line "view-attachments" (keys "v") (keys "v") lacks
line_of DisplayToggleWeed = line "display-toggle-weed" (keys "h") (keys "h") lacks
line_of SaveMessage = line "save-message" (keys "s") lacks lacks
line_of CopyMessage = line "copy-message" (keys "C") lacks lacks
line_of ChangeFolder = line "change-folder" (keys "c") lacks lacks
line_of Mail = line "mail" (keys "m") lacks lacks
line_of Reply = line "reply" (keys "r") lacks lacks
line_of RecallMessage = line "recall-message" (keys "R") lacks lacks
line_of EnterCommand = line "enter-command" (keys ":") (keys ":") lacks
line_of ToggleWrite = line "toggle-write" (keys "%") lacks lacks
line_of SyncMailbox = line "sync-mailbox" (keys "$") lacks lacks
line_of Quit = line "quit" (keys "q") lacks lacks
line_of Exit = line "exit" (keys "x") (keys "q x i") (keys "q x")
line_of Noop = line "noop" (keys "") lacks lacks
line_of NextLine = line "next-line" lacks (keys "<Enter> <Down>") lacks
line_of PreviousLine = line "previous-line" lacks (keys "<BackSpace> <Up>") lacks
line_of Top = line "top" lacks (keys "^ <Home>") lacks
line_of Bottom = line "bottom" lacks (keys "$ <End>") lacks
line_of ToggleQuoted = line "toggle-quoted" lacks (keys "T") lacks

-- a function with its line
pub record TableRow : Type 0 where
  pub name : List ℕ
  pub function : Function
  pub index : MenuKeys
  pub pager : MenuKeys
  pub attach : MenuKeys

-- the row of a function and a line
abbrev pub row : Function → Line → TableRow
row function l = record {
  name = l.name;
  function = function;
  index = l.index;
  pager = l.pager;
  attach = l.attach;
}

-- the row of a function
abbrev pub row_of : Function → TableRow
row_of function = row function (line_of function)

-- the functions in the order of the table
abbrev pub functions : List Function
functions =
    NextUndeleted ∷ PreviousUndeleted ∷ NextEntry ∷ PreviousEntry ∷ FirstEntry ∷ LastEntry ∷
    NextPage ∷ PreviousPage ∷ NextNewThenUnread ∷ NextThread ∷ PreviousThread ∷ ParentMessage ∷
    DeleteMessage ∷ UndeleteMessage ∷ DeleteThread ∷ UndeleteThread ∷ DeletePattern ∷
    UndeletePattern ∷ TagEntry ∷ TagPattern ∷ UntagPattern ∷ TagThread ∷ TagPrefix ∷ Limit ∷
    SortMailbox ∷ SortReverse ∷ Search ∷ SearchNext ∷ FlagMessage ∷ ToggleNew ∷ SetFlag ∷
    ClearFlag ∷ CollapseThread ∷ CollapseAll ∷ DisplayMessage ∷ ViewAttachments ∷
    DisplayToggleWeed ∷ SaveMessage ∷ CopyMessage ∷ ChangeFolder ∷ Mail ∷ Reply ∷
    RecallMessage ∷ EnterCommand ∷ ToggleWrite ∷ SyncMailbox ∷ Quit ∷ Exit ∷ Noop ∷ NextLine ∷
    PreviousLine ∷ Top ∷ Bottom ∷ ToggleQuoted ∷ []

-- the rows of all functions, in order
abbrev pub rows : List TableRow
rows = map row_of functions

-- the place of a function in the table
abbrev pub place_of : Function → ℕ
place_of NextUndeleted = 0
place_of PreviousUndeleted = 1
place_of NextEntry = 2
place_of PreviousEntry = 3
place_of FirstEntry = 4
place_of LastEntry = 5
place_of NextPage = 6
place_of PreviousPage = 7
place_of NextNewThenUnread = 8
place_of NextThread = 9
place_of PreviousThread = 10
place_of ParentMessage = 11
place_of DeleteMessage = 12
place_of UndeleteMessage = 13
place_of DeleteThread = 14
place_of UndeleteThread = 15
place_of DeletePattern = 16
place_of UndeletePattern = 17
place_of TagEntry = 18
place_of TagPattern = 19
place_of UntagPattern = 20
place_of TagThread = 21
place_of TagPrefix = 22
place_of Limit = 23
place_of SortMailbox = 24
place_of SortReverse = 25
place_of Search = 26
place_of SearchNext = 27
place_of FlagMessage = 28
place_of ToggleNew = 29
place_of SetFlag = 30
place_of ClearFlag = 31
place_of CollapseThread = 32
place_of CollapseAll = 33
place_of DisplayMessage = 34
place_of ViewAttachments = 35
place_of DisplayToggleWeed = 36
place_of SaveMessage = 37
place_of CopyMessage = 38
place_of ChangeFolder = 39
place_of Mail = 40
place_of Reply = 41
place_of RecallMessage = 42
place_of EnterCommand = 43
place_of ToggleWrite = 44
place_of SyncMailbox = 45
place_of Quit = 46
place_of Exit = 47
place_of Noop = 48
place_of NextLine = 49
place_of PreviousLine = 50
place_of Top = 51
place_of Bottom = 52
place_of ToggleQuoted = 53

-- the row of a name
abbrev pub row_named : List ℕ → Option TableRow
row_named name = find (λ r. bytes_eq r.name name) rows

-- the function with the name
abbrev pub function_named : List ℕ → Option Function
function_named name = option_map (λ r. r.function) (row_named name)

-- a row of the table in the code
abbrev pub plain_row : Row → TableRow
plain_row r = row r.1 (record {
  name = r.0.now;
  index = option_map (λ k. k.now) r.2;
  pager = option_map (λ k. k.now) r.3;
  attach = option_map (λ k. k.now) r.4;
})
