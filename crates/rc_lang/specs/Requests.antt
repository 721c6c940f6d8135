-- What words of `set` and its kin ask for (Mutt's manual, "Setting and Querying Variables").
use Rattle.std.specs.Prelude.{ℕ, ◌+◌, ◌==◌, nat_eq, List, codes, take, drop, position, Option, Some}
use Rattle.std.specs.Prelude.{None, option_map, if◌then◌else◌}
use Rattle.std.specs.List.{starts_with}
use Rattle.std.specs.Str.{bytes_eq}
use Rattle.rc_lang.specs.declared.request.SetCommand.{SetCommand}
use Rattle.rc_lang.specs.declared.request.SetCommand.TheVariants as command
use Rattle.rc_lang.specs.declared.request.Change.{Change}
use Rattle.rc_lang.specs.declared.request.Change.TheVariants as change
use Rattle.rc_lang.specs.declared.request.Request.{Request}

-- the command that changes variables with a name
abbrev pub set_command_of : List ℕ → Option SetCommand
set_command_of word =
    if bytes_eq word (codes "set") then Some command.Set
    else (if bytes_eq word (codes "unset") then Some command.Unset
    else (if bytes_eq word (codes "toggle") then Some command.Toggle
    else (if bytes_eq word (codes "reset") then Some command.Reset else None)))

-- what becomes of a variable
pub data PlainChange : Type 0 where
  Set : PlainChange
  Unset : PlainChange
  Toggle : PlainChange
  Reset : PlainChange
  Assign : List ℕ → PlainChange

-- a change of the variable with the name; without a change it is shown
pub record PlainRequest : Type 0 where
  pub name : List ℕ
  pub change : Option PlainChange

-- a change as contracts see it
abbrev pub plain_change : Change → PlainChange
plain_change change.Set = Set
plain_change change.Unset = Unset
plain_change change.Toggle = Toggle
plain_change change.Reset = Reset
plain_change (change.Assign text) = Assign text.now

-- a request as contracts see it
abbrev pub plain_request : Request → PlainRequest
plain_request r = record { name = r.name.now; change = option_map plain_change r.change }

-- a request to change a variable
abbrev pub request : List ℕ → PlainChange → PlainRequest
request name change = record { name = name; change = Some change }

-- `noname`, `invname`, `&name`, `?name` and `name`
abbrev pub prefix_request : List ℕ → PlainRequest
prefix_request word =
    if starts_with nat_eq word (codes "no") then request (drop 2 word) Unset
    else (if starts_with nat_eq word (codes "inv") then request (drop 3 word) Toggle
    else (if starts_with nat_eq word (codes "&") then request (drop 1 word) Reset
    else (if starts_with nat_eq word (codes "?") then record { name = drop 1 word; change = None }
    else request word Set)))

-- the place of the first equals sign
abbrev pub equals_at : List ℕ → Option ℕ
equals_at word = position (λ b. b == 61) word

-- the request of a word with an equals sign at a place, if any
abbrev pub assigned_at : List ℕ → Option ℕ → PlainRequest
assigned_at word None = prefix_request word
assigned_at word (Some at) = request (take at word) (Assign (drop (at + 1) word))

-- a word of `set`; what stands before an equals sign is a name as it is written
abbrev pub set_request : List ℕ → PlainRequest
set_request word = assigned_at word (equals_at word)

-- what a word asks of a command
abbrev pub request_of : SetCommand → List ℕ → PlainRequest
request_of command.Set word = set_request word
request_of command.Unset word = request word Unset
request_of command.Toggle word = request word Toggle
request_of command.Reset word = request word Reset

-- what stands before the equals sign
abbrev pub before_value : List ℕ → Option ℕ → List ℕ
before_value word None = word
before_value word (Some at) = take at word

-- what stands before the equals sign
abbrev pub without_value : List ℕ → List ℕ
without_value word = before_value word (equals_at word)

-- a variable's name without `no`, `inv`, `&`, `?` and value, as faults tell it
abbrev pub bare_name : List ℕ → List ℕ
bare_name word = (prefix_request (without_value word)).name
