-- What is typed at prompts (the keys Enter, BackSpace and Ctrl-G are 13, 127 and 7).
use Rattle.std.specs.Prelude.{◌==◌, ◌||◌, ◌-◌, ◌++◌, ◌∷◌, [], ℕ, Bool, true, false, not, List}
use Rattle.std.specs.Prelude.{codes, length, nat_eq, take, if◌then◌else◌}
use Rattle.std.specs.Fmt.{decimal}
use Rattle.std.specs.List.{list_any}
use Rattle.std.specs.Str.{encode_utf8_all}
use Rattle.keymap.specs.declared.key.Key.{Key}
use Rattle.keymap.specs.declared.key.Key.TheVariants.{Char}
use Rattle.prompts.specs.declared.asking.Asking.{Asking}
use Rattle.prompts.specs.declared.asking.Asking.TheVariants.{Delete, Undelete, Tag, Untag}
use Rattle.prompts.specs.declared.asking.Asking.TheVariants.{Limit, Search, Command, Sort}
use Rattle.prompts.specs.declared.asking.Asking.TheVariants.{ReverseSort, SetFlag, ClearFlag}
use Rattle.prompts.specs.declared.asking.Asking.TheVariants.{Purge, Quit}
use Rattle.prompts.specs.declared.reply.Reply.{Reply}
use Rattle.prompts.specs.declared.reply.Reply.TheVariants.{More, GivenUp, Answered, Chosen}

-- a prompt, and the characters that were typed at it
pub record PlainPrompt : Type 0 where
  pub asking : Asking
  pub typed : List ℕ

-- what a prompt asks that asks always the same (Mutt's manual, "Functions")
abbrev pub plain_text : Asking → List ℕ
plain_text Delete = codes "Delete messages matching: "
plain_text Undelete = codes "Undelete messages matching: "
plain_text Tag = codes "Tag messages matching: "
plain_text Untag = codes "Untag messages matching: "
plain_text Limit = codes "Limit to messages matching: "
plain_text Search = codes "Search for: "
plain_text Command = codes ":"
plain_text Sort = codes "Sort (d/f/r/s/o/t/u/z/c): "
plain_text ReverseSort = codes "Reverse sort (d/f/r/s/o/t/u/z/c): "
plain_text SetFlag = codes "Set flag? (D/N/O/r/*/!): "
plain_text ClearFlag = codes "Clear flag? (D/N/O/r/*/!): "
plain_text _ = []

-- the answers of which one is the default
abbrev pub ways : Bool → List ℕ
ways true = codes "([yes]/no): "
ways false = codes "(yes/[no]): "

-- the key of an answer, `y` or `n`
abbrev pub key_of : Bool → ℕ
key_of true = 121
key_of false = 110

-- how many messages are meant
abbrev pub counted : ℕ → List ℕ
counted count = decimal count
    ++ (if count == 1 then codes " deleted message? " else codes " deleted messages? ")

-- whether so many messages go
abbrev pub purge_text : ℕ → Bool → List ℕ
purge_text count says = codes "Purge " ++ counted count ++ ways says

-- whether the run is left
abbrev pub quit_text : Bool → List ℕ
quit_text says = codes "Quit Mutt? " ++ ways says

-- what a prompt asks
abbrev pub asking_text : Asking → List ℕ
asking_text (Purge count says quits) = purge_text count says
asking_text (Quit says) = quit_text says
asking_text asking = plain_text asking

-- the keys of which one is the answer; a prompt without any takes a text
abbrev pub choices : Asking → List ℕ
choices Sort = codes "dfrsotuzc"
choices ReverseSort = codes "dfrsotuzc"
choices SetFlag = codes "DNOr*!"
choices ClearFlag = codes "DNOr*!"
choices (Purge count says quits) = codes "yn"
choices (Quit says) = codes "yn"
choices _ = []

-- one key answers the prompt
abbrev pub is_of_one_key : Asking → Bool
is_of_one_key asking = not (length (choices asking) == 0)

-- a key is an answer to the prompt
abbrev pub has_choice : Asking → ℕ → Bool
has_choice asking c = list_any (λ choice. nat_eq choice c) (choices asking)

-- what Enter says to a prompt: its default, where it has one
abbrev pub reply_to_enter : Asking → Reply
reply_to_enter (Purge count says quits) = Chosen (key_of says)
reply_to_enter (Quit says) = Chosen (key_of says)
reply_to_enter asking = if is_of_one_key asking then GivenUp else Answered

-- what a character says to a prompt
abbrev pub reply_to_char : Asking → ℕ → Reply
reply_to_char asking c =
    if c == 7 then GivenUp
    else (if c == 13 then reply_to_enter asking
    else (if has_choice asking c then Chosen c else More))

-- what a key says
abbrev pub reply_to : Asking → Key → Reply
reply_to asking (Char c) = reply_to_char asking c
reply_to asking _ = More

-- without the last character
abbrev pub shortened : List ℕ → List ℕ
shortened typed = take (length typed - 1) typed

-- this character types nothing
abbrev pub is_no_text : Asking → ℕ → Bool
is_no_text asking c = is_of_one_key asking || (c == 13 || c == 7)

-- what stands there behind a character
abbrev pub typed_with_char : PlainPrompt → ℕ → List ℕ
typed_with_char p c =
    if is_no_text p.asking c then p.typed
    else (if c == 127 then shortened p.typed else p.typed ++ c ∷ [])

-- what is typed behind a key
abbrev pub typed_with : PlainPrompt → Key → List ℕ
typed_with p (Char c) = typed_with_char p c
typed_with p _ = p.typed

-- the bytes of what was typed
abbrev pub text_of : PlainPrompt → List ℕ
text_of p = encode_utf8_all p.typed

-- the prompt as it is shown
abbrev pub shown : PlainPrompt → List ℕ
shown p = asking_text p.asking ++ text_of p
