-- Faults with their words.
use Rattle.std.specs.Prelude.{◌≡◌, ◌⊎◌, ℕ, List, [], ◌++◌, codes}
use Rattle.rc_lang_words.specs.declared.fault.RcFault.{RcFault}
use Rattle.rc_lang_words.specs.declared.fault.RcFault.TheVariants.{OpenQuote, UnknownCommand}
use Rattle.rc_lang_words.specs.declared.fault.RcFault.TheVariants.{MissingWord, ExtraWord, BadValue}
use Rattle.rc_lang_words.specs.declared.fault.RcFault.TheVariants.{UnknownVariable, WrongKind}
use Rattle.rc_lang_words.specs.declared.fault.RcFault.TheVariants.{BadKey, UnknownMenu}
use Rattle.rc_lang_words.specs.declared.fault.RcFault.TheVariants.{UnknownFunction, BadExpression}
use Rattle.rc_lang_words.specs.declared.fault.RcFault.TheVariants.{BadPattern, BadFormat}
use Rattle.rc_lang_words.specs.declared.fault.RcFault.TheVariants.{PatternNotHere, TooMuchSource}
use Rattle.rc_lang_words.specs.declared.fault.RcFault.TheVariants.{NotRead, NoMemory}
use Rattle.rc_lang_words.specs.declared.fault.RcError.{RcError}

-- a fault and its word
pub record Fault : Type 0 where
  pub fault : RcFault
  pub word : List ℕ

-- a fault with its word as contracts see it
abbrev pub plain_error : RcError → Fault
plain_error e = record { fault = e.fault; word = e.word.items }

-- want of memory
abbrev pub no_memory : Fault
no_memory = record { fault = NoMemory; word = [] }

-- the fault with this word, or want of memory, which has none
abbrev pub IsError : RcFault → List ℕ → RcError → Type 0
IsError NoMemory word e = plain_error e ≡ no_memory
IsError fault word e =
    (plain_error e ≡ record { fault = fault; word = word }) ⊎ (plain_error e ≡ no_memory)

-- what is told of a fault, before its word
abbrev pub cause_of : RcFault → List ℕ
cause_of OpenQuote = codes "unclosed quote"
cause_of UnknownCommand = codes "unknown command: "
cause_of MissingWord = codes "missing word"
cause_of ExtraWord = codes "extra word: "
cause_of UnknownVariable = codes "unknown variable: "
cause_of BadValue = codes "bad value: "
cause_of WrongKind = codes "wrong kind: "
cause_of BadKey = codes "bad key: "
cause_of UnknownMenu = codes "unknown menu: "
cause_of UnknownFunction = codes "unknown function: "
cause_of BadExpression = codes "bad expression: "
cause_of BadPattern = codes "bad pattern: "
cause_of PatternNotHere = codes "pattern not allowed here: "
cause_of BadFormat = codes "bad format: "
cause_of TooMuchSource = codes "too many nested files"
cause_of NotRead = codes "cannot read"
cause_of NoMemory = codes "no memory"

-- what is told of a fault
abbrev pub fault_text : Fault → List ℕ
fault_text f = cause_of f.fault ++ f.word
