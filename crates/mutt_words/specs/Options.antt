-- What the command line chooses.
use Rattle.std.specs.Prelude.{◌≡◌, ◌≤◌, ◌++◌, ◌∷◌, ℕ, ℤ, pos, Bool, true, false, List, []}
use Rattle.std.specs.Prelude.{Option, Some, None, Result, Ok, Err, option_map, if◌then◌else◌}
use Rattle.std.specs.Str.{IsUtf8, is_utf8}
use Rattle.mail_base.specs.Decimal.{decimal_in}
use Rattle.mail_base.specs.Series.{Held, plain_texts}
use Rattle.mail_base.specs.Zone.{IsOffset, numeric_zone}
use Rattle.mail_base.specs.declared.kind.Kind.{Kind}
use Rattle.rc_lang.specs.Variables.{is_variable}
use Rattle.mutt_words.specs.LongOption.{is_owner}
use Rattle.mail_base.specs.Kind.{kind_named}
use Rattle.mutt_words.specs.declared.error.ValueError.{ValueError}
use Rattle.mutt_words.specs.declared.error.ValueError.TheVariants.{Bad, NoMemory}
use Rattle.mutt_words.specs.declared.long_option.LongOption.{LongOption}
use Rattle.mutt_words.specs.declared.long_option.LongOption.TheVariants as long
use Rattle.mutt_words.specs.declared.options.Options.{Options}
use Rattle.mutt_words.specs.declared.short_option.ShortOption.{ShortOption}
use Rattle.mutt_words.specs.declared.short_option.ShortOption.TheVariants as short
use Rattle.mutt_words.specs.declared.switch.Switch.{Switch}
use Rattle.mutt_words.specs.declared.switch.Switch.TheVariants as switch

-- options without the rooms of their texts
pub record PlainOptions : Type 0 where
  pub folder : Option (List ℕ)
  pub rc : Option (List ℕ)
  pub commands : List (List ℕ)
  pub query : List (List ℕ)
  pub read_only : Bool
  pub skip_empty : Bool
  pub version : Bool
  pub kind : Option Kind
  pub rows : ℕ
  pub cols : ℕ
  pub offset : ℤ
  pub owner : List ℕ

-- a text that may be absent
abbrev pub plain_text : Option (Held ℕ) → Option (List ℕ)
plain_text None = None
plain_text (Some text) = Some text.items

-- options as contracts see them
abbrev pub plain_options : Options → PlainOptions
plain_options o = record {
  folder = plain_text o.folder;
  rc = plain_text o.rc;
  commands = plain_texts o.commands;
  query = plain_texts o.query;
  read_only = o.read_only;
  skip_empty = o.skip_empty;
  version = o.version;
  kind = o.kind;
  rows = o.rows;
  cols = o.cols;
  offset = o.offset;
  owner = o.owner.items;
}

-- what no words choose
abbrev pub no_words : PlainOptions
no_words = record {
  folder = None;
  rc = None;
  commands = [];
  query = [];
  read_only = false;
  skip_empty = false;
  version = false;
  kind = None;
  rows = 24;
  cols = 80;
  offset = pos 0;
  owner = [];
}

-- the options with a switch turned on
abbrev pub turned_on : PlainOptions → Switch → PlainOptions
turned_on o switch.NoSystemFile = o
turned_on o switch.ReadOnly = record o { read_only = true }
turned_on o switch.SkipEmpty = record o { skip_empty = true }
turned_on o switch.Version = record o { version = true }

-- a text that passes a test
abbrev pub if_passes : (List ℕ → Bool) → List ℕ → Option (List ℕ)
if_passes passes text = if passes text then Some text else None

-- with the value of an option of a letter, where the option takes it
abbrev pub with_short : PlainOptions → ShortOption → List ℕ → Option PlainOptions
with_short o short.Folder value =
    option_map (λ text. record o { folder = Some text }) (if_passes is_utf8 value)
with_short o short.RcFile value =
    option_map (λ text. record o { rc = Some text }) (if_passes is_utf8 value)
with_short o short.Command value =
    option_map (λ text. record o { commands = o.commands ++ text ∷ [] }) (if_passes is_utf8 value)
with_short o short.FolderKind value =
    option_map (λ kind. record o { kind = Some kind }) (kind_named value)
with_short o short.Query value =
    option_map (λ name. record o { query = o.query ++ name ∷ [] }) (if_passes is_variable value)

-- with the value of an option of a name, where the option takes it
abbrev pub with_long : PlainOptions → LongOption → List ℕ → Option PlainOptions
with_long o long.Rows value = option_map (λ n. record o { rows = n }) (decimal_in 6 200 value)
with_long o long.Cols value = option_map (λ n. record o { cols = n }) (decimal_in 20 500 value)
with_long o long.Offset value = option_map (λ z. record o { offset = z }) (numeric_zone value)
with_long o long.Owner value =
    option_map (λ word. record o { owner = word }) (if_passes is_owner value)

-- a value is the wanted one, or is bad where there is none
abbrev pub Gives : {A B : Type 0} → (A → B) → Result A ValueError → Option B → Type 0
Gives plain (Ok value) wanted = wanted ≡ Some (plain value)
Gives plain (Err Bad) wanted = wanted ≡ None
Gives plain (Err NoMemory) wanted = Unit {0}

-- a value was taken, or is bad where the option does not take it
abbrev pub Takes : Result (Unit {0}) ValueError → Option PlainOptions → PlainOptions → Type 0
Takes result wanted new = Gives (λ _. new) result wanted

-- a text that may be absent is UTF-8
abbrev pub IsText : Option (Held ℕ) → Type 0
IsText None = Unit {0}
IsText (Some text) = IsUtf8 text.items

-- options that a reader can start with
pub record IsUsable (o : Options) : Type 0 where
  pub low : 6 ≤ o.rows
  pub high : o.rows ≤ 200
  pub narrow : 20 ≤ o.cols
  pub wide : o.cols ≤ 500
  pub offset : IsOffset o.offset
  pub folder : IsText o.folder
  pub rc : IsText o.rc
