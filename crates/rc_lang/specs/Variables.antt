-- The variables of muttrc: names, types, defaults and ranges (Mutt's manual, "Configuration
-- variables").
use Rattle.std.specs.Prelude.{ℕ, Bool, true, false, List, [], ◌∷◌, ◌++◌, Option, codes, map}
use Rattle.std.specs.Prelude.{position, option_map, slice_get, is_some}
use Rattle.std.specs.Str.{bytes_eq}
use Rattle.rc_lang.specs.declared.quad.Quad.{Quad as FourWay}
use Rattle.rc_lang.specs.declared.quad.Quad.TheVariants.{Yes, No, AskYes}
use Rattle.rc_lang.specs.declared.rule.Rule.{Rule}
use Rattle.rc_lang.specs.declared.rule.Rule.TheVariants.{Any, FolderKind, SixAscii, Sort as IsSort}
use Rattle.rc_lang.specs.declared.rule.Rule.TheVariants.{SortAux as IsSortAux, RowFormat}
use Rattle.rc_lang.specs.declared.rule.Rule.TheVariants.{StatusFormat as IsStatusFormat}
use Rattle.rc_lang.specs.declared.variable.Variable.{Variable}
use Rattle.rc_lang.specs.declared.variable.Variable.TheVariants.{MarkOld, Resolve, SortRe, Weed}
use Rattle.rc_lang.specs.declared.variable.Variable.TheVariants.{DuplicateThreads, StrictThreads}
use Rattle.rc_lang.specs.declared.variable.Variable.TheVariants.{MhPurge, MailCheck, Delete, Quit}
use Rattle.rc_lang.specs.declared.variable.Variable.TheVariants.{Folder, Mbox, MboxType, Spoolfile}
use Rattle.rc_lang.specs.declared.variable.Variable.TheVariants.{Postponed, Sort, SortAux, ToChars}
use Rattle.rc_lang.specs.declared.variable.Variable.TheVariants.{IndentString, IndexFormat}
use Rattle.rc_lang.specs.declared.variable.Variable.TheVariants.{PagerFormat, StatusFormat, Editor}
use Rattle.rc_lang.specs.declared.variable.Variable.TheVariants.{Sendmail, Realname, From}
use Rattle.rc_lang.specs.declared.variable.Variable.TheVariants.{Signature, Charset, SendCharset}
use Rattle.rc_lang.specs.declared.variable.Variable.TheVariants.{Tmpdir, Pager, Record}
use Rattle.rc_lang.specs.declared.variable.Variable.TheVariants.{CertificateFile, HeaderCache}
use Rattle.rc_lang.specs.declared.variable.Variable.TheVariants.{SmtpUrl, UseFrom, EditHeaders}
use Rattle.rc_lang.specs.declared.variable.Variable.TheVariants.{Beep, ArrowCursor, Help, Markers}
use Rattle.rc_lang.specs.declared.variable.Variable.TheVariants.{Confirmappend, WaitKey, Move}
use Rattle.rc_lang.specs.declared.kind.Kind.{Kind}
use Rattle.rc_lang.specs.declared.kind.Kind.TheVariants as kind
use Rattle.rc_lang.specs.declared.variable.Row.{Row}

-- a type with its default; a number has a greatest value too
pub data PlainKind : Type 0 where
  Flag : Bool → PlainKind
  Number : ℕ → ℕ → PlainKind
  Quad : FourWay → PlainKind
  Text : Rule → List ℕ → PlainKind

-- a name and a type
pub record Named : Type 0 where
  pub name : List ℕ
  pub kind : PlainKind

-- a variable's place in the table, its name and its type
pub record TableRow : Type 0 where
  pub place : ℕ
  pub name : List ℕ
  pub kind : PlainKind

-- a row of the table of variables
abbrev pub row : ℕ → List ℕ → PlainKind → TableRow
row place name kind = record { place = place; name = name; kind = kind }

-- the default of the variable `index_format`
abbrev pub index_format : List ℕ
index_format = codes "%4C %Z %{%b %d} %-15.15L (%?l?%4l&%4c?) %s"

-- the default of the variable `pager_format`
abbrev pub pager_format : List ℕ
pager_format = codes "-%Z- %C/%m: %-20.20n   %s"

-- the default of the variable `status_format`
abbrev pub status_format : List ℕ
status_format =
    codes "-%r-Mutt: %f [Msgs:%?M?%M/?%m%?n? New:%n?%?o? Old:%o?"
    ++ codes "%?d? Del:%d?%?F? Flag:%F?%?t? Tag:%t?]---(%s/%S)-%>-(%P)---"

-- the table; those from `editor` on have no effect
abbrev pub row_of : Variable → TableRow
row_of MarkOld = row 0 (codes "mark_old") (Flag true)
row_of Resolve = row 1 (codes "resolve") (Flag true)
row_of SortRe = row 2 (codes "sort_re") (Flag true)
row_of Weed = row 3 (codes "weed") (Flag true)
row_of DuplicateThreads = row 4 (codes "duplicate_threads") (Flag true)
row_of StrictThreads = row 5 (codes "strict_threads") (Flag false)
row_of MhPurge = row 6 (codes "mh_purge") (Flag false)
row_of MailCheck = row 7 (codes "mail_check") (Number 5 86400)
row_of Delete = row 8 (codes "delete") (Quad AskYes)
row_of Quit = row 9 (codes "quit") (Quad Yes)
row_of Folder = row 10 (codes "folder") (Text Any (codes "mail"))
row_of Mbox = row 11 (codes "mbox") (Text Any (codes "mbox"))
row_of MboxType = row 12 (codes "mbox_type") (Text FolderKind (codes "mbox"))
row_of Spoolfile = row 13 (codes "spoolfile") (Text Any (codes "mbox"))
row_of Postponed = row 14 (codes "postponed") (Text Any (codes "postponed"))
row_of Sort = row 15 (codes "sort") (Text IsSort (codes "date-sent"))
row_of SortAux = row 16 (codes "sort_aux") (Text IsSortAux (codes "date-sent"))
row_of ToChars = row 17 (codes "to_chars") (Text SixAscii (codes " +TCFL"))
row_of IndentString = row 18 (codes "indent_string") (Text Any (codes "> "))
row_of IndexFormat = row 19 (codes "index_format") (Text RowFormat index_format)
row_of PagerFormat = row 20 (codes "pager_format") (Text RowFormat pager_format)
row_of StatusFormat = row 21 (codes "status_format") (Text IsStatusFormat status_format)
row_of Editor = row 22 (codes "editor") (Text Any [])
row_of Sendmail = row 23 (codes "sendmail") (Text Any [])
row_of Realname = row 24 (codes "realname") (Text Any [])
row_of From = row 25 (codes "from") (Text Any [])
row_of Signature = row 26 (codes "signature") (Text Any [])
row_of Charset = row 27 (codes "charset") (Text Any [])
row_of SendCharset = row 28 (codes "send_charset") (Text Any [])
row_of Tmpdir = row 29 (codes "tmpdir") (Text Any [])
row_of Pager = row 30 (codes "pager") (Text Any [])
row_of Record = row 31 (codes "record") (Text Any [])
row_of CertificateFile = row 32 (codes "certificate_file") (Text Any [])
row_of HeaderCache = row 33 (codes "header_cache") (Text Any [])
row_of SmtpUrl = row 34 (codes "smtp_url") (Text Any [])
row_of UseFrom = row 35 (codes "use_from") (Flag false)
row_of EditHeaders = row 36 (codes "edit_headers") (Flag false)
row_of Beep = row 37 (codes "beep") (Flag false)
row_of ArrowCursor = row 38 (codes "arrow_cursor") (Flag false)
row_of Help = row 39 (codes "help") (Flag false)
row_of Markers = row 40 (codes "markers") (Flag false)
row_of Confirmappend = row 41 (codes "confirmappend") (Flag false)
row_of WaitKey = row 42 (codes "wait_key") (Flag false)
row_of Move = row 43 (codes "move") (Quad No)

-- the variables in the order of the table
abbrev pub variables : List Variable
variables =
    MarkOld ∷ Resolve ∷ SortRe ∷ Weed ∷ DuplicateThreads ∷ StrictThreads ∷ MhPurge ∷ MailCheck ∷
    Delete ∷ Quit ∷
    Folder ∷ Mbox ∷ MboxType ∷ Spoolfile ∷ Postponed ∷ Sort ∷ SortAux ∷ ToChars ∷ IndentString ∷
    IndexFormat ∷
    PagerFormat ∷ StatusFormat ∷ Editor ∷ Sendmail ∷ Realname ∷ From ∷ Signature ∷ Charset ∷
    SendCharset ∷
    Tmpdir ∷ Pager ∷ Record ∷ CertificateFile ∷ HeaderCache ∷ SmtpUrl ∷ UseFrom ∷ EditHeaders ∷
    Beep ∷
    ArrowCursor ∷ Help ∷ Markers ∷ Confirmappend ∷ WaitKey ∷ Move ∷ []

-- the table of variables
abbrev pub rows : List TableRow
rows = map row_of variables

-- the place of a name in the table
abbrev pub place_of : List ℕ → Option ℕ
place_of name = position (λ r. bytes_eq r.name name) rows

-- the name of a variable
abbrev pub is_variable : List ℕ → Bool
is_variable name = is_some (place_of name)

-- a row without its place
abbrev pub without_place : TableRow → Named
without_place r = record { name = r.name; kind = r.kind }

-- the name and the type at a place of the table
abbrev pub named_at : ℕ → Option Named
named_at n = option_map without_place (slice_get rows n)

-- the kind of a variable as contracts see it
abbrev pub plain_kind : Kind → PlainKind
plain_kind (kind.Flag b) = Flag b
plain_kind (kind.Number value most) = Number value most
plain_kind (kind.Quad q) = Quad q
plain_kind (kind.Text rule text) = Text rule text.now

-- a row of the code's table as contracts see it
abbrev pub plain_row : Row → Named
plain_row r = record { name = r.0.now; kind = plain_kind r.1 }
