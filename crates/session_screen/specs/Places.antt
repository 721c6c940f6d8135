-- Paths of folders, and what the variables say of them.
use Rattle.std.specs.Prelude.{◌==◌, ◌||◌, ℕ, List, [], ◌∷◌, ◌++◌, Option, Some, None, codes}
use Rattle.std.specs.Prelude.{if◌then◌else◌, unwrap_or}
use Rattle.mail_base.specs.Kind.{kind_named}
use Rattle.mail_base.specs.Shown.{utf8_text}
use Rattle.mail_base.specs.declared.kind.Kind.{Kind}
use Rattle.mail_base.specs.declared.kind.Kind.TheVariants.{Mbox}
use Rattle.rc_lang.specs.Settings.{value_of}
use Rattle.rc_lang.specs.Values.{PlainValue, Text}
use Rattle.rc_lang.specs.declared.variable.Variable.{Variable}
use Rattle.rc_lang.specs.declared.variable.Variable.TheVariants.{Folder, MboxType, Spoolfile}

-- the text of a value
abbrev pub text_in : Option PlainValue → List ℕ
text_in (Some (Text text)) = text
text_in _ = []

-- the text of a variable
abbrev pub text_of : List PlainValue → Variable → List ℕ
text_of values variable = text_in (value_of values variable)

-- a path that begins with `=` or `+` goes on from the directory of folders
abbrev pub continued : List ℕ → List ℕ → List ℕ
continued folder [] = []
continued folder (c ∷ rest) =
    if c == 61 || c == 43 then folder ++ codes "/" ++ rest else c ∷ rest

-- the named path, or that of the spool file
abbrev pub named_or : Option (List ℕ) → List ℕ → List ℕ
named_or None spoolfile = spoolfile
named_or (Some path) spoolfile = path

-- the path of the folder that is opened: the named one, or the spool file
abbrev pub folder_path : List PlainValue → Option (List ℕ) → List ℕ
folder_path values named =
    utf8_text (continued (text_of values Folder) (named_or named (text_of values Spoolfile)))

-- the kind of which new folders are
abbrev pub new_kind : List PlainValue → Kind
new_kind values = unwrap_or (kind_named (text_of values MboxType)) Mbox
