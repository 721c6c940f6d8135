-- Kinds of folders and their names (Mutt's manual, "mbox_type").
use Rattle.std.specs.Prelude.{ℕ, List, bytes_eq, codes, Option, Some, None, if◌then◌else◌}
use Rattle.mail_base.specs.declared.kind.Kind.{Kind}
use Rattle.mail_base.specs.declared.kind.Kind.TheVariants.{Mbox, Maildir, Mh, Mmdf}

-- the name of a kind
abbrev pub name_of : Kind → List ℕ
name_of Mbox = codes "mbox"
name_of Maildir = codes "Maildir"
name_of Mh = codes "MH"
name_of Mmdf = codes "MMDF"

-- the kind of that name
abbrev pub kind_named : List ℕ → Option Kind
kind_named name =
    if bytes_eq name (name_of Mbox) then Some Mbox
    else (if bytes_eq name (name_of Maildir) then Some Maildir
    else (if bytes_eq name (name_of Mh) then Some Mh
    else (if bytes_eq name (name_of Mmdf) then Some Mmdf
    else None)))
