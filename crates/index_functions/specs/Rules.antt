-- What the folder says of functions.
use Rattle.std.specs.Prelude.{Bool, true, false}
use Rattle.mail_base.specs.declared.kind.Kind.{Kind}
use Rattle.mail_base.specs.declared.kind.Kind.TheVariants.{Mbox, Maildir, Mh, Mmdf}

-- folders of the kind are written; those of the MMDF form are not yet
abbrev pub is_written : Kind → Bool
is_written Mbox = true
is_written Maildir = true
is_written Mh = true
is_written Mmdf = false
