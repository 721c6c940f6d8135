-- The files of commands that a run begins with.
use Rattle.std.specs.Prelude.{ℕ, List, [], ◌∷◌, ◌++◌, Option, Some, None, codes, map}
use Rattle.mail_base.specs.Shown.{utf8_text}
use Rattle.mail_base.specs.declared.kind.Kind.{Kind}
use Rattle.mail_base.specs.declared.kind.Kind.TheVariants.{Mbox, Maildir, Mh, Mmdf}
use Rattle.session_state.specs.declared.frame.Origin.TheVariants.{Default, Named, Typed}
use Rattle.session_state.specs.Frames.{PlainFrame, unread, with_text}

-- the file of commands: the named one, or one that need not be there
abbrev pub rc_frame : Option (List ℕ) → PlainFrame
rc_frame None = unread (codes ".muttrc") Default 0
rc_frame (Some path) = unread (utf8_text path) Named 0

-- a command of the command line
abbrev pub typed_frame : List ℕ → PlainFrame
typed_frame text = with_text text (unread (codes "-e") Typed 0)

-- the command that sets the kind of new folders
abbrev pub kind_command : Kind → List ℕ
kind_command Mbox = codes "set mbox_type=mbox"
kind_command Maildir = codes "set mbox_type=Maildir"
kind_command Mh = codes "set mbox_type=MH"
kind_command Mmdf = codes "set mbox_type=MMDF"

-- the command that sets the kind of new folders, if one is given
abbrev pub kind_frames : Option Kind → List PlainFrame
kind_frames None = []
kind_frames (Some kind) = typed_frame (kind_command kind) ∷ []

-- the files of commands, in the order in which they are run
abbrev pub first_frames : Option (List ℕ) → List (List ℕ) → Option Kind → List PlainFrame
first_frames rc commands kind = rc_frame rc ∷ (map typed_frame commands ++ kind_frames kind)
