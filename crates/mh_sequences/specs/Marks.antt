-- What the sequences of a folder say of its messages.
use Rattle.std.specs.Prelude.{◌≡◌, ℕ, Bool, false, not, List}
use Rattle.mail_base.specs.declared.flags.Flags.{Flags}
use Rattle.folder_core.specs.MhSequences.{mh_flags}
use Rattle.mh_sequences.specs.declared.marks.Marks.{Marks}
use Rattle.mh_sequences.specs.declared.members.Members.{Members}
use Rattle.mh_sequences.specs.Ranges.{any_holds}

-- a number is one of the members
abbrev pub has_member : Members → ℕ → Bool
has_member members n = any_holds n members.ranges.items

-- the flags of a message: seen is what is not marked as unseen
abbrev pub flags_marked : Marks → ℕ → Flags
flags_marked marks n = record {
  seen = not (has_member marks.unseen n);
  aged = not (has_member marks.unseen n);
  replied = has_member marks.replied n;
  flagged = has_member marks.flagged n;
  passed = false;
  draft = false;
  trashed = false;
}

-- the flags of each message are those by a file with these bytes
abbrev pub AreMarks : List ℕ → Marks → Type 0
AreMarks bytes marks = (n : ℕ) → flags_marked marks n ≡ mh_flags bytes n
