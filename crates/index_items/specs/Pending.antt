-- What the user changed of a message and the folder does not hold yet.
use Rattle.std.specs.Prelude.{◌&&◌, ◌||◌, Bool, false, not, Option, unwrap_or}
use Rattle.mail_base.specs.Flags.{applied}
use Rattle.mail_base.specs.declared.flags.Flags.{Flags}
use Rattle.index_items.specs.declared.pending.Pending.{Pending}

-- the flags to add and to clear, and whether the message is marked deleted
pub record PlainPending : Type 0 where
  pub added : Flags
  pub cleared : Flags
  pub deleted : Bool

-- two sets of flags, flag by flag
abbrev pub each : (Bool → Bool → Bool) → Flags → Flags → Flags
each rule f g = record {
  seen = rule f.seen g.seen;
  aged = rule f.aged g.aged;
  replied = rule f.replied g.replied;
  flagged = rule f.flagged g.flagged;
  passed = rule f.passed g.passed;
  draft = rule f.draft g.draft;
  trashed = rule f.trashed g.trashed;
}

-- the flags of either set
abbrev pub joined : Flags → Flags → Flags
joined f g = each (λ a b. a || b) f g

-- the flags of both sets
abbrev pub shared : Flags → Flags → Flags
shared f g = each (λ a b. a && b) f g

-- the flags of the first set alone
abbrev pub without : Flags → Flags → Flags
without f g = each (λ a b. a && not b) f g

abbrev pub no_flags : Flags
no_flags = record {
  seen = false;
  aged = false;
  replied = false;
  flagged = false;
  passed = false;
  draft = false;
  trashed = false;
}

-- nothing was changed
abbrev pub nothing : PlainPending
nothing = record { added = no_flags; cleared = no_flags; deleted = false }

-- a further change: what it clears is added no longer, and what it adds is cleared no longer
abbrev pub changed : Flags → Flags → Option Bool → PlainPending → PlainPending
changed added cleared deleted p = record {
  added = joined (without p.added cleared) added;
  cleared = joined (without p.cleared added) cleared;
  deleted = unwrap_or deleted p.deleted;
}

-- the flags of a message as they are shown, of those that the folder holds
abbrev pub shown : Flags → PlainPending → Flags
shown held p = applied held p.added p.cleared

-- what is left to be changed once the folder holds these flags
abbrev pub left_by : Flags → PlainPending → PlainPending
left_by held p = record {
  added = without p.added held;
  cleared = shared p.cleared held;
  deleted = p.deleted;
}

-- For the code alone.

-- what was changed, as contracts see it
abbrev pub plain_pending : Pending → PlainPending
plain_pending p = record {
  added = p.delta.added;
  cleared = p.delta.cleared;
  deleted = p.deleted;
}
