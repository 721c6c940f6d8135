use Rattle.std.proofs.Common.{◌∙◌, map}
use Rattle.folder_letters.specs.Letters.{plain_letter}
use Rattle.folder_core.specs.Keeping.{mail_of}
use Rattle.index_items.specs.Changes.{plain_change}
use Rattle.mh_syncs.specs.Parts.{gone_at}
use Rattle.mh_syncs.proofs.Keys.{alter_went, discard_went, letter_key}
use Rattle.mh_syncs.proofs.Leaving.{none_went}
use Rattle.mh_syncs.proofs.away.take_changed.Goals as goal

pub returns-in-Alter-clause-takes : goal.returns-in-Alter-clause-takes
returns-in-Alter-clause-takes g c =
    alter_went c.args.purge c.args.path.now
    (mail_of (map plain_letter c.args.archive.now) c.args.changed.id.0).key
    c.args.changed.change c.in-Alter.field-0 _ c.in-Alter.is

pub returns-in-Ok-clause-takes : goal.returns-in-Ok-clause-takes
returns-in-Ok-clause-takes g c =
    discard_went c.args.purge c.args.path.now c.as_slice-key.result.now
    (mail_of (map plain_letter c.args.archive.now) c.args.changed.id.0).key
    c.args.changed.change _ _ c.in-Discard.is
    (c.as_slice-key.ensures ∙ letter_key c.args.archive.now c.args.changed.id.0 _ c.requires)
    c.in-Ok.ensures.takes

pub returns-in-Err-clause-takes : goal.returns-in-Err-clause-takes
returns-in-Err-clause-takes g c =
    none_went c.args.purge c.args.path.now
    (gone_at (mail_of (map plain_letter c.args.archive.now) c.args.changed.id.0).key
    (plain_change c.args.changed.change)) c.in-Err.why _ _ c.in-Err.ensures.takes
