use Rattle.std.proofs.Common.{◌∙◌, map}
use Rattle.folder_letters.specs.Letters.{plain_letter}
use Rattle.folder_core.specs.Directory.{path_in}
use Rattle.folder_core.specs.Keeping.{mail_of}
use Rattle.folder_drivers.specs.MhLeft.{stamp_known}
use Rattle.mh_syncs.proofs.Keys.{bears_as, letter_key}
use Rattle.mh_syncs.proofs.Causing.{unlike_as}
use Rattle.mh_syncs.proofs.stamps.check_changed.Goals as goal

pub returns-in-Ok-clause-bears : goal.returns-in-Ok-clause-bears
returns-in-Ok-clause-bears g c =
    bears_as c.stamp_known-stamp.result
    (stamp_known c.args.known.now.listing c.args.known.now.stamps c.args.changed.id.0)
    (path_in c.path.result.now c.as_slice-key.result.now)
    (path_in c.args.known.now.path
    (mail_of (map plain_letter c.args.archive.now) c.args.changed.id.0).key) _ _
    (c.stamp_known-stamp.ensures
    ∙ (λ i. stamp_known ((c.as_slice-listing.ensures ∙ c.listing.ensures) i)
    ((c.as_slice.ensures ∙ c.stamps.ensures) i) c.args.changed.id.0))
    (λ i. path_in (c.path.ensures i) ((c.as_slice-key.ensures
    ∙ letter_key c.args.archive.now c.args.changed.id.0 _ c.requires) i))
    c.in-Ok.ensures.bears

pub returns-in-Err-clause-cause : goal.returns-in-Err-clause-cause
returns-in-Err-clause-cause g c =
    unlike_as c.path.result.now c.args.known.now.path c.as_slice-key.result.now
    (mail_of (map plain_letter c.args.archive.now) c.args.changed.id.0).key
    c.stamp_known-stamp.result
    (stamp_known c.args.known.now.listing c.args.known.now.stamps c.args.changed.id.0)
    c.in-Err.why _ _ c.path.ensures
    (c.as_slice-key.ensures
    ∙ letter_key c.args.archive.now c.args.changed.id.0 _ c.requires)
    (c.stamp_known-stamp.ensures
    ∙ (λ i. stamp_known ((c.as_slice-listing.ensures ∙ c.listing.ensures) i)
    ((c.as_slice.ensures ∙ c.stamps.ensures) i) c.args.changed.id.0))
    c.in-Err.ensures.cause
