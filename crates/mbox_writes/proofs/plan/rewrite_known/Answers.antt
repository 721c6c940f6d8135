use Rattle.std.proofs.Common.{◌∙◌}
use Rattle.index_items.specs.Changes.{plain_changes}
use Rattle.mbox_writes.proofs.Planning.{rewrites}
use Rattle.mbox_writes.proofs.plan.rewrite_known.Goals as goal

pub returns-in-Ok-rewrite-clause-ok : goal.returns-in-Ok-rewrite-clause-ok
returns-in-Ok-rewrite-clause-ok c =
    rewrites c.args.known.now (plain_changes c.args.changes.now) c.args.bytes.now
    c.in-Ok-rewrite.rewritten c.in-Ok.regions.items c.as_slice.result.now c.as_slice-2.result.now
    c.as_slice-listing.result.now (c.as_slice.ensures ∙ c.bytes.ensures) c.as_slice-2.ensures
    (c.as_slice-listing.ensures ∙ c.listing.ensures) c.in-Ok.ensures.front c.in-Ok.ensures.known
    c.in-Ok-rewrite.ensures.at c.in-Ok-rewrite.ensures.tail
