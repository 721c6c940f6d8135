use Rattle.std.proofs.Common.{◌∙◌}
use Rattle.maildir_appends.proofs.Naming.{made_utf8, utf8_if}
use Rattle.maildir_appends.proofs.places.name_of.Goals as goal

pub returns-clause-text : goal.returns-clause-text
returns-clause-text c =
    utf8_if c.make_name.result _ c.make_name.ensures
    (made_utf8 c.args.base.now c.in_ok-base.base.items c.new.result.items c.args.flags
    (c.in_ok-base.ensures ∙ c.as_bytes.ensures.value) c.new.ensures c.requires)
