use Rattle.std.proofs.Common.{◌∙◌, sym}
use Rattle.mail_base.specs.Series.{plain_texts}
use Rattle.message_text.specs.Weeding.{plain_weeding}
use Rattle.message_text.proofs.PartsLemmas.{nothing_behind}
use Rattle.message_text.proofs.message.add_body.Goals as goal

pub returns-then-is_empty : goal.returns-then-is_empty
returns-then-is_empty c =
    let source = c.args.source.now in
    nothing_behind 33 (plain_weeding source.weed.now) source.raw.now source.parts.now
    (plain_texts c.args.lines.now) (sym c.is_empty.ensures ∙ c.if-is_empty.true)
