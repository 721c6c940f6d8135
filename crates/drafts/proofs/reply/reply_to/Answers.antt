use Rattle.std.proofs.Common.{◌∙◌, ap}
use Rattle.std.specs.List.{list_all}
use Rattle.drafts.specs.PlainDraft.{is_text}
use Rattle.drafts.proofs.ReplyLemmas.{quoted_texts}
use Rattle.drafts.proofs.reply.reply_to.Goals as goal

pub reply_with-requires-clause-body : goal.reply_with-requires-clause-body
reply_with-requires-clause-body c =
    ap (list_all is_text) c.in_ok-body.ensures
    ∙ quoted_texts c.args.indent.now _
