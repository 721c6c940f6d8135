use Rattle.std.proofs.Common.{◌∙◌, ap, map}
use Rattle.std.proofs.lemmas.Result.{on_ok_weaker}
use Rattle.folder_letters.specs.Letters.{plain_letter}
use Rattle.session.specs.Acting.{serving}
use Rattle.session.specs.Core.{ground_of}
use Rattle.session.proofs.ActingLemmas.{performing}
use Rattle.session.proofs.core_state.Core.do_in_index.Goals as goal

pub returns-clause-core : goal.returns-clause-core
returns-clause-core g c =
    let mails = map plain_letter c.args.archive.now.items in
    let done = performing c.args.window c.rule-rule.result mails c.args.function
    c.turn_over.new.self c.perform.new.self _ c.rule-rule.ensures.rule
    c.in_ok-turn_over.ensures.core c.in_ok-perform.ensures in
    on_ok_weaker c.serve.result (λ is later keeps. is later keeps
    ∙ ap (serving (ground_of mails later c.args.window c.args.moment.0)) done)
    c.serve.ensures.core
