use Rattle.std.proofs.Common.{◌∙◌, map, sym}
use Rattle.std.proofs.lemmas.Result.{on_ok_weaker}
use Rattle.folder_letters.specs.Letters.{plain_letter}
use Rattle.session.specs.Core.{ground_of, plain_core}
use Rattle.session.proofs.ActingLemmas.{follows}
use Rattle.session.proofs.GivenLemmas.{keeps_then}
use Rattle.session.proofs.core_state.Core.follow.Goals as goal

pub returns-clause-keeps : goal.returns-clause-keeps
returns-clause-keeps g c = keeps_then c.do_in_index.ensures.keeps c.display_at_cursor.ensures.keeps

pub returns-clause-core : goal.returns-clause-core
returns-clause-core g c =
    let mails = map plain_letter c.args.archive.now.items in
    on_ok_weaker c.display_at_cursor.result (λ is later keeps. is later keeps
    ∙ follows (ground_of mails later c.args.window c.args.moment.0)
    c.args.self.now.desk.view.cursor c.cursor-cursor.result c.cursor.result
    (plain_core c.do_in_index.new.self) _ c.cursor-cursor.ensures.value c.cursor.ensures.value
    (sym c.is_at.ensures ∙ c.if-is_at.false)
    (c.in_ok-do_in_index.ensures.core later (keeps_then c.display_at_cursor.ensures.keeps keeps)))
    c.display_at_cursor.ensures.core
