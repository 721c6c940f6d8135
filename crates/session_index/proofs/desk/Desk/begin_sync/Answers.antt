use Rattle.std.proofs.Common.{◌∙◌, Bool, ap, false, map, sym}
use Rattle.std.specs.Prelude.{if◌then◌else◌}
use Rattle.folder_letters.specs.Letters.{plain_letter}
use Rattle.index_functions.specs.declared.notice.Notice.TheVariants.{ReadOnly}
use Rattle.session_index.specs.Desk.{plain_desk, said}
use Rattle.session_index.specs.Syncing.{purge_asked}
use Rattle.session_index.proofs.DeskLemmas.{beside_holds}
use Rattle.session_index.proofs.desk.Desk.begin_sync.Goals as goal

pub returns-then-not-is_written : goal.returns-then-not-is_written
returns-then-not-is_written c =
    let mails = map plain_letter c.args.archive.now.items in
    let d = c.args.self.now in
    let written = sym c.is_written.ensures ∙ c.if-not-is_written.true in
    beside_holds mails d c.say.new.self _ c.requires c.say.ensures.view (c.say.ensures.desk
    ∙ ap (λ (is : Bool). if is then purge_asked c.args.rule mails false (plain_desk d)
    else said ReadOnly (plain_desk d)) (sym written))
