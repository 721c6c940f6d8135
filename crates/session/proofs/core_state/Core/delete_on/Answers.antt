use Rattle.std.proofs.Common.{◌∙◌, ap, false, map, sym}
use Rattle.std.proofs.lemmas.Result.{on_ok_weaker}
use Rattle.folder_letters.specs.Letters.{plain_letter}
use Rattle.index_functions.specs.declared.rule.Rule.{Rule}
use Rattle.session.specs.Acting.{on_or_left, performed_by}
use Rattle.session.specs.Core.{ground_of, plain_core}
use Rattle.session.proofs.ActingLemmas.{deletes}
use Rattle.session.proofs.CoreLemmas.{stands_by}
use Rattle.session.proofs.core_state.Core.delete_on.Goals as goal

pub returns-then-allowed-clause-core : goal.returns-then-allowed-clause-core
returns-then-allowed-clause-core g c =
    let mails = map plain_letter c.args.archive.now.items in
    let core = c.args.self.now in
    let done = (stands_by mails core c.perform.new.self _ c.in_ok-perform.ensures).same in
    on_ok_weaker c.go_on_or_leave.result (λ is later keeps.
    let ground = ground_of mails later c.args.window c.args.moment.0 in
    is later keeps ∙ ap (on_or_left ground (record c.rule.result { resolves = false })) done
    ∙ ap (λ (r : Rule). on_or_left ground (record r { resolves = false })
    (performed_by (record r { resolves = false }) mails c.args.function (plain_core core)))
    c.rule.ensures.rule
    ∙ deletes ground c.args.function (plain_core core)
    (sym (c.if-allowed.ensures mails c.requires.over.is_of))) c.go_on_or_leave.ensures.core
