use Rattle.std.proofs.Common.{◌≡◌, ◌∙◌, Some, subst, sym, true}
use Rattle.index_listed.specs.Cursor.{is_seen}
use Rattle.index_view.specs.View.{IsOf, PlainView, visible_of}
use Rattle.index_view.proofs.ViewLemmas.{moved_of}
use Rattle.index_view.proofs.view.View.move_to.Goals as goal

pub returns-then-is_seen-clause-is_of : goal.returns-then-is_seen-clause-is_of
returns-then-is_seen-clause-is_of c mails of =
    let id = c.args.id in
    let seen : is_seen (visible_of c.args.self.now) id ≡ true =
    sym c.is_seen-is_seen.ensures ∙ c.if-is_seen.true in
    subst (λ (w : PlainView). IsOf mails (record w { cursor = Some id })) (sym c.self.view_is)
    (moved_of mails c.args.self.now id of seen)
