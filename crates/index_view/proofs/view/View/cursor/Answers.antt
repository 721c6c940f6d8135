use Rattle.std.proofs.Common.{ap, subst, sym}
use Rattle.index_listed.specs.Cursor.{Stands}
use Rattle.index_listed.proofs.CursorLemmas.{stands_nowhere, stands_seen}
use Rattle.index_view.specs.View.{PlainView, visible_of}
use Rattle.index_view.proofs.view.View.cursor.Goals as goal

pub returns-clause-seen : goal.returns-clause-seen
returns-clause-seen c mails of =
    let v = c.args.self.now in
    stands_seen (visible_of v) _ (subst (Stands (visible_of v))
    (sym (ap (λ (w : PlainView). w.cursor) c.self.view_is)) of.stands)

pub returns-clause-none : goal.returns-clause-none
returns-clause-none c mails of =
    let v = c.args.self.now in
    stands_nowhere (visible_of v) _ (subst (Stands (visible_of v))
    (sym (ap (λ (w : PlainView). w.cursor) c.self.view_is)) of.stands)
