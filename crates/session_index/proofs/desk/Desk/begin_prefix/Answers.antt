use Rattle.std.proofs.Common.{◌∙◌, ap, length, subst, sym}
use Rattle.index_view.specs.View.{IsOf}
use Rattle.session_index.proofs.desk.Desk.begin_prefix.Goals as goal

pub returns-then-len-eq0 : goal.returns-then-len-eq0
returns-then-len-eq0 c mails is =
    let none = ap length (sym c.in_ok-tagged.ensures) ∙ sym c.len-2.ensures ∙ c.if-len-eq0.true in
    record {
      is_of = subst (IsOf mails) (sym c.say.ensures.view) is;
      same = rw none c.say.ensures.desk;
    }
