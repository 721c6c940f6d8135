use Rattle.std.proofs.Common.{◌≡◌, ◌∙◌, map, subst, sym, true}
use Rattle.folder_letters.specs.Letters.{plain_letter}
use Rattle.index_view.specs.View.{IsOf}
use Rattle.index_functions.specs.Functions.{writes}
use Rattle.session_index.proofs.desk.Desk.perform.Goals as goal

pub returns-then-lacks_message : goal.returns-then-lacks_message
returns-then-lacks_message c =
    let mails = map plain_letter c.args.archive.now.items in
    let is = c.requires.is_of in
    let lacks = sym (c.lacks_message.ensures mails is) ∙ c.if-lacks_message.true in
    record {
      is_of = subst (IsOf mails) (sym c.refuse.ensures.view) is;
      same = rw lacks c.refuse.ensures.desk;
    }

pub returns-then-self : goal.returns-then-self
returns-then-self c =
    let mails = map plain_letter c.args.archive.now.items in
    let is = c.requires.is_of in
    let lacks = sym (c.lacks_message.ensures mails is) ∙ c.if-lacks_message.false in
    let writing : writes c.args.function ≡ true = sym c.writes.ensures ∙ c.if-writes.true in
    let says = rw c.if-self.true at c.refuse-then-self.ensures.desk in
    record {
      is_of = subst (IsOf mails) (sym c.refuse-then-self.ensures.view) is;
      same = rw lacks (rw writing (rw c.if-self.true says));
    }
