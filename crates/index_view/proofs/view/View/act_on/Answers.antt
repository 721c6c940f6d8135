use Rattle.std.proofs.Common.{◌∙◌, ap, length, nat_eq, subst, sym}
use Rattle.std.specs.List.{IsDistinct}
use Rattle.index_items.specs.Items.{numbers}
use Rattle.index_listed.specs.Heads.{AreWithin}
use Rattle.index_view.proofs.ActingLemmas.{all_acted_numbers}
use Rattle.index_view.proofs.view.View.act_on.Goals as goal

pub put-requires-clause-within : goal.put-requires-clause-within
put-requires-clause-within c =
    subst (AreWithin (length c.args.self.now.heads)) (sym (ap numbers c.in_ok-items.ensures
    ∙ all_acted_numbers c.args.act c.args.ids.now c.args.self.now.items)) c.requires.within

pub put-requires-clause-apart : goal.put-requires-clause-apart
put-requires-clause-apart c =
    subst (IsDistinct nat_eq) (sym (ap numbers c.in_ok-items.ensures
    ∙ all_acted_numbers c.args.act c.args.ids.now c.args.self.now.items)) c.requires.apart
