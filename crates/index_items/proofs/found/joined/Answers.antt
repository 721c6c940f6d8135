use Rattle.std.proofs.Common.{ap, map, subst}
use Rattle.std.proofs.lemmas.Fn.{always_returns_same}
use Rattle.std.proofs.lemmas.List.Sorted.{IsPermutation-map}
use Rattle.std.specs.Ordering.{is_lt}
use Rattle.std.specs.List.Sorted.{IsPermutation}
use Rattle.folder_letters.specs.Letters.{plain_letter}
use Rattle.index_items.specs.Found as spec
use Rattle.index_items.specs.Items.{plain_item, plain_items}
use Rattle.index_items.proofs.FoundLemmas.{listed_order, sorted_plain}
use Rattle.index_items.proofs.found.joined.Goals as goal

pub returns : goal.returns
returns c =
    let mails = map plain_letter c.args.archive.now.items in
    record {
      same = subst (λ xs. IsPermutation xs (plain_items c.sort_by.new.self.items))
          c.in_ok-more.ensures
          (IsPermutation-map plain_item _ _ c.sort_by.ensures.permutation);
      sorted = sorted_plain mails c.sort_by.new.self.items
          (c.in_ok-sort_by.ensures.sorted
          (λ a b. spec.is_listed_before mails (plain_item a) (plain_item b)) (listed_order mails)
          (always_returns_same _ _ _
          (λ a r f' k. (ap is_lt k.met.1, λ i. record { 0 = k.met.0 i }))));
    }
