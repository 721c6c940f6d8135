-- Listing order is an order.
use Rattle.std.proofs.Common.{◌∙◌, ◌+◌, ◌<◌, List, [], ◌∷◌, ap, arith, length, slice_index_or}
use Rattle.std.proofs.Common.{subst}
use Rattle.std.proofs.lemmas.Cmp.{nat_cmp_total, nat_list_cmp_total, on_total, then_total}
use Rattle.std.proofs.lemmas.List.{get_or-map, length-map}
use Rattle.std.proofs.lemmas.List.Sorted.{ranks_by}
use Rattle.std.specs.Cmp.{IsStrictWeakOrder, IsTotalOrder}
use Rattle.std.specs.List.Sorted.{IsSortedBy}
use Rattle.folder_letters.specs.Letters.{Mail}
use Rattle.index_items.specs.Found.{is_listed_before, key_at, listing_cmp, order_at}
use Rattle.index_items.specs.Items.{PlainItem, plain_item, plain_items}
use Rattle.index_items.specs.declared.item.Item.{Item}

listing_total : (mails : List Mail) → IsTotalOrder (listing_cmp mails)
listing_total mails =
    then_total (then_total (on_total (λ (i : PlainItem). order_at mails i.id.0) nat_cmp_total)
    (on_total (λ (i : PlainItem). key_at mails i.id.0) nat_list_cmp_total))
    (on_total (λ (i : PlainItem). i.id.0) nat_cmp_total)

pub listed_order : (mails : List Mail)
    → IsStrictWeakOrder (λ (a b : Item). is_listed_before mails (plain_item a) (plain_item b))
listed_order mails = ranks_by (listing_total mails) plain_item

pub sorted_plain : (mails : List Mail) (items : List Item)
    → IsSortedBy (λ a b. is_listed_before mails (plain_item a) (plain_item b)) items
    → IsSortedBy (is_listed_before mails) (plain_items items)
sorted_plain mails [] sorted k d low high = absurd (omega arith)
sorted_plain mails (i ∷ items) sorted k d low high =
    let inside = subst (λ n. k + 1 < n) (length-map (i ∷ items) plain_item) high in
    let less : k < length (i ∷ items) = omega arith in
    ap (λ x. is_listed_before mails x (slice_index_or (plain_items (i ∷ items)) k d))
    (get_or-map plain_item (i ∷ items) (k + 1) i d inside)
    ∙ ap (λ x. is_listed_before mails (plain_item (slice_index_or (i ∷ items) (k + 1) i)) x)
    (get_or-map plain_item (i ∷ items) k i d less)
    ∙ sorted k i low inside
