-- The listing of what a scan leaves of the messages is the one that it found.
use Rattle.std.proofs.Common.{◌≡◌, ◌∙◌, ◌+◌, ◌≤◌, ◌<◌, ◌++◌, ◌&&◌, ◌==◌, ◌⊎◌, inl, inr, ℕ, zero}
use Rattle.std.proofs.Common.{suc, Bool, true, false, not, List, [], ◌∷◌, Option, Some, None, ap}
use Rattle.std.proofs.Common.{arith, filter_map, find, if◌then◌else◌, is_lt, is_some, map, nat_cmp}
use Rattle.std.proofs.Common.{nat_eq, option_map, refl, subst, sym}
use Rattle.std.specs.Bool.{beq}
use Rattle.std.specs.Cmp.{IsStrictWeakOrder, IsTotalOrder}
use Rattle.std.specs.Cmp.Lexicographic.{slice_cmp}
use Rattle.std.specs.List.{IsDistinct, cons_option, filter}
use Rattle.std.specs.Ordering.{ordering_reverse, ordering_then}
use Rattle.std.specs.declared.cmp.Ordering.{Ordering}
use Rattle.std.specs.declared.cmp.Ordering.TheVariants.{Less, Equal, Greater}
use Rattle.std.proofs.lemmas.Bool.{and_parts, both_ways, eq-eqb, eqb-true, false_from_ne_true}
use Rattle.std.proofs.lemmas.Bool.{not-false, not_from_false, not-true}
use Rattle.std.proofs.lemmas.Cmp.{nat_cmp_total, nat_list_cmp_total, on_total, ranked, then_total}
use Rattle.std.proofs.lemmas.List.{map-append}
use Rattle.std.proofs.lemmas.List.Elements.{All-filter, All-map, All-same}
use Rattle.std.proofs.lemmas.List.Sorted.{ranks_by}
use Rattle.mail_base.specs.Ordered.{IsIn, in_order_by}
use Rattle.mail_base.specs.declared.flags.Flags.{Flags}
use Rattle.mail_base.specs.declared.kind.Id.{Id}
use Rattle.mail_base.proofs.OrderedLemmas.{in_order_held, then_equal}
use Rattle.folder_letters.specs.Letters.{Mail}
use Rattle.folder_letters.specs.Listings.{ids_from}
use Rattle.folder_letters.specs.declared.listing.Found.{Found}
use Rattle.folder_letters.specs.declared.listing.Listed.{Listed}
use Rattle.folder_core.specs.Keeping.{IsDifference, had_other_flags, ids_differ, lists_id, mail_of}
use Rattle.folder_core.specs.Keeping.{mails_of, same_flags}
use Rattle.folder_core.specs.Right.{mail_before, mails_rise}
use Rattle.folder_core.proofs.DifferenceLemmas.{lists_far}
use Rattle.folder_core.proofs.RightLemmas.{rise_differ}
use Rattle.index_items.specs.Found.{AreListedBelow, IsFoundBelow, came_items, flags_for, is_gone}
use Rattle.index_items.specs.Found.{kept_item, kept_items, key_at, listing_cmp, order_at}
use Rattle.index_items.specs.Found.{reflagged_item}
use Rattle.index_items.specs.Items.{PlainItem, listed, numbers}
use Rattle.listing_laws.specs.Listing.{joined_items, listed_of, listing_of}
use Rattle.listing_laws.proofs.MemberLemmas.{append_in, filter_in, filter_map_in, found_in}
use Rattle.listing_laws.proofs.MemberLemmas.{in_append, in_filter, in_filter_map, none_found}
use Rattle.listing_laws.proofs.MemberLemmas.{none_passes, same_kept}
use Rattle.listing_laws.proofs.RiseLemmas.{NeverTies, Rises, in_order_was, map_order, one_rise}
use Rattle.listing_laws.proofs.RiseLemmas.{rises_order, through}
use Rattle.listing_laws.proofs.IdLemmas.{apart_differ, differ_apart, differ_append, differ_filter}
use Rattle.listing_laws.proofs.IdLemmas.{differ_head, differ_map, differ_one, differ_parts}
use Rattle.listing_laws.proofs.IdLemmas.{lists_at, lists_in, lists_map}

-- What is left of listed messages.

beq_same : (a b : Bool) → beq a b ≡ true → a ≡ b
beq_same true true is = refl
beq_same true false is = cc
beq_same false true is = cc
beq_same false false is = refl

flags_same : (f g : Flags) → same_flags f g ≡ true → f ≡ g
flags_same f g is =
    let six = and_parts _ (beq f.trashed g.trashed) is in
    let five = and_parts _ (beq f.draft g.draft) six.0 in
    let four = and_parts _ (beq f.passed g.passed) five.0 in
    let three = and_parts _ (beq f.flagged g.flagged) four.0 in
    let two = and_parts _ (beq f.replied g.replied) three.0 in
    let one = and_parts (beq f.seen g.seen) (beq f.aged g.aged) two.0 in
    λ i. record {
      seen = beq_same f.seen g.seen one.0 i;
      aged = beq_same f.aged g.aged one.1 i;
      replied = beq_same f.replied g.replied two.1 i;
      flagged = beq_same f.flagged g.flagged three.1 i;
      passed = beq_same f.passed g.passed four.1 i;
      draft = beq_same f.draft g.draft five.1 i;
      trashed = beq_same f.trashed g.trashed six.1 i;
    }

same_listed : (l m : Listed) → l.id.0 ≡ m.id.0 → l.flags ≡ m.flags → l ≡ m
same_listed l m ids flags = λ i. record { id = record { 0 = ids i }; flags = flags i }

-- the message of a listing that has the id of this one
abbrev pub listed_again : List Listed → Listed → Option Listed
listed_again new l = find (λ m. nat_eq l.id.0 m.id.0) new

again_id : (new : List Listed) (l m : Listed) → listed_again new l ≡ Some m → m.id.0 ≡ l.id.0
again_id new l m is = sym (eqb-true l.id.0 m.id.0 (found_in (λ n. nat_eq l.id.0 n.id.0) m new is).1)

again_in : (new : List Listed) (l m : Listed) → listed_again new l ≡ Some m → IsIn m new
again_in new l m is = (found_in (λ n. nat_eq l.id.0 n.id.0) m new is).0

never_again : (new : List Listed) (l m : Listed) → listed_again new l ≡ None → IsIn m new
    → l.id.0 ≡ m.id.0 → ⊥
never_again new l m none held same =
    both_ways (nat_eq l.id.0 m.id.0) (none_found (λ n. nat_eq l.id.0 n.id.0) m new none held)
    (eq-eqb l.id.0 m.id.0 same)

again_is : (new : List Listed) → ids_differ new ≡ true → (l m : Listed) → IsIn m new
    → l.id.0 ≡ m.id.0 → listed_again new l ≡ Some m
again_is new differ l m held same = by_found (listed_again new l) refl
  where
    by_found : (o : Option Listed) → listed_again new l ≡ o → o ≡ Some m
    by_found None is = absurd (never_again new l m is held same)
    by_found (Some n) is = ap Some (differ_one new differ n m (again_in new l n is) held
        (again_id new l n is ∙ same))

gone_again : (gone : List Listed) (l : Listed)
    → is_gone (map (λ m. m.id) gone) l.id.0 ≡ is_some (listed_again gone l)
gone_again [] l = refl
gone_again (m ∷ gone) l = by_test (nat_eq l.id.0 m.id.0) (gone_again gone l)
  where
    by_test : (t : Bool)
        → is_gone (map (λ n. n.id) gone) l.id.0 ≡ is_some (listed_again gone l)
        → is_some (option_map (λ id. id)
        (if t then Some m.id else find (λ id. nat_eq l.id.0 id.0) (map (λ n. n.id) gone)))
        ≡ is_some (if t then Some m else listed_again gone l)
    by_test true more = refl
    by_test false more = more

-- the listing has no message with the id of this one
abbrev pub lacks : List Listed → Listed → Bool
lacks listing l = not (lists_id listing l.id.0)

module _ (old new : List Listed) (found : Found) (difference : IsDifference old new found)
    (differ : ids_differ new ≡ true) where
  gone_is : (l : Listed)
      → is_gone found.gone.items l.id.0 ≡ is_some (listed_again (filter (lacks new) old) l)
  gone_is l = ap (λ (gone : List Id). is_gone gone l.id.0) difference.gone
      ∙ gone_again (filter (lacks new) old) l

  gone_there : (l : Listed) → IsIn l old → listed_again new l ≡ None
      → is_gone found.gone.items l.id.0 ≡ true
  gone_there l held none =
      gone_is l ∙ by_found (listed_again (filter (lacks new) old) l) refl
    where
      not_new : lists_id new l.id.0 ≡ false
      not_new = false_from_ne_true (lists_id new l.id.0) (λ wrong.
          let at = lists_at new l.id.0 wrong in
          never_again new l at.message none at.held (sym at.id_is))

      by_found : (o : Option Listed) → listed_again (filter (lacks new) old) l ≡ o
          → is_some o ≡ true
      by_found (Some m) is = refl
      by_found None is = absurd (never_again (filter (lacks new) old) l l is
          (filter_in (lacks new) l old held (not_from_false (lists_id new l.id.0) not_new)) refl)

  gone_not : (l m : Listed) → listed_again new l ≡ Some m
      → is_gone found.gone.items l.id.0 ≡ false
  gone_not l m again = gone_is l ∙ by_found (listed_again (filter (lacks new) old) l) refl
    where
      by_found : (o : Option Listed) → listed_again (filter (lacks new) old) l ≡ o
          → is_some o ≡ false
      by_found None is = refl
      by_found (Some n) is =
          let at = in_filter (lacks new) n old (again_in (filter (lacks new) old) l n is) in
          let same = again_id (filter (lacks new) old) l n is ∙ sym (again_id new l m again) in
          absurd (both_ways (lists_id new n.id.0) (not-true (lists_id new n.id.0) at.1)
          (ap (lists_id new) same ∙ lists_in new m (again_in new l m again)))

  -- a message that is listed again has the flags that are listed
  flags_again : (i : PlainItem) (m : Listed) → IsIn (listed_of i) old
      → listed_again new (listed_of i) ≡ Some m
      → listed_of (reflagged_item i (flags_for found.reflagged.items i.id.0)) ≡ m
  flags_again i m held again =
      by_found (listed_again found.reflagged.items (listed_of i)) refl
    where
      same : i.id.0 ≡ m.id.0
      same = sym (again_id new (listed_of i) m again)

      there : IsIn m new
      there = again_in new (listed_of i) m again

      by_found : (o : Option Listed) → listed_again found.reflagged.items (listed_of i) ≡ o
          → listed_of (reflagged_item i (option_map (λ l. l.flags) o)) ≡ m
      by_found (Some n) is =
          let at = in_filter (had_other_flags old) n new
          (subst (IsIn n) difference.reflagged
          (again_in found.reflagged.items (listed_of i) n is)) in
          let one : n ≡ m = differ_one new differ n m at.0 there
          (again_id found.reflagged.items (listed_of i) n is ∙ same) in
          same_listed (record { id = i.id; flags = n.flags }) m same
          (ap (λ (l : Listed). l.flags) one)
      by_found None none = same_listed (listed_of i) m same (flags_same i.flags m.flags alike)
        where
          no_others : had_other_flags old m ≡ false
          no_others = false_from_ne_true (had_other_flags old m) (λ wrong.
              never_again found.reflagged.items (listed_of i) m none
              (subst (IsIn m) (sym difference.reflagged)
              (filter_in (had_other_flags old) m new there wrong)) same)

          alike : same_flags i.flags m.flags ≡ true
          alike = not-false (same_flags i.flags m.flags)
              (sym (ap (λ (t : Bool). t && not (same_flags i.flags m.flags))
              (eq-eqb i.id.0 m.id.0 same))
              ∙ none_passes (λ l. l.id.0 == m.id.0 && not (same_flags l.flags m.flags))
              (listed_of i) old no_others held)

  -- of the messages that were listed those are left that are listed again
  kept_again : (items : List PlainItem) → ((l : Listed) → IsIn l (listing_of items) → IsIn l old)
      → listing_of (kept_items found items) ≡ filter_map (listed_again new) (listing_of items)
  kept_again [] held = refl
  kept_again (i ∷ items) held =
      by_found (listed_again new (listed_of i)) refl
      (kept_again items (λ l later. held l (inr later)))
    where
      there : IsIn (listed_of i) old
      there = held (listed_of i) (inl refl)

      by_found : (o : Option Listed) → listed_again new (listed_of i) ≡ o
          → listing_of (kept_items found items)
          ≡ filter_map (listed_again new) (listing_of items)
          → listing_of (kept_item (is_gone found.gone.items i.id.0)
          (flags_for found.reflagged.items i.id.0) i ++ kept_items found items)
          ≡ cons_option o (filter_map (listed_again new) (listing_of items))
      by_found None is more =
          ap (λ (gone : Bool). listing_of (kept_item gone
          (flags_for found.reflagged.items i.id.0) i ++ kept_items found items))
          (gone_there (listed_of i) there is) ∙ more
      by_found (Some m) is more =
          let same = flags_again i m there is in
          ap (λ (gone : Bool). listing_of (kept_item gone
          (flags_for found.reflagged.items i.id.0) i ++ kept_items found items))
          (gone_not (listed_of i) m is) ∙ (λ j. same j ∷ more j)

-- Listing order, of messages as they are listed.

order_same : (mails : List Mail) (n : ℕ) → order_at mails n ≡ (mail_of mails n).order
order_same [] n = refl
order_same (mail ∷ mails) zero = refl
order_same (mail ∷ mails) (suc n) = order_same mails n

key_same : (mails : List Mail) (n : ℕ) → key_at mails n ≡ (mail_of mails n).key
key_same [] n = refl
key_same (mail ∷ mails) zero = refl
key_same (mail ∷ mails) (suc n) = key_same mails n

then_less : (r s : Ordering) → is_lt r ≡ true → is_lt (ordering_then r s) ≡ true
then_less Less s is = refl
then_less Equal s is = absurd (both_ways false refl is)
then_less Greater s is = absurd (both_ways false refl is)

module _ (mails : List Mail) where
  abbrev pub listed_cmp : Listed → Listed → Ordering
  listed_cmp l m = listing_cmp mails (listed l.id l.flags) (listed m.id m.flags)

  -- a listed message stands before another in listing order
  abbrev pub lists_before : Listed → Listed → Bool
  lists_before l m = is_lt (listed_cmp l m)

  listed_total : IsTotalOrder listed_cmp
  listed_total =
      then_total (then_total (on_total (λ (l : Listed). order_at mails l.id.0) nat_cmp_total)
      (on_total (λ (l : Listed). key_at mails l.id.0) nat_list_cmp_total))
      (on_total (λ (l : Listed). l.id.0) nat_cmp_total)

  listed_weak : IsStrictWeakOrder lists_before
  listed_weak = ranks_by listed_total (λ (l : Listed). l)

  one_before : (l m : Listed) → (l.id.0 ≡ m.id.0 → ⊥) → lists_before m l ≡ false
      → lists_before l m ≡ true
  one_before l m other above = by_order (listed_cmp m l) refl above
    where
      by_order : (r : Ordering) → listed_cmp m l ≡ r → is_lt r ≡ false → lists_before l m ≡ true
      by_order Less is wrong = absurd (both_ways true wrong refl)
      by_order Equal is low =
          absurd (other (sym (ranked m.id.0 l.id.0 Equal (sym (then_equal
          (ordering_then (nat_cmp (order_at mails m.id.0) (order_at mails l.id.0))
          (slice_cmp nat_cmp (key_at mails m.id.0) (key_at mails l.id.0)))
          (nat_cmp m.id.0 l.id.0) is).1))))
      by_order Greater is low =
          ap is_lt (listed_total.antisymm l m ∙ ap ordering_reverse is)

  never_ties : (listing : List Listed) → ids_differ listing ≡ true
      → NeverTies lists_before listing
  never_ties [] differ = tt
  never_ties (l ∷ listing) differ = (
    (λ m held above. one_before l m (differ_head l m listing differ held) above),
    never_ties listing (differ_parts l listing differ).1,
  )

  mail_first : (l m : Listed) → mail_before (mail_of mails l.id.0) (mail_of mails m.id.0) ≡ true
      → lists_before l m ≡ true
  mail_first l m first =
      then_less (ordering_then (nat_cmp (order_at mails l.id.0) (order_at mails m.id.0))
      (slice_cmp nat_cmp (key_at mails l.id.0) (key_at mails m.id.0))) (nat_cmp l.id.0 m.id.0)
      ((λ i. is_lt (ordering_then
      (nat_cmp (order_same mails l.id.0 i) (order_same mails m.id.0 i))
      (slice_cmp nat_cmp (key_same mails l.id.0 i) (key_same mails m.id.0 i)))) ∙ first)

  -- a listing whose letters rise is in listing order
  pub rise_listed : (listing : List Listed) → mails_rise (mails_of mails listing) ≡ true
      → Rises lists_before listing
  rise_listed [] rise = tt
  rise_listed (l ∷ []) rise = ((λ m held. absurd held), tt)
  rise_listed (l ∷ m ∷ listing) rise =
      let parts = and_parts (mail_before (mail_of mails l.id.0) (mail_of mails m.id.0))
      (mails_rise (mails_of mails (m ∷ listing))) rise in
      let first = mail_first l m parts.0 in
      let more = rise_listed (m ∷ listing) parts.1 in
      (on first more, more)
    where
      on : lists_before l m ≡ true → Rises lists_before (m ∷ listing) → (n : Listed)
          → IsIn n (m ∷ listing) → lists_before l n ≡ true
      on first more n (inl same) = ap (lists_before l) (sym same) ∙ first
      on first more n (inr held) =
          through lists_before listed_weak l m n first (more.0 n held)

-- What came is none of the old listing.

-- messages that came are listed as they came
pub listing_came : (came : List Listed) → listing_of (came_items came) ≡ came
listing_came [] = refl
listing_came (l ∷ came) = ap (λ (listing : List Listed). l ∷ listing) (listing_came came)

module _ (old new : List Listed) (found : Found) (difference : IsDifference old new found) where
  came_in : (l : Listed) → IsIn l found.came.items → IsIn l new × (lists_id old l.id.0 ≡ false)
  came_in l held =
      let at = in_filter (lacks old) l new (subst (IsIn l) difference.came held) in
      (at.0, not-true (lists_id old l.id.0) at.1)

  in_came : (l : Listed) → IsIn l new → lists_id old l.id.0 ≡ false → IsIn l found.came.items
  in_came l held none = subst (IsIn l) (sym difference.came)
      (filter_in (lacks old) l new held (not_from_false (lists_id old l.id.0) none))

  came_far : (id : ℕ) → lists_id old id ≡ true → lists_id found.came.items id ≡ false
  came_far id known = false_from_ne_true (lists_id found.came.items id) (λ wrong.
      let at = lists_at found.came.items id wrong in
      both_ways (lists_id old at.message.id.0) (came_in at.message at.held).1
      (ap (lists_id old) at.id_is ∙ known))

  came_differ : ids_differ new ≡ true → ids_differ found.came.items ≡ true
  came_differ differ = subst (λ (l : List Listed). ids_differ l ≡ true) (sym difference.came)
      (differ_filter (lacks old) new differ)

-- what came has other ids than the messages
pub came_apart : (items : List PlainItem) (new : List Listed) (found : Found)
    → IsDistinct nat_eq (numbers items) → ids_differ new ≡ true
    → IsDifference (listing_of items) new found
    → IsDistinct nat_eq (numbers (items ++ came_items found.came.items))
came_apart items new found apart differ difference =
    differ_apart (items ++ came_items found.came.items)
    (ap ids_differ (map-append listed_of items (came_items found.came.items)
    ∙ ap (λ (l : List Listed). listing_of items ++ l) (listing_came found.came.items))
    ∙ differ_append (listing_of items) found.came.items (apart_differ items apart)
    (came_differ (listing_of items) new found difference differ)
    (came_far (listing_of items) new found difference))

-- what is found is of letters that there are
pub found_below : (letters : ℕ) (old new : List Listed) (found : Found)
    → AreListedBelow letters old → AreListedBelow letters new → IsDifference old new found
    → IsFoundBelow letters found × AreListedBelow letters found.came.items
found_below letters old new found first second difference = (
  (
    All-same (λ id. id.0 < letters) found.gone.items
        (map (λ l. l.id) (filter (lacks new) old)) difference.gone
        (All-map (λ id. id.0 < letters) (λ l. l.id) (filter (lacks new) old)
        (All-filter (lacks new) (λ l. l.id.0 < letters) old first)),
    All-same (λ l. l.id.0 < letters) found.reflagged.items (filter (had_other_flags old) new)
        difference.reflagged
        (All-filter (had_other_flags old) (λ l. l.id.0 < letters) new second),
  ),
  All-same (λ l. l.id.0 < letters) found.came.items (filter (lacks old) new) difference.came
      (All-filter (lacks old) (λ l. l.id.0 < letters) new second),
)

-- What is left and what came are the new listing.

module _ (old new : List Listed) (found : Found) (difference : IsDifference old new found)
    (apart : ids_differ old ≡ true) (differ : ids_differ new ≡ true) where
  abbrev left_and_came : List Listed
  left_and_came = filter_map (listed_again new) old ++ found.came.items

  in_new : (l : Listed) → IsIn l left_and_came → IsIn l new
  in_new l held = by_place (in_append l (filter_map (listed_again new) old) found.came.items held)
    where
      by_place : IsIn l (filter_map (listed_again new) old) ⊎ IsIn l found.came.items → IsIn l new
      by_place (inl left) =
          let of = in_filter_map (listed_again new) l old left in
          again_in new of.0 l of.2
      by_place (inr came) = (came_in old new found difference l came).0

  new_in : (l : Listed) → IsIn l new → IsIn l left_and_came
  new_in l held = append_in l (filter_map (listed_again new) old) found.came.items
      (by_test (lists_id old l.id.0) refl)
    where
      by_test : (t : Bool) → lists_id old l.id.0 ≡ t
          → IsIn l (filter_map (listed_again new) old) ⊎ IsIn l found.came.items
      by_test true known =
          let at = lists_at old l.id.0 known in
          inl (filter_map_in (listed_again new) at.message l old at.held
          (again_is new differ at.message l held at.id_is))
      by_test false none = inr (in_came old new found difference l held none)

  left_differ : ids_differ left_and_came ≡ true
  left_differ = differ_append (filter_map (listed_again new) old) found.came.items
      (differ_map (listed_again new) (again_id new) old apart)
      (came_differ old new found difference differ)
      (λ id left. came_far old new found difference id
      (lists_map (listed_again new) (again_id new) old id left))

-- what is left of messages and what came, in listing order, are listed as the scan found them
pub joined_lists : (mails : List Mail) (items : List PlainItem) (new : List Listed) (found : Found)
    → IsDistinct nat_eq (numbers items) → mails_rise (mails_of mails new) ≡ true
    → IsDifference (listing_of items) new found
    → listing_of (joined_items mails found items) ≡ new
joined_lists mails items new found apart rise difference =
    let differ = rise_differ mails new rise in
    let first = apart_differ items apart in
    let all : List Listed = filter_map (listed_again new) (listing_of items) ++ found.came.items in
    map_order listed_of (lists_before mails)
    (kept_items found items ++ came_items found.came.items)
    ∙ ap (in_order_by (lists_before mails))
    (map-append listed_of (kept_items found items) (came_items found.came.items)
    ∙ (λ i. kept_again (listing_of items) new found difference differ items (λ l held. held) i
    ++ listing_came found.came.items i))
    ∙ one_rise (lists_before mails) (listed_weak mails) (in_order_by (lists_before mails) all) new
    (rises_order (lists_before mails) (listed_weak mails) all (never_ties mails all
    (left_differ (listing_of items) new found difference first differ)))
    (rise_listed mails new rise)
    (λ l held. in_new (listing_of items) new found difference first differ l
    (in_order_was (lists_before mails) l all held))
    (λ l held. in_order_held (lists_before mails) l all
    (new_in (listing_of items) new found difference first differ l held))

-- What came to one of two listings came to the other.

pub ids_high : (next : ℕ) (came : List Listed) (l : Listed)
    → map (λ m. m.id) came ≡ ids_from next came → IsIn l came → next ≤ l.id.0
ids_high next [] l is held = absurd held
ids_high next (m ∷ came) l is (inl same) =
    let here : m.id ≡ record { 0 = next } = cc in
    omega (arith, ap (λ (id : Id). id.0) here, ap (λ (x : Listed). x.id.0) same)
ids_high next (m ∷ came) l is (inr held) =
    let later : map (λ x. x.id) came ≡ ids_from (next + 1) came = cc in
    omega (arith, ids_high (next + 1) came l later held)

-- The same came to messages that have all ids of the old listing, and that are letters of before
-- where what came has the ids behind those.
pub came_count : (items : List PlainItem) (old new : List Listed) (found theirs : Found)
    (letters : ℕ) → IsDifference old new theirs → IsDifference (listing_of items) new found
    → map (λ l. l.id) theirs.came.items ≡ ids_from letters theirs.came.items
    → AreListedBelow letters (listing_of items)
    → ((l : Listed) → IsIn l old → lists_id (listing_of items) l.id.0 ≡ true)
    → found.came.items ≡ theirs.came.items
came_count items old new found theirs letters other difference ids below listed_here =
    difference.came
    ∙ same_kept (lacks (listing_of items)) (lacks old) new
    (λ l held. ap not (by_test l held (lists_id old l.id.0) refl)) ∙ sym other.came
  where
    by_test : (l : Listed) → IsIn l new → (t : Bool) → lists_id old l.id.0 ≡ t
        → lists_id (listing_of items) l.id.0 ≡ t
    by_test l held true is =
        let at = lists_at old l.id.0 is in
        ap (lists_id (listing_of items)) (sym at.id_is) ∙ listed_here at.message at.held
    by_test l held false is = lists_far letters (listing_of items) l.id.0 below
        (ids_high letters theirs.came.items l ids (in_came old new theirs other l held is))
