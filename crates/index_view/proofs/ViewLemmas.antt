-- What the calls of a view need of its messages.
use Rattle.std.specs.Prelude.{if◌then◌else◌}
use Rattle.std.proofs.Common.{Bool, false, true, ◌∷◌, []}
use Rattle.index_items.specs.Alteration.{shut}
use Rattle.index_view.specs.Shutting.{all_shut, is_root, shut_where}
use Rattle.std.proofs.Common.{◌≡◌, ◌∙◌, ℕ, List, Some, ap, length, map, nat_eq, refl}
use Rattle.std.proofs.Common.{subst, sym}
use Rattle.std.proofs.lemmas.Simd.{map-map}
use Rattle.std.specs.List.{IsDistinct}
use Rattle.folder_letters.specs.Letters.{Mail}
use Rattle.mail_base.specs.declared.kind.Id.{Id}
use Rattle.people.specs.People.{Alias}
use Rattle.index_items.specs.Alteration.{alter_at, altered_by}
use Rattle.index_items.specs.Items.{PlainItem, ids_of, numbers}
use Rattle.index_items.specs.declared.alteration.Alteration.TheVariants.{Pending, Tag, Shut}
use Rattle.index_items.specs.declared.alteration.Alteration.{Alteration}
use Rattle.index_listed.specs.Cursor.{is_seen, moved, moved_by_shutting}
use Rattle.index_listed.specs.Heads.{AreHeads, AreWithin}
use Rattle.index_listed.specs.Listed.{PlainListed, ids, listed_with}
use Rattle.index_listed.specs.Seen.{visible_ids}
use Rattle.index_listed.proofs.CursorLemmas.{stands_moved, stands_shut}
use Rattle.index_view.specs.Answers.{PlainAnswers}
use Rattle.index_view.specs.Listing.{all_listed}
use Rattle.index_view.specs.View.{AreApart, Folded, IsOf, PlainView, Turned, answers_over}
use Rattle.index_view.specs.View.{facts_of, folded, turned, visible_of}
use Rattle.index_view.proofs.ItemLemmas.{altered_numbers}

-- messages with their letters have the same ids
pub listed_ids : (mails : List Mail) (items : List PlainItem)
    → ids (all_listed mails items) ≡ numbers items
listed_ids mails items =
    map-map (λ (l : PlainListed). l.id.0) (listed_with mails) (ids_of items)
    ∙ map-map (λ (id : Id). id.0) (λ (i : PlainItem). i.id) items

abbrev id_of : ℕ → Id
id_of n = record { 0 = n }

-- messages with the same ids have the same letters
pub same_listed : (mails : List Mail) (items others : List PlainItem)
    → numbers items ≡ numbers others → all_listed mails items ≡ all_listed mails others
same_listed mails items others same =
    map-map (listed_with mails) (λ (i : PlainItem). i.id) items
    ∙ sym (map-map (λ n. listed_with mails (id_of n)) (λ (i : PlainItem). i.id.0) items)
    ∙ ap (map (λ n. listed_with mails (id_of n))) same
    ∙ map-map (λ n. listed_with mails (id_of n)) (λ (i : PlainItem). i.id.0) others
    ∙ sym (map-map (listed_with mails) (λ (i : PlainItem). i.id) others)

keeps_id : (alteration : Alteration) (i : PlainItem) → (altered_by alteration i).id ≡ i.id
keeps_id (Pending delta deleted) i = refl
keeps_id (Tag mark) i = refl
keeps_id (Shut mark) i = refl

-- an alteration leaves the ids as they are
module _ (alteration : Alteration) (id : Id) (items : List PlainItem) where
  pub same_numbers : numbers (alter_at id (altered_by alteration) items) ≡ numbers items
  same_numbers = altered_numbers (altered_by alteration) (keeps_id alteration) id items

  pub altered_within : (count : ℕ) → AreWithin count (numbers items)
      → AreWithin count (numbers (alter_at id (altered_by alteration) items))
  altered_within count within = subst (AreWithin count) (sym same_numbers) within

  pub altered_apart : AreApart items → AreApart (alter_at id (altered_by alteration) items)
  altered_apart apart = subst (IsDistinct nat_eq) (sym same_numbers) apart

-- shutting threads leaves the ids as they are
module _ (mark : Bool) (a : PlainAnswers) where
  same_id : (i : PlainItem) → (shut_where mark a i).id.0 ≡ i.id.0
  same_id i = by_root (is_root a i.id)
    where
      by_root : (b : Bool) → (if b then shut mark i else i).id.0 ≡ i.id.0
      by_root true = refl
      by_root false = refl

  pub shut_numbers : (items : List PlainItem) → numbers (all_shut mark a items) ≡ numbers items
  shut_numbers [] = refl
  shut_numbers (i ∷ items) = λ k. same_id i k ∷ shut_numbers items k

-- a view that was given others than another one, and answers what is worked out of them
pub turned_over : (mails : List Mail) (old new : PlainView) (all : PlainAnswers)
    → AreHeads new.heads mails → AreWithin (length new.heads) (numbers new.items)
    → AreApart new.items → all ≡ answers_over mails (facts_of new)
    → new.answers ≡ old.answers → new.cursor ≡ old.cursor → new.aliases ≡ old.aliases
    → Turned mails old (turned new all) (facts_of new)
turned_over mails old new all heads within apart is answers cursor aliases = record {
  is_of = record {
    heads = heads;
    within = within;
    apart = apart;
    answered = is;
    stands = stands_moved (visible_ids new.answers.sight) (visible_ids all.sight) new.cursor;
  };
  given = refl;
  cursor = λ i. moved (visible_ids (answers i).sight) (visible_ids all.sight) (cursor i);
  aliases = aliases;
}

-- the same where a thread was shut or opened
pub folded_over : (mails : List Mail) (old new : PlainView) (all : PlainAnswers)
    → AreHeads new.heads mails → AreWithin (length new.heads) (numbers new.items)
    → AreApart new.items → all ≡ answers_over mails (facts_of new)
    → new.answers ≡ old.answers → new.cursor ≡ old.cursor → new.aliases ≡ old.aliases
    → Folded mails old (folded new all) (facts_of new)
folded_over mails old new all heads within apart is answers cursor aliases = record {
  is_of = record {
    heads = heads;
    within = within;
    apart = apart;
    answered = is;
    stands = stands_shut all.sight (visible_ids new.answers.sight) (visible_ids all.sight)
        new.cursor;
  };
  given = refl;
  cursor = λ i. moved_by_shutting all.sight (visible_ids (answers i).sight)
      (visible_ids all.sight) (cursor i);
  aliases = aliases;
}

-- a view is of its archive wherever its cursor was moved to, while that is seen
pub moved_of : (mails : List Mail) (v : PlainView) (id : Id) → IsOf mails v
    → is_seen (visible_of v) id ≡ true → IsOf mails (record v { cursor = Some id })
moved_of mails v id of seen = record {
  heads = of.heads;
  within = of.within;
  apart = of.apart;
  answered = of.answered;
  stands = seen;
}

-- and whatever aliases were added
pub aliased_of : (mails : List Mail) (v : PlainView) (aliases : List Alias) → IsOf mails v
    → IsOf mails (record v { aliases = aliases })
aliased_of mails v aliases of = record {
  heads = of.heads;
  within = of.within;
  apart = of.apart;
  answered = of.answered;
  stands = of.stands;
}
