-- The keys of listed messages that change differ, where each changes once.
use Rattle.std.proofs.Common.{◌≡◌, ◌<◌, inl, inr, ◌==◌, ◌||◌, ℕ, Bool, true, false, List, []}
use Rattle.std.proofs.Common.{◌∷◌, Option, Some, None, length, refl, sym, ◌∙◌, ap, subst}
use Rattle.std.proofs.Common.{if◌then◌else◌, arith, nat_eq}
use Rattle.std.specs.Prelude.{find, option_map}
use Rattle.std.specs.List.{All}
use Rattle.std.specs.Option.{option_or}
use Rattle.std.specs.Str.{bytes_eq}
use Rattle.std.proofs.lemmas.Bool.{and_parts, eqb-true}
use Rattle.std.proofs.lemmas.Bool.Decides.{nat_tests}
use Rattle.std.proofs.lemmas.List.Elements.{All-cons, All-head, All-nil, All-tail}
use Rattle.disk_model.proofs.Trees.{bytes_same}
use Rattle.mail_base.specs.Ordered.{IsIn}
use Rattle.mail_base.specs.declared.kind.Id.{Id}
use Rattle.mail_base.specs.declared.kind.Kind.{Kind}
use Rattle.disk_model.specs.Journal.{Past}
use Rattle.folder_letters.specs.Letters.{Mail}
use Rattle.folder_letters.specs.declared.change.Changed1.{Changed1}
use Rattle.folder_letters.specs.declared.listing.Listed.{Listed}
use Rattle.folder_core.specs.Keeping.{ListedMail, PlacedByKey, lists_id, mail_of, mails_of}
use Rattle.folder_core.specs.Keeping.{with_mail}
use Rattle.folder_core.specs.Known.{KnownFolder}
use Rattle.folder_core.specs.Right.{Right, mail_before, mails_rise}
use Rattle.folder_core.proofs.RightLemmas.{mail_order}
use Rattle.index_items.specs.Changes.{AreBelow, Changed, change_for, plain_changes}
use Rattle.folder_changes.specs.Asked.{ids_changed}
use Rattle.folder_changes.specs.Asked.{AreApart, what_of}
use Rattle.folder_changes.specs.Asked.{AreListed, AreOnce}
use Rattle.folder_changes.proofs.LeftLemmas.{rise_skipped, rise_tail}

true_false : ◌≡◌ {A = Bool} true false → ⊥
true_false e = cc

-- What is listed.

-- the listed message of an id
listed_in : (listing : List Listed) (id : ℕ) → lists_id listing id ≡ true
    → (listed : Listed) × (IsIn listed listing) × (listed.id.0 ≡ id)
listed_in [] id is = absurd (true_false (sym is))
listed_in (listed ∷ listing) id is =
    by (listed.id.0 == id) refl is (λ rest. listed_in listing id rest)
  where
    by : (t : Bool) → (listed.id.0 == id) ≡ t → (t || lists_id listing id) ≡ true
        → (lists_id listing id ≡ true
        → (other : Listed) × (IsIn other listing) × (other.id.0 ≡ id))
        → (other : Listed) × (IsIn other (listed ∷ listing)) × (other.id.0 ≡ id)
    by true same is again = (listed, inl refl, eqb-true listed.id.0 id same)
    by false other is again =
        let rest = again is in (rest.0, inr rest.1, rest.2)

-- each letter stands before those behind it
first_before : (mails : List Mail) (a : ListedMail) (listing : List Listed) (listed : Listed)
    → mails_rise (a ∷ mails_of mails listing) ≡ true → IsIn listed listing
    → mail_before a.mail (mail_of mails listed.id.0) ≡ true
first_before mails a [] listed rise held = absurd held
first_before mails a (first ∷ listing) listed rise (inl same) =
    subst (λ (l : Listed). mail_before a.mail (mail_of mails l.id.0) ≡ true) same
    (and_parts (mail_before a.mail (mail_of mails first.id.0))
    (mails_rise (with_mail mails first ∷ mails_of mails listing)) rise).0
first_before mails a (first ∷ listing) listed rise (inr held) =
    let parts = and_parts (mail_before a.mail (mail_of mails first.id.0))
    (mails_rise (with_mail mails first ∷ mails_of mails listing)) rise in
    first_before mails a listing listed
    (rise_skipped a (with_mail mails first) (mails_of mails listing) parts.0 parts.1) held

module _ (order_of : List ℕ → ℕ) where
  -- the order of a listed letter is that of its key
  placed_in : (mails : List Mail) (listing : List Listed) (listed : Listed)
      → PlacedByKey order_of (mails_of mails listing) → IsIn listed listing
      → (mail_of mails listed.id.0).order ≡ order_of (mail_of mails listed.id.0).key
  placed_in mails [] listed placed held = absurd held
  placed_in mails (first ∷ listing) listed placed (inl same) =
      subst (λ (l : Listed). (mail_of mails l.id.0).order ≡ order_of (mail_of mails l.id.0).key)
      same
      placed.0
  placed_in mails (first ∷ listing) listed placed (inr held) =
      placed_in mails listing listed placed.1 held

  -- letters with one key and the orders of their keys stand at one place
  never_before : (a b : Mail) → a.order ≡ order_of a.key → b.order ≡ order_of b.key → a.key ≡ b.key
      → mail_before a b ≡ true → ⊥
  never_before a b first next same less =
      let order : b.order ≡ a.order = next ∙ sym (ap order_of same) ∙ sym first in
      let itself : mail_before a a ≡ true =
      subst (λ (n : ℕ). mail_before a (record a { order = n }) ≡ true) order
      (subst (λ (k : List ℕ). mail_before a (record b { key = k }) ≡ true) (sym same) less) in
      true_false (sym itself ∙ mail_order.one_way a a itself)

  -- listed messages with one key are one
  key_once : (mails : List Mail) (listing : List Listed) (a b : Listed)
      → mails_rise (mails_of mails listing) ≡ true → PlacedByKey order_of (mails_of mails listing)
      → IsIn a listing → IsIn b listing → (mail_of mails a.id.0).key ≡ (mail_of mails b.id.0).key
      → a.id.0 ≡ b.id.0
  key_once mails [] a b rise placed in_a in_b same = absurd in_a
  key_once mails (first ∷ listing) a b rise placed (inl is_a) (inl is_b) same =
      ap (λ (l : Listed). l.id.0) (sym is_a ∙ is_b)
  key_once mails (first ∷ listing) a b rise placed (inl is_a) (inr in_b) same =
      let less : mail_before (mail_of mails a.id.0) (mail_of mails b.id.0) ≡ true =
      subst (λ (l : Listed). mail_before (mail_of mails l.id.0) (mail_of mails b.id.0) ≡ true) is_a
      (first_before mails (with_mail mails first) listing b rise in_b) in
      absurd (never_before (mail_of mails a.id.0) (mail_of mails b.id.0)
      (placed_in mails (first ∷ listing) a placed (inl is_a))
      (placed_in mails listing b placed.1 in_b) same less)
  key_once mails (first ∷ listing) a b rise placed (inr in_a) (inl is_b) same =
      let less : mail_before (mail_of mails b.id.0) (mail_of mails a.id.0) ≡ true =
      subst (λ (l : Listed). mail_before (mail_of mails l.id.0) (mail_of mails a.id.0) ≡ true) is_b
      (first_before mails (with_mail mails first) listing a rise in_a) in
      absurd (never_before (mail_of mails b.id.0) (mail_of mails a.id.0)
      (placed_in mails (first ∷ listing) b placed (inl is_b))
      (placed_in mails listing a placed.1 in_a) (sym same) less)
  key_once mails (first ∷ listing) a b rise placed (inr in_a) (inr in_b) same =
      key_once mails listing a b (rise_tail (with_mail mails first) (mails_of mails listing) rise)
      placed.1 in_a in_b same

  -- the same of ids
  id_once : (mails : List Mail) (listing : List Listed) (a b : ℕ)
      → mails_rise (mails_of mails listing) ≡ true → PlacedByKey order_of (mails_of mails listing)
      → lists_id listing a ≡ true → lists_id listing b ≡ true
      → (mail_of mails a).key ≡ (mail_of mails b).key → a ≡ b
  id_once mails listing a b rise placed is_a is_b same =
      let in_a = listed_in listing a is_a in
      let in_b = listed_in listing b is_b in
      sym in_a.2
      ∙ key_once mails listing in_a.0 in_b.0 rise placed in_a.1 in_b.1
      (ap (λ (n : ℕ). (mail_of mails n).key) in_a.2 ∙ same
      ∙ sym (ap (λ (n : ℕ). (mail_of mails n).key) in_b.2))
      ∙ in_b.2

  -- What changes.

  module _ (mails : List Mail) (listing : List Listed)
      (rise : mails_rise (mails_of mails listing) ≡ true)
      (placed : PlacedByKey order_of (mails_of mails listing)) where
    -- nothing is wanted of a key whose message is not among those that change
    none_of : (id : ℕ) (changes : List Changed) → lists_id listing id ≡ true
        → AreListed listing changes → change_for changes id ≡ None
        → what_of mails changes (mail_of mails id).key ≡ None
    none_of id [] is listed none = refl
    none_of id (changed ∷ changes) is listed none =
        by_id (nat_eq id changed.id.0) refl none (λ rest. none_of id changes is listed.1 rest)
      where
        by_id : (t : Bool) → nat_eq id changed.id.0 ≡ t
            → option_map (λ c. c.change) (if t then Some changed
            else find (λ c. nat_eq id c.id.0) changes) ≡ None
            → (change_for changes id ≡ None → what_of mails changes (mail_of mails id).key ≡ None)
            → what_of mails (changed ∷ changes) (mail_of mails id).key ≡ None
        by_id true same none again = absurd (cc)
        by_id false other none again =
            by_key (bytes_eq (mail_of mails id).key (mail_of mails changed.id.0).key) refl
            (again none)
          where
            by_key : (t : Bool)
                → bytes_eq (mail_of mails id).key (mail_of mails changed.id.0).key ≡ t
                → what_of mails changes (mail_of mails id).key ≡ None
                → option_or (if t then Some changed.change else None)
                (what_of mails changes (mail_of mails id).key) ≡ None
            by_key false key rest = rest
            by_key true key rest =
                let one : id ≡ changed.id.0 = id_once mails listing id changed.id.0 rise placed is
                listed.0 (bytes_same (mail_of mails id).key (mail_of mails changed.id.0).key key) in
                absurd (true_false (sym (eq_true id changed.id.0 one) ∙ other))
              where
                eq_true : (m n : ℕ) → m ≡ n → nat_eq m n ≡ true
                eq_true m n same = grind (arith, nat_tests, same)

    -- the keys of listed messages that change once differ, where each letter stands by its key
    pub apart_of : (changes : List Changed) → AreListed listing changes → AreOnce changes
        → AreApart mails changes
    apart_of [] listed once = tt
    apart_of (changed ∷ changes) listed once = (
      none_of changed.id.0 changes listed.0 listed.1 once.0,
      apart_of changes listed.1 once.1,
    )

-- the ids of listed messages are below those of new letters
pub right_below : (kind : Kind) (mails : List Mail) (known : KnownFolder) (told : Option Past)
    (changes : List Changed1) → Right kind mails known told
    → AreListed known.listing (plain_changes changes) → AreBelow (length mails) changes
right_below kind mails known told [] right listed = All-nil (λ c. c.id.0 < length mails)
right_below kind mails known told (changed ∷ changes) right listed =
    All-cons (λ c. c.id.0 < length mails) changed changes
    (below known.listing right.within changed.id.0 listed.0)
    (right_below kind mails known told changes right listed.1)
  where
    below : (listing : List Listed) → All (λ l. l.id.0 < length mails) listing → (id : ℕ)
        → lists_id listing id ≡ true → id < length mails
    below [] within id is = absurd (true_false (sym is))
    below (first ∷ listing) within id is =
        by (first.id.0 == id) refl is (λ rest. below listing
        (All-tail (λ l. l.id.0 < length mails) first listing within) id rest)
      where
        by : (t : Bool) → (first.id.0 == id) ≡ t → (t || lists_id listing id) ≡ true
            → (lists_id listing id ≡ true → id < length mails) → id < length mails
        by true same is again = subst (λ (n : ℕ). n < length mails) (eqb-true first.id.0 id same)
            (All-head (λ l. l.id.0 < length mails) first listing within)
        by false other is again = again is

-- one of the changes is of an id below a bound
pub below_in : (bound : ℕ) (id : Id) (changes : List Changed1) → AreBelow bound changes
    → IsIn id (ids_changed changes) → id.0 < bound
below_in bound id [] below held = absurd held
below_in bound id (changed ∷ changes) below (inl same) =
    subst (λ (i : Id). i.0 < bound) same (All-head (λ c. c.id.0 < bound) changed changes below)
below_in bound id (changed ∷ changes) below (inr held) =
    below_in bound id changes (All-tail (λ c. c.id.0 < bound) changed changes below) held
