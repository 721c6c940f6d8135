-- What a sync leaves of a listing: no more messages, with the same ids, in order.
use Rattle.std.proofs.Common.{◌≡◌, ◌≤◌, ◌<◌, ◌⊎◌, inl, inr, ◌++◌, ◌&&◌, ℕ, Bool, true, false, List}
use Rattle.std.proofs.Common.{[]}
use Rattle.std.proofs.Common.{◌∷◌, Option, Some, None, length, refl, sym, ◌∙◌, ap, subst, arith}
use Rattle.std.specs.List.{All}
use Rattle.std.proofs.lemmas.Bool.{and_from, and_parts}
use Rattle.std.proofs.lemmas.List.Elements.{All-cons, All-head, All-tail}
use Rattle.mail_base.specs.declared.kind.Kind.{Kind}
use Rattle.folder_letters.specs.Letters.{Mail}
use Rattle.folder_letters.specs.declared.listing.Listed.{Listed}
use Rattle.folder_core.specs.Keeping.{ListedMail, PlacedByKey, mail_of, mails_of, with_mail}
use Rattle.folder_core.specs.Right.{mail_before, mails_rise}
use Rattle.folder_core.proofs.RightLemmas.{mail_order}
use Rattle.index_items.specs.Changes.{Changed, PlainChange, Alters, Discards, change_for}
use Rattle.folder_changes.specs.Left.{changed_listed, listing_synced}

true_false : ◌≡◌ {A = Bool} true false → ⊥
true_false e = cc

before_then : (a b c : Mail) → mail_before a b ≡ true → mail_before b c ≡ true
    → mail_before a c ≡ true
before_then a b c first next = by (mail_before a c) refl
  where
    by : (t : Bool) → mail_before a c ≡ t → mail_before a c ≡ true
    by true is = is
    by false is = absurd (true_false (sym first
        ∙ mail_order.chain a c b is (mail_order.one_way b c next)))

-- Letters that rise.

-- one that stands before another stands before what stands behind that
pub rise_skipped : (a b : ListedMail) (rest : List ListedMail)
    → mail_before a.mail b.mail ≡ true → mails_rise (b ∷ rest) ≡ true
    → mails_rise (a ∷ rest) ≡ true
rise_skipped a b [] less rise = refl
rise_skipped a b (c ∷ rest) less rise =
    let parts = and_parts (mail_before b.mail c.mail) (mails_rise (c ∷ rest)) rise in
    and_from (mail_before a.mail c.mail) (mails_rise (c ∷ rest))
    (before_then a.mail b.mail c.mail less parts.0) parts.1

-- the letter of the first is all that counts
rise_same : (a b : ListedMail) (rest : List ListedMail) → b.mail ≡ a.mail
    → mails_rise (b ∷ rest) ≡ mails_rise (a ∷ rest)
rise_same a b [] same = refl
rise_same a b (c ∷ rest) same =
    ap (λ (m : Mail). mail_before m c.mail && mails_rise (c ∷ rest)) same

-- letters behind the first one rise
pub rise_tail : (a : ListedMail) (rest : List ListedMail) → mails_rise (a ∷ rest) ≡ true
    → mails_rise rest ≡ true
rise_tail a [] rise = refl
rise_tail a (b ∷ rest) rise = (and_parts (mail_before a.mail b.mail) (mails_rise (b ∷ rest))
    rise).1

-- What goes from a listing, or stays with its id.

-- a listed message goes, or stays with its id
abbrev GoesOrStays : Listed → List Listed → Type 0
GoesOrStays listed left =
    (left ≡ []) ⊎ ((same : Listed) × (same.id ≡ listed.id) × (left ≡ same ∷ []))

changed_stays : (kind : Kind) (listed : Listed) (change : Option PlainChange)
    → GoesOrStays listed (changed_listed kind listed change)
changed_stays kind listed None = inr (listed, refl, refl)
changed_stays kind listed (Some (Alters added cleared)) = inr (_, refl, refl)
changed_stays kind listed (Some Discards) = inl refl

module _ (kind : Kind) (changes : List Changed) where
  -- what a sync leaves of one of them
  abbrev one : Listed → List Listed
  one listed = changed_listed kind listed (change_for changes listed.id.0)

  stays : (listed : Listed) → GoesOrStays listed (one listed)
  stays listed = changed_stays kind listed (change_for changes listed.id.0)

  pub synced_few : (listing : List Listed)
      → length (listing_synced kind changes listing) ≤ length listing
  synced_few [] = omega arith
  synced_few (listed ∷ listing) = by (one listed) (stays listed) (synced_few listing)
    where
      by : (left : List Listed) → GoesOrStays listed left
          → length (listing_synced kind changes listing) ≤ length listing
          → length (left ++ listing_synced kind changes listing) ≤ length (listed ∷ listing)
      by left (inl goes) few =
          subst (λ (l : List Listed). length (l ++ listing_synced kind changes listing)
          ≤ length (listed ∷ listing)) (sym goes) (omega (arith, few))
      by left (inr same) few =
          subst (λ (l : List Listed). length (l ++ listing_synced kind changes listing)
          ≤ length (listed ∷ listing)) (sym same.2) (omega (arith, few))

  pub synced_within : (bound : ℕ) (listing : List Listed) → All (λ l. l.id.0 < bound) listing
      → All (λ l. l.id.0 < bound) (listing_synced kind changes listing)
  synced_within bound [] within = within
  synced_within bound (listed ∷ listing) within =
      by (one listed) (stays listed)
      (synced_within bound listing (All-tail (λ l. l.id.0 < bound) listed listing within))
    where
      by : (left : List Listed) → GoesOrStays listed left
          → All (λ l. l.id.0 < bound) (listing_synced kind changes listing)
          → All (λ l. l.id.0 < bound) (left ++ listing_synced kind changes listing)
      by left (inl goes) rest =
          subst (λ (l : List Listed). All (λ l. l.id.0 < bound)
          (l ++ listing_synced kind changes listing)) (sym goes) rest
      by left (inr same) rest =
          subst (λ (l : List Listed). All (λ l. l.id.0 < bound)
          (l ++ listing_synced kind changes listing)) (sym same.2)
          (All-cons (λ l. l.id.0 < bound) same.0 (listing_synced kind changes listing)
          (subst (λ (id : _). id.0 < bound) (sym same.1)
          (All-head (λ l. l.id.0 < bound) listed listing within)) rest)

  module _ (mails : List Mail) where
    pub synced_placed : (order_of : List ℕ → ℕ) (listing : List Listed)
        → PlacedByKey order_of (mails_of mails listing)
        → PlacedByKey order_of (mails_of mails (listing_synced kind changes listing))
    synced_placed order_of [] placed = placed
    synced_placed order_of (listed ∷ listing) placed =
        by (one listed) (stays listed) (synced_placed order_of listing placed.1)
      where
        by : (left : List Listed) → GoesOrStays listed left
            → PlacedByKey order_of (mails_of mails (listing_synced kind changes listing))
            → PlacedByKey order_of (mails_of mails (left ++ listing_synced kind changes listing))
        by left (inl goes) rest =
            subst (λ (l : List Listed). PlacedByKey order_of (mails_of mails
            (l ++ listing_synced kind changes listing))) (sym goes) rest
        by left (inr same) rest =
            subst (λ (l : List Listed). PlacedByKey order_of (mails_of mails
            (l ++ listing_synced kind changes listing))) (sym same.2) (
              subst (λ (id : _). (mail_of mails id.0).order ≡ order_of (mail_of mails id.0).key)
                  (sym same.1) placed.0,
              rest,
            )

    synced_behind : (a : ListedMail) (listing : List Listed)
        → mails_rise (a ∷ mails_of mails listing) ≡ true
        → mails_rise (a ∷ mails_of mails (listing_synced kind changes listing)) ≡ true
    synced_behind a [] rise = refl
    synced_behind a (listed ∷ listing) rise =
        by (one listed) (stays listed) (λ b. synced_behind b listing)
      where
        parts : (mail_before a.mail (mail_of mails listed.id.0) ≡ true)
            × (mails_rise (with_mail mails listed ∷ mails_of mails listing) ≡ true)
        parts = and_parts (mail_before a.mail (mail_of mails listed.id.0))
            (mails_rise (with_mail mails listed ∷ mails_of mails listing)) rise

        by : (left : List Listed) → GoesOrStays listed left
            → ((b : ListedMail) → mails_rise (b ∷ mails_of mails listing) ≡ true
            → mails_rise (b ∷ mails_of mails (listing_synced kind changes listing)) ≡ true)
            → mails_rise (a ∷ mails_of mails (left ++ listing_synced kind changes listing)) ≡ true
        by left (inl goes) again =
            subst (λ (l : List Listed). mails_rise (a ∷ mails_of mails
            (l ++ listing_synced kind changes listing)) ≡ true) (sym goes)
            (again a (rise_skipped a (with_mail mails listed) (mails_of mails listing) parts.0
            parts.1))
        by left (inr same) again =
            let mail : mail_of mails same.0.id.0 ≡ mail_of mails listed.id.0 =
            ap (λ (id : _). mail_of mails id.0) same.1 in
            subst (λ (l : List Listed). mails_rise (a ∷ mails_of mails
            (l ++ listing_synced kind changes listing)) ≡ true) (sym same.2)
            (and_from (mail_before a.mail (mail_of mails same.0.id.0))
            (mails_rise (with_mail mails same.0
            ∷ mails_of mails (listing_synced kind changes listing)))
            (ap (mail_before a.mail) mail ∙ parts.0)
            (again (with_mail mails same.0)
            (rise_same (with_mail mails listed) (with_mail mails same.0) (mails_of mails listing)
            mail ∙ parts.1)))

    pub synced_rise : (listing : List Listed) → mails_rise (mails_of mails listing) ≡ true
        → mails_rise (mails_of mails (listing_synced kind changes listing)) ≡ true
    synced_rise [] rise = refl
    synced_rise (listed ∷ listing) rise =
        by (one listed) (stays listed)
        (synced_rise listing (rise_tail (with_mail mails listed) (mails_of mails listing) rise))
      where
        by : (left : List Listed) → GoesOrStays listed left
            → mails_rise (mails_of mails (listing_synced kind changes listing)) ≡ true
            → mails_rise (mails_of mails (left ++ listing_synced kind changes listing)) ≡ true
        by left (inl goes) rest =
            subst (λ (l : List Listed). mails_rise (mails_of mails
            (l ++ listing_synced kind changes listing)) ≡ true) (sym goes) rest
        by left (inr same) rest =
            subst (λ (l : List Listed). mails_rise (mails_of mails
            (l ++ listing_synced kind changes listing)) ≡ true) (sym same.2)
            (synced_behind (with_mail mails same.0) listing
            (rise_same (with_mail mails listed) (with_mail mails same.0) (mails_of mails listing)
            (ap (λ (id : _). mail_of mails id.0) same.1) ∙ rise))
