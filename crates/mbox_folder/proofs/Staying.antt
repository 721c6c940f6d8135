-- Messages at the front of a file that stand as they are listed, and the others, which are new.
use Rattle.std.proofs.Common.{◌≡◌, ◌<◌, ◌+◌, ◌-◌, ◌++◌, ◌&&◌, ℕ, suc, Bool, true, false, List}
use Rattle.std.proofs.Common.{[], ◌∷◌, Option, Some, None, length, map, take, drop, if◌then◌else◌}
use Rattle.std.proofs.Common.{refl, sym, ◌∙◌, ap, arith, add-one}
use Rattle.std.specs.Str.{bytes_eq}
use Rattle.std.specs.Bool.{beq}
use Rattle.std.proofs.lemmas.Bool.{and_from, and_parts}
use Rattle.std.proofs.lemmas.List.{length-map}
use Rattle.std.proofs.lemmas.List.Elements.{All-head, All-tail}
use Rattle.std.proofs.lemmas.Slice.Eq.{bytes_eq-Decides}
use Rattle.mail_base.specs.declared.flags.Flags.{Flags}
use Rattle.folder_letters.specs.Letters.{Mail}
use Rattle.folder_letters.specs.declared.listing.Listed.{Listed}
use Rattle.folder_core.specs.Keeping.{KeepCores, ListedMail, PlacedById, count_fresh, kept_front}
use Rattle.folder_core.specs.Keeping.{letters_by, listed_by, mails_of, same_flags, with_mail}
use Rattle.folder_core.specs.Mbox.{AreAll, AreFirst, core, mbox_letter, mbox_message, status}
use Rattle.folder_core.specs.Message.{Message}
use Rattle.folder_core.proofs.DifferenceLemmas.{AreBelow}
use Rattle.folder_core.proofs.KeepingLemmas.{EachIs, KeptAre, listed_mail}
use Rattle.mbox_folder.specs.ListedFile.{letters_from, listed_from, stay_count, stays}

-- what each message of these was known as
abbrev pub keeps_of : List ListedMail → List (List ℕ) → List (Option ℕ)
keeps_of old raws = kept_front core old (map mbox_message raws)

-- the letter of a message
abbrev pub letter_by : ℕ → Message → Mail
letter_by id message = mbox_letter id message.raw

-- Flags and cores that are tested alike are alike.

beq_same : (a b : Bool) → beq a b ≡ true → a ≡ b
beq_same true true is = refl
beq_same true false is = cc
beq_same false true is = cc
beq_same false false is = refl

beq_itself : (a : Bool) → beq a a ≡ true
beq_itself true = refl
beq_itself false = refl

pub flags_same : (f g : Flags) → same_flags f g ≡ true → f ≡ g
flags_same f g is =
    let six = and_parts (((((beq f.seen g.seen && beq f.aged g.aged) && beq f.replied g.replied)
    && beq f.flagged g.flagged) && beq f.passed g.passed) && beq f.draft g.draft)
    (beq f.trashed g.trashed) is in
    let five = and_parts ((((beq f.seen g.seen && beq f.aged g.aged) && beq f.replied g.replied)
    && beq f.flagged g.flagged) && beq f.passed g.passed) (beq f.draft g.draft) six.0 in
    let four = and_parts (((beq f.seen g.seen && beq f.aged g.aged) && beq f.replied g.replied)
    && beq f.flagged g.flagged) (beq f.passed g.passed) five.0 in
    let three = and_parts ((beq f.seen g.seen && beq f.aged g.aged) && beq f.replied g.replied)
    (beq f.flagged g.flagged) four.0 in
    let two = and_parts (beq f.seen g.seen && beq f.aged g.aged)
    (beq f.replied g.replied) three.0 in
    let one = and_parts (beq f.seen g.seen) (beq f.aged g.aged) two.0 in
    let a : f.seen ≡ g.seen = beq_same f.seen g.seen one.0 in
    let b : f.aged ≡ g.aged = beq_same f.aged g.aged one.1 in
    let c : f.replied ≡ g.replied = beq_same f.replied g.replied two.1 in
    let d : f.flagged ≡ g.flagged = beq_same f.flagged g.flagged three.1 in
    let e : f.passed ≡ g.passed = beq_same f.passed g.passed four.1 in
    let h : f.draft ≡ g.draft = beq_same f.draft g.draft five.1 in
    let j : f.trashed ≡ g.trashed = beq_same f.trashed g.trashed six.1 in
    λ i. record {
      seen = a i;
      aged = b i;
      replied = c i;
      flagged = d i;
      passed = e i;
      draft = h i;
      trashed = j i;
    }

pub flags_itself : (f : Flags) → same_flags f f ≡ true
flags_itself f =
    and_from _ _ (and_from _ _ (and_from _ _ (and_from _ _ (and_from _ _ (and_from _ _
    (beq_itself f.seen) (beq_itself f.aged)) (beq_itself f.replied)) (beq_itself f.flagged))
    (beq_itself f.passed)) (beq_itself f.draft)) (beq_itself f.trashed)

pub stays_parts : (listed : ListedMail) (raw : List ℕ) → stays listed raw ≡ true
    → (listed.mail.core ≡ core raw) × (listed.flags ≡ status raw)
stays_parts listed raw is =
    let parts = and_parts (bytes_eq listed.mail.core (core raw))
    (same_flags listed.flags (status raw)) is in (
      (bytes_eq-Decides listed.mail.core (core raw)).0 parts.0,
      flags_same listed.flags
          (status raw) parts.1,
    )

pub stays_from : (listed : ListedMail) (raw : List ℕ) → listed.mail.core ≡ core raw
    → listed.flags ≡ status raw → stays listed raw ≡ true
stays_from listed raw same flags =
    and_from (bytes_eq listed.mail.core (core raw)) (same_flags listed.flags (status raw))
    ((bytes_eq-Decides listed.mail.core (core raw)).1 same)
    (ap (same_flags listed.flags) (sym flags) ∙ flags_itself listed.flags)

-- How many are new.

fresh_all : (raws : List (List ℕ)) → count_fresh (keeps_of [] raws) ≡ length raws
fresh_all [] = refl
fresh_all (raw ∷ raws) = omega (arith, fresh_all raws)

pub count_both : (old : List ListedMail) (raws : List (List ℕ))
    → count_fresh (keeps_of old raws) + stay_count old raws ≡ length raws
count_both [] [] = refl
count_both (listed ∷ old) [] = refl
count_both [] (raw ∷ raws) = omega (arith, fresh_all raws)
count_both (listed ∷ old) (raw ∷ raws) =
    by_test (stays listed raw) (count_both old raws) (fresh_all raws)
  where
    by_test : (t : Bool) → count_fresh (keeps_of old raws) + stay_count old raws ≡ length raws
        → count_fresh (keeps_of [] raws) ≡ length raws
        → count_fresh (if t then Some listed.id ∷ keeps_of old raws else None ∷ keeps_of [] raws)
        + (if t then stay_count old raws + 1 else 0) ≡ length (raw ∷ raws)
    by_test true both fresh = omega (arith, both)
    by_test false both fresh = omega (arith, fresh)

-- as many as do not stand as they are listed
pub fresh_count : (old : List ListedMail) (raws : List (List ℕ))
    → count_fresh (keeps_of old raws) ≡ length raws - stay_count old raws
fresh_count old raws = omega (arith, count_both old raws)

-- Letters and listing.

letters_all : (next : ℕ) (raws : List (List ℕ))
    → letters_by letter_by next (keeps_of [] raws) (map mbox_message raws) ≡ letters_from next raws
letters_all next [] = refl
letters_all next (raw ∷ raws) =
    ap (λ (l : List Mail). mbox_letter next raw ∷ l) (letters_all (next + 1) raws)

listed_all : (next : ℕ) (raws : List (List ℕ))
    → listed_by next (keeps_of [] raws) (map mbox_message raws) ≡ listed_from next raws
listed_all next [] = refl
listed_all next (raw ∷ raws) =
    ap (λ (l : List Listed). record { id = record { 0 = next }; flags = status raw } ∷ l)
    (listed_all (next + 1) raws)

drop_one : (k : ℕ) (raw : List ℕ) (raws : List (List ℕ)) → drop (k + 1) (raw ∷ raws) ≡ drop k raws
drop_one k raw raws = ap (λ (n : ℕ). drop n (raw ∷ raws)) (add-one k)

pub letters_new : (next : ℕ) (old : List ListedMail) (raws : List (List ℕ))
    → letters_by letter_by next (keeps_of old raws) (map mbox_message raws)
    ≡ letters_from next (drop (stay_count old raws) raws)
letters_new next [] [] = refl
letters_new next (listed ∷ old) [] = refl
letters_new next [] (raw ∷ raws) = letters_all next (raw ∷ raws)
letters_new next (listed ∷ old) (raw ∷ raws) =
    by_test (stays listed raw) (letters_new next old raws)
  where
    by_test : (t : Bool)
        → letters_by letter_by next (keeps_of old raws) (map mbox_message raws)
        ≡ letters_from next (drop (stay_count old raws) raws)
        → letters_by letter_by next
        (if t then Some listed.id ∷ keeps_of old raws else None ∷ keeps_of [] raws)
        (map mbox_message (raw ∷ raws))
        ≡ letters_from next (drop (if t then stay_count old raws + 1 else 0) (raw ∷ raws))
    by_test true again = again
        ∙ ap (letters_from next) (sym (drop_one (stay_count old raws) raw raws))
    by_test false again = letters_all next (raw ∷ raws)

pub listing_new : (next : ℕ) (mails : List Mail) (old : List Listed) (raws : List (List ℕ))
    → listed_by next (keeps_of (mails_of mails old) raws) (map mbox_message raws)
    ≡ take (stay_count (mails_of mails old) raws) old
    ++ listed_from next (drop (stay_count (mails_of mails old) raws) raws)
listing_new next mails [] [] = refl
listing_new next mails (listed ∷ old) [] = refl
listing_new next mails [] (raw ∷ raws) = listed_all next (raw ∷ raws)
listing_new next mails (listed ∷ old) (raw ∷ raws) =
    by_test (stays (with_mail mails listed) raw) refl (listing_new next mails old raws)
  where
    rest : List ListedMail
    rest = mails_of mails old

    by_test : (t : Bool) → stays (with_mail mails listed) raw ≡ t
        → listed_by next (keeps_of rest raws) (map mbox_message raws)
        ≡ take (stay_count rest raws) old ++ listed_from next (drop (stay_count rest raws) raws)
        → listed_by next
        (if t then Some listed.id.0 ∷ keeps_of rest raws else None ∷ keeps_of [] raws)
        (map mbox_message (raw ∷ raws))
        ≡ take (if t then stay_count rest raws + 1 else 0) (listed ∷ old)
        ++ listed_from next (drop (if t then stay_count rest raws + 1 else 0) (raw ∷ raws))
    by_test true is again =
        ap (λ (f : Flags). record { id = record { 0 = listed.id.0 }; flags = f }
        ∷ listed_by next (keeps_of rest raws) (map mbox_message raws))
        (sym (stays_parts (with_mail mails listed) raw is).1)
        ∙ ap (λ (l : List Listed). listed ∷ l) again
        ∙ ap (λ (n : ℕ). take n (listed ∷ old)
        ++ listed_from next (drop (stay_count rest raws) raws))
        (sym (add-one (stay_count rest raws)))
        ∙ ap (λ (l : List (List ℕ)). take (stay_count rest raws + 1) (listed ∷ old)
        ++ listed_from next l) (sym (drop_one (stay_count rest raws) raw raws))
    by_test false is again = listed_all next (raw ∷ raws)

-- What is so of those that stay.

pub cores_kept : (mails : List Mail) (old : List Listed) (raws : List (List ℕ))
    → KeepCores core mails (keeps_of (mails_of mails old) raws) (map mbox_message raws)
cores_kept mails [] [] = tt
cores_kept mails (listed ∷ old) [] = tt
cores_kept mails [] (raw ∷ raws) = cores_kept mails [] raws
cores_kept mails (listed ∷ old) (raw ∷ raws) =
    by_test (stays (with_mail mails listed) raw) refl (cores_kept mails old raws)
    (cores_kept mails [] raws)
  where
    rest : List ListedMail
    rest = mails_of mails old

    by_test : (t : Bool) → stays (with_mail mails listed) raw ≡ t
        → KeepCores core mails (keeps_of rest raws) (map mbox_message raws)
        → KeepCores core mails (keeps_of [] raws) (map mbox_message raws)
        → KeepCores core mails
        (if t then Some listed.id.0 ∷ keeps_of rest raws else None ∷ keeps_of [] raws)
        (map mbox_message (raw ∷ raws))
    by_test true is again none = ((stays_parts (with_mail mails listed) raw is).0, again)
    by_test false is again none = none

-- a listed message is one of an mbox: its letter has its id as its place and no key, and is that of
-- the message
pub record IsMessage (listed : ListedMail) (message : Message) : Type 0 where
  pub order : listed.mail.order ≡ listed.id
  pub key : listed.mail.key ≡ []
  pub core_is : listed.mail.core ≡ core message.raw
  pub flags_are : listed.flags ≡ message.flags

-- so is each new one
pub new_is : (id : ℕ) (message : Message)
    → IsMessage (listed_mail id message.flags (letter_by id message)) message
new_is id message = record { order = refl; key = refl; core_is = refl; flags_are = refl }

-- and each that stays
pub kept_are : (mails : List Mail) (old : List Listed) (raws : List (List ℕ))
    → AreBelow (length mails) old → PlacedById (mails_of mails old)
    → KeptAre IsMessage mails (keeps_of (mails_of mails old) raws) (map mbox_message raws)
kept_are mails [] [] below placed = tt
kept_are mails (listed ∷ old) [] below placed = tt
kept_are mails [] (raw ∷ raws) below placed = kept_are mails [] raws below placed
kept_are mails (listed ∷ old) (raw ∷ raws) below placed =
    by_test (stays (with_mail mails listed) raw) refl
    (kept_are mails old raws (All-tail (λ l. l.id.0 < length mails) listed old below) placed.1.1)
    (all_new raws)
  where
    rest : List ListedMail
    rest = mails_of mails old

    all_new : (more : List (List ℕ))
        → KeptAre IsMessage mails (keeps_of [] more) (map mbox_message more)
    all_new [] = tt
    all_new (r ∷ more) = all_new more

    by_test : (t : Bool) → stays (with_mail mails listed) raw ≡ t
        → KeptAre IsMessage mails (keeps_of rest raws) (map mbox_message raws)
        → KeptAre IsMessage mails (keeps_of [] raws) (map mbox_message raws)
        → KeptAre IsMessage mails
        (if t then Some listed.id.0 ∷ keeps_of rest raws else None ∷ keeps_of [] raws)
        (map mbox_message (raw ∷ raws))
    by_test true is again none = (
      (
        All-head (λ l. l.id.0 < length mails) listed old below,
        record {
          order = placed.0;
          key = placed.1.0;
          core_is = (stays_parts (with_mail mails listed) raw is).0;
          flags_are = refl;
        },
      ),
      again,
    )
    by_test false is again none = none

-- What follows for a listing of which each is so.

pub all_are : (listed : List ListedMail) (messages : List Message)
    → EachIs IsMessage listed messages
    → AreAll listed messages
all_are [] [] each = tt
all_are [] (message ∷ messages) each = absurd each
all_are (first ∷ listed) [] each = absurd each
all_are (first ∷ listed) (message ∷ messages) each =
    (each.0.core_is, (each.0.flags_are, all_are listed messages each.1))

pub first_are : (listed : List ListedMail) (messages : List Message)
    → EachIs IsMessage listed messages
    → AreFirst listed messages
first_are [] messages each = tt
first_are (first ∷ listed) [] each = absurd each
first_are (first ∷ listed) (message ∷ messages) each =
    (each.0.core_is, first_are listed messages each.1)

pub placed_are : (listed : List ListedMail) (messages : List Message)
    → EachIs IsMessage listed messages → PlacedById listed
placed_are [] messages each = tt
placed_are (first ∷ listed) [] each = absurd each
placed_are (first ∷ listed) (message ∷ messages) each =
    (each.0.order, (each.0.key, placed_are listed messages each.1))

-- Where all stand as they are listed.

all_stay : (old : List ListedMail) (raws : List (List ℕ)) → AreAll old (map mbox_message raws)
    → (stay_count old raws ≡ length raws) × (length old ≡ length raws)
all_stay [] [] all = (refl, refl)
all_stay [] (raw ∷ raws) all = absurd all
all_stay (listed ∷ old) [] all = absurd all
all_stay (listed ∷ old) (raw ∷ raws) all =
    let again = all_stay old raws all.1.1 in (
      ap (λ (t : Bool). if t then stay_count old raws + 1 else 0)
          (stays_from listed raw all.0 all.1.0)
          ∙ omega (arith, again.0),
      ap suc again.1,
    )

-- all stay, by the listing
pub unchanged : (mails : List Mail) (old : List Listed) (raws : List (List ℕ))
    → AreAll (mails_of mails old) (map mbox_message raws)
    → (stay_count (mails_of mails old) raws ≡ length raws) × (length old ≡ length raws)
unchanged mails old raws all =
    let both = all_stay (mails_of mails old) raws all in
    (both.0, sym (length-map old (with_mail mails)) ∙ both.1)
