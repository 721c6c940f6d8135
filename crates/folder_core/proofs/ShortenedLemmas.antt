-- A front of what is known of a folder is as right as the whole.
use Rattle.std.proofs.Common.{◌≡◌, ◌≤◌, ◌<◌, ◌∙◌, ℕ, zero, suc, Bool, true, false, List, []}
use Rattle.std.proofs.Common.{◌∷◌, Option, Some, None, length, take, drop, refl, sym, ap, subst}
use Rattle.std.proofs.Common.{arith, nat_lt, length-take-le, take-append-drop, if◌then◌else◌}
use Rattle.std.proofs.lemmas.Bool.{and_from, and_parts, ltb-true}
use Rattle.std.proofs.lemmas.List.{take-map}
use Rattle.std.proofs.lemmas.List.Elements.{All-cons, All-nil}
use Rattle.mail_base.specs.declared.kind.Kind.{Kind}
use Rattle.mail_base.specs.declared.kind.Kind.TheVariants.{Mbox, Maildir, Mh, Mmdf}
use Rattle.disk_model.specs.Journal.{Past}
use Rattle.folder_letters.specs.Letters.{Mail}
use Rattle.folder_letters.specs.declared.listing.Listed.{Listed}
use Rattle.folder_core.specs.Bore.{IfTold}
use Rattle.folder_core.specs.Keeping.{ListedMail, PlacedById, PlacedByKey, mails_of, with_mail}
use Rattle.folder_core.specs.Known.{KnownFolder, front_below, shortened, stamps_kept}
use Rattle.folder_core.specs.Mbox.{AreFirst}
use Rattle.folder_core.specs.Message.{Message}
use Rattle.folder_core.specs.Mh.{AllBore}
use Rattle.folder_core.specs.Reads.{format_of}
use Rattle.folder_core.specs.Right.{Right, mail_before, mails_rise}
use Rattle.folder_core.proofs.DifferenceLemmas.{AreBelow}
use Rattle.folder_core.proofs.RightLemmas.{mails_later}

-- The front of a listing.

pub front_count : (letters : ℕ) (listing : List Listed)
    → length (front_below letters listing) ≤ length listing
front_count letters [] = omega arith
front_count letters (listed ∷ listing) =
    by_test (nat_lt listed.id.0 letters) (front_count letters listing)
  where
    by_test : (t : Bool) → length (front_below letters listing) ≤ length listing
        → length (if t then listed ∷ front_below letters listing else [])
        ≤ length (listed ∷ listing)
    by_test true more = omega arith
    by_test false more = omega arith

pub front_take : (letters : ℕ) (listing : List Listed)
    → take (length (front_below letters listing)) listing ≡ front_below letters listing
front_take letters [] = refl
front_take letters (listed ∷ listing) =
    by_test (nat_lt listed.id.0 letters) (front_take letters listing)
  where
    by_test : (t : Bool)
        → take (length (front_below letters listing)) listing ≡ front_below letters listing
        → take (length (if t then listed ∷ front_below letters listing else []))
        (listed ∷ listing)
        ≡ (if t then listed ∷ front_below letters listing else [])
    by_test true more = ap (λ (l : List Listed). listed ∷ l) more
    by_test false more = refl

front_within : (letters : ℕ) (listing : List Listed)
    → AreBelow letters (front_below letters listing)
front_within letters [] = All-nil (λ l. l.id.0 < letters)
front_within letters (listed ∷ listing) =
    by_test (nat_lt listed.id.0 letters) refl (front_within letters listing)
  where
    by_test : (t : Bool) → nat_lt listed.id.0 letters ≡ t
        → AreBelow letters (front_below letters listing)
        → AreBelow letters (if t then listed ∷ front_below letters listing else [])
    by_test true is more =
        All-cons (λ l. l.id.0 < letters) listed (front_below letters listing)
        (ltb-true listed.id.0 letters is) more
    by_test false is more = All-nil (λ l. l.id.0 < letters)

-- the letters of a front are among the first so many
front_mails : (letters : ℕ) (mails : List Mail) (listing : List Listed) → letters ≤ length mails
    → mails_of (take letters mails) (front_below letters listing)
    ≡ take (length (front_below letters listing)) (mails_of mails listing)
front_mails letters mails listing few =
    let below : AreBelow (length (take letters mails)) (front_below letters listing) =
    subst (λ (n : ℕ). AreBelow n (front_below letters listing))
    (sym (length-take-le letters mails few)) (front_within letters listing) in
    sym (mails_later (take letters mails) (drop letters mails) (front_below letters listing) below)
    ∙ ap (λ (m : List Mail). mails_of m (front_below letters listing))
    (take-append-drop letters mails)
    ∙ ap (mails_of mails) (sym (front_take letters listing))
    ∙ sym (take-map (with_mail mails) (length (front_below letters listing)) listing)

-- What holds of listed messages holds of the first of them.

rise_front : (n : ℕ) (listed : List ListedMail) → mails_rise listed ≡ true
    → mails_rise (take n listed) ≡ true
rise_front zero listed rise = refl
rise_front (suc n) [] rise = refl
rise_front (suc zero) (a ∷ listed) rise = refl
rise_front (suc (suc n)) (a ∷ []) rise = refl
rise_front (suc (suc n)) (a ∷ b ∷ listed) rise =
    let parts = and_parts (mail_before a.mail b.mail) (mails_rise (b ∷ listed)) rise in
    and_from (mail_before a.mail b.mail) (mails_rise (take (suc n) (b ∷ listed))) parts.0
    (rise_front (suc n) (b ∷ listed) parts.1)

keys_front : (order_of : List ℕ → ℕ) (n : ℕ) (listed : List ListedMail)
    → PlacedByKey order_of listed → PlacedByKey order_of (take n listed)
keys_front order_of zero listed placed = tt
keys_front order_of (suc n) [] placed = tt
keys_front order_of (suc n) (first ∷ listed) placed =
    (placed.0, keys_front order_of n listed placed.1)

ids_front : (n : ℕ) (listed : List ListedMail) → PlacedById listed → PlacedById (take n listed)
ids_front zero listed placed = tt
ids_front (suc n) [] placed = tt
ids_front (suc n) (first ∷ listed) placed =
    (placed.0, (placed.1.0, ids_front n listed placed.1.1))

first_front : (n : ℕ) (listed : List ListedMail) (messages : List Message)
    → AreFirst listed messages → AreFirst (take n listed) messages
first_front zero listed messages first = tt
first_front (suc n) [] messages first = tt
first_front (suc n) (one ∷ listed) [] first = first
first_front (suc n) (one ∷ listed) (message ∷ messages) first =
    (first.0, first_front n listed messages first.1)

bore_front : (n : ℕ) (listed : List ListedMail) (stamps : List ℕ) (past : Past)
    → AllBore listed stamps past → AllBore (take n listed) (take n stamps) past
bore_front zero listed stamps past bore = refl
bore_front (suc n) [] stamps past bore = ap (take (suc n)) bore
bore_front (suc n) (first ∷ listed) [] past bore = bore
bore_front (suc n) (first ∷ listed) (stamp ∷ stamps) past bore =
    (bore.0, bore_front n listed stamps past bore.1)

told_front : (n : ℕ) (listed : List ListedMail) (stamps : List ℕ) (told : Option Past)
    → IfTold (AllBore listed stamps) told → IfTold (AllBore (take n listed) (take n stamps)) told
told_front n listed stamps None bore = tt
told_front n listed stamps (Some past) bore = bore_front n listed stamps past bore

no_stamps : (n : ℕ) → take {A = ℕ} n [] ≡ []
no_stamps zero = refl
no_stamps (suc n) = refl

-- what was read of listed messages was read of the first of them, with the stamps that stay
read_front : (kind : Kind) (n : ℕ) (listed : List ListedMail) (listing : List Listed)
    (known : KnownFolder) (told : Option Past) → (format_of kind).WasRead listed known told
    → (format_of kind).WasRead (take n listed)
    (record known { listing = listing; stamps = take (stamps_kept kind n) known.stamps }) told
read_front Mbox n listed listing known told read = record {
  placed = ids_front n listed read.placed;
  few = read.few;
  begins = read.begins;
  first = first_front n listed _ read.first;
  stamp = tt;
}
read_front Maildir n listed listing known told read = record {
  placed = keys_front _ n listed read.placed;
  bytes = read.bytes;
  stamps = ap (take n) read.stamps ∙ no_stamps n;
}
read_front Mh n listed listing known told read = record {
  placed = keys_front _ n listed read.placed;
  bytes = read.bytes;
  stamps = told_front n listed known.stamps told read.stamps;
}
read_front Mmdf n listed listing known told read = tt

-- What is right of a folder stays so where it is cut to the first letters.
pub right_shortened : (letters : ℕ) (mails : List Mail) (known : KnownFolder)
    (told : Option Past) → letters ≤ length mails → Right known.kind mails known told
    → Right known.kind (take letters mails) (shortened letters known) told
right_shortened letters mails known told few right =
    let front = front_below letters known.listing in
    let same = front_mails letters mails known.listing few in
    record {
      within = subst (λ (n : ℕ). AreBelow n front) (sym (length-take-le letters mails few))
          (front_within letters known.listing);
      ordered = ap mails_rise same
          ∙ rise_front (length front) (mails_of mails known.listing) right.ordered;
      few = omega (arith, right.few, front_count letters known.listing);
      read = subst (λ (l : List ListedMail). (format_of known.kind).WasRead l
          (shortened letters known) told) (sym same)
          (read_front known.kind (length front) (mails_of mails known.listing) front known told
          right.read);
    }
