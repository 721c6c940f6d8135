-- The listed messages of a folder by their numbers.
use Rattle.std.proofs.Common.{◌≡◌, ◌≤◌, ◌<◌, ◌&&◌, ◌==◌, ℕ, zero, suc, Bool, true, false, List}
use Rattle.std.proofs.Common.{[], ◌∷◌, Option, Some, None, length, nat_lt, nat_le, cond}
use Rattle.std.proofs.Common.{if◌then◌else◌}
use Rattle.std.proofs.Common.{refl, sym, ◌∙◌, ap, subst, arith}
use Rattle.std.specs.Prelude.{IfSome, slice_get, slice_index_or, unwrap_or}
use Rattle.std.specs.Cmp.Lexicographic.{slice_cmp}
use Rattle.std.specs.List.Sorted.{IsPartitionPoint}
use Rattle.std.specs.Ordering.{is_eq, is_lt, nat_cmp, ordering_then}
use Rattle.std.specs.Str.{bytes_eq}
use Rattle.std.specs.declared.cmp.Ordering.{Ordering}
use Rattle.std.specs.declared.cmp.Ordering.TheVariants.{Less, Equal, Greater}
use Rattle.std.proofs.lemmas.Bool.{and_from, and_parts}
use Rattle.std.proofs.lemmas.Bool.Decides.{nat_tests}
use Rattle.std.proofs.lemmas.Map.Text.{is_eq-slice_cmp}
use Rattle.std.proofs.lemmas.Slice.Eq.{bytes_eq-Decides}
use Rattle.disk_model.specs.Journal.{Past}
use Rattle.disk_model.proofs.Trees.{bytes_same}
use Rattle.folder_letters.specs.Letters.{Mail}
use Rattle.folder_letters.specs.declared.listing.Listed.{Listed}
use Rattle.folder_core.specs.Bore.{IfTold}
use Rattle.folder_core.specs.Keeping.{ListedMail, PlacedByKey, mail_of, mails_of, stamped}
use Rattle.folder_core.specs.Keeping.{with_mail}
use Rattle.folder_core.specs.Mh.{AllBore, number_at}
use Rattle.folder_core.specs.MhNumbers.{number_of}
use Rattle.folder_core.specs.Right.{mail_before, mails_rise}
use Rattle.mh_syncs.proofs.Decimals.{number_once, number_writes}
use Rattle.mh_folder.specs.KnownFile.{rises_from, file_if, file_in, file_of, files_of, id_at}
use Rattle.mh_folder.specs.KnownFile.{order_behind}
use Rattle.mh_folder.specs.Visit.{WasBorne}
use Rattle.mh_folder.specs.declared.known_file.KnownFile.{KnownFile}

true_false : ◌≡◌ {A = Bool} true false → ⊥
true_false e = cc

-- A number is written in one way.

number_there : (key : List ℕ) (n : ℕ) → number_at key ≡ suc n → number_of key ≡ Some (suc n)
number_there key n is = by_number (number_of key) is
  where
    by_number : (number : Option ℕ) → unwrap_or number 0 ≡ suc n → number ≡ Some (suc n)
    by_number None is = absurd (omega (arith, is))
    by_number (Some m) is = ap Some is

-- the key of a number is its name
pub key_is : (key name : List ℕ) (n : ℕ) → number_of name ≡ Some n → number_at key ≡ n → key ≡ name
key_is key name zero is at = absurd
    (let low : 1 ≤ zero = (number_writes name zero is).low in omega (arith, low))
key_is key name (suc n) is at = number_once key name (suc n) (number_there key n at) is

-- The numbers rise.

-- as a fact of each number
abbrev pub RisesFrom : ℕ → List KnownFile → Type 0
RisesFrom low [] = Unit {0}
RisesFrom low (file ∷ files) = (low ≤ file.order) × RisesFrom (order_behind file.order) files

pub risen : (low : ℕ) (files : List KnownFile) → rises_from low files ≡ true
    → RisesFrom low files
risen low [] is = tt
risen low (file ∷ files) is =
    let parts = and_parts (nat_le low file.order) (rises_from (order_behind file.order) files) is in
    let first : low ≤ file.order = (let h = parts.0 in grind (arith, nat_tests)) in
    (first, risen (order_behind file.order) files parts.1)

told_risen : (low : ℕ) (files : List KnownFile) → RisesFrom low files
    → rises_from low files ≡ true
told_risen low [] rises = refl
told_risen low (file ∷ files) rises =
    let first : nat_le low file.order ≡ true = (let h = rises.0 in grind (arith, nat_tests)) in
    and_from (nat_le low file.order) (rises_from (order_behind file.order) files) first
    (told_risen (order_behind file.order) files rises.1)

same_text : (a b : List ℕ) → a ≡ b → is_lt (slice_cmp nat_cmp a b) ≡ true → ⊥
same_text a b same less =
    by_order (slice_cmp nat_cmp a b) less
    (is_eq-slice_cmp a b ∙ (bytes_eq-Decides a b).1 same)
  where
    by_order : (r : Ordering) → is_lt r ≡ true → is_eq r ≡ true → ⊥
    by_order Less less equal = true_false (sym equal)
    by_order Equal less equal = true_false (sym less)
    by_order Greater less equal = true_false (sym less)

same_order : (n : ℕ) (a b : List ℕ) → number_at a ≡ n → number_at b ≡ n
    → is_lt (slice_cmp nat_cmp a b) ≡ true → order_behind n ≤ n
same_order zero a b first second less = omega arith
same_order (suc n) a b first second less =
    absurd (same_text a b (number_once a b (suc n) (number_there a n first)
    (number_there b n second)) less)

order_less : (n m : ℕ) → n < m → order_behind n ≤ m
order_less zero m less = omega arith
order_less (suc n) m less = omega (arith, less)

order_step : (a b : Mail) → a.order ≡ number_at a.key → b.order ≡ number_at b.key
    → mail_before a b ≡ true → order_behind a.order ≤ b.order
order_step a b first second before =
    by_tests (nat_lt a.order b.order) (a.order == b.order) refl refl before
  where
    by_tests : (p q : Bool) → nat_lt a.order b.order ≡ p → (a.order == b.order) ≡ q
        → is_lt (ordering_then (cond p Less (cond q Equal Greater))
        (slice_cmp nat_cmp a.key b.key)) ≡ true
        → order_behind a.order ≤ b.order
    by_tests true q ep eq before =
        order_less a.order b.order (grind (arith, nat_tests, ep))
    by_tests false true ep eq before =
        let same : a.order ≡ b.order = grind (arith, nat_tests, eq) in
        let low : order_behind a.order ≤ a.order =
        same_order a.order a.key b.key (sym first) (sym second ∙ sym same) before in
        omega (arith, low, same)
    by_tests false false ep eq before = absurd (true_false (sym before))

pub files_rise : (low : ℕ) (a : ListedMail) (old : List ListedMail) (stamps : List ℕ)
    → low ≤ a.mail.order → mails_rise (a ∷ old) ≡ true → PlacedByKey number_at (a ∷ old)
    → RisesFrom low (files_of (a ∷ old) stamps)
files_rise low a old [] first rise placed = tt
files_rise low a [] (stamp ∷ stamps) first rise placed = (first, tt)
files_rise low a (b ∷ old) (stamp ∷ stamps) first rise placed =
    let parts = and_parts (mail_before a.mail b.mail) (mails_rise (b ∷ old)) rise in (
      first,
      files_rise (order_behind a.mail.order) b old stamps
          (order_step a.mail b.mail placed.0 placed.1.0 parts.0) parts.1 placed.1,
    )

-- the listed messages by their numbers
pub all_rise : (old : List ListedMail) (stamps : List ℕ) → mails_rise old ≡ true
    → PlacedByKey number_at old → RisesFrom 0 (files_of old stamps)
all_rise [] stamps rise placed = tt
all_rise (a ∷ old) stamps rise placed = files_rise 0 a old stamps (omega arith) rise placed

pub all_risen : (old : List ListedMail) (stamps : List ℕ) → mails_rise old ≡ true
    → PlacedByKey number_at old → rises_from 0 (files_of old stamps) ≡ true
all_risen old stamps rise placed =
    told_risen 0 (files_of old stamps) (all_rise old stamps rise placed)

-- The listed message of a number.

behind_above : (n m : ℕ) → n < m → n < order_behind m
behind_above n zero less = absurd (omega (arith, less))
behind_above n (suc m) less = omega (arith, less)

behind_same : (n : ℕ) → 1 ≤ n → n < order_behind n
behind_same zero low = absurd (omega (arith, low))
behind_same (suc n) low = omega arith

not_same : (n m : ℕ) → n < m → (m == n) ≡ false
not_same n m less = grind (arith, nat_tests)

-- a number before all has no message
none_in : (low n : ℕ) (files : List KnownFile) → RisesFrom low files → n < low
    → file_in files n ≡ None
none_in low n [] rises less = refl
none_in low n (file ∷ files) rises less =
    let high : n < file.order = omega (arith, less, rises.0) in
    ap (λ (t : Bool). if t then Some file else file_in files n) (not_same n file.order high)
    ∙ none_in (order_behind file.order) n files rises.1 (behind_above n file.order high)

-- the message of a name is the one of its number
pub found_keeps : (low : ℕ) (old : List ListedMail) (stamps name : List ℕ) (n : ℕ)
    → number_of name ≡ Some n → RisesFrom low (files_of old stamps) → PlacedByKey number_at old
    → (stamp : ℕ) → stamped old stamps name stamp ≡ id_at (file_in (files_of old stamps) n) stamp
found_keeps low [] stamps name n is rises placed stamp = refl
found_keeps low (listed ∷ old) [] name n is rises placed stamp = refl
found_keeps low (listed ∷ old) (known ∷ stamps) name n is rises placed stamp =
    by_tests (listed.mail.order == n) (bytes_eq listed.mail.key name) refl refl
    (found_keeps (order_behind listed.mail.order) old stamps name n is rises.1 placed.1 stamp)
  where
    rest_none : listed.mail.order ≡ n → file_in (files_of old stamps) n ≡ None
    rest_none same =
        none_in (order_behind listed.mail.order) n (files_of old stamps) rises.1
        (subst (λ (m : ℕ). n < order_behind m) (sym same)
        (behind_same n (number_writes name n is).low))

    by_tests : (p k : Bool) → (listed.mail.order == n) ≡ p → bytes_eq listed.mail.key name ≡ k
        → stamped old stamps name stamp ≡ id_at (file_in (files_of old stamps) n) stamp
        → (if k && known == stamp then Some listed.id else stamped old stamps name stamp)
        ≡ id_at (if p then Some (file_of listed known) else file_in (files_of old stamps) n) stamp
    by_tests true true ep ek again =
        let same : listed.mail.order ≡ n = grind (arith, nat_tests, ep) in
        ap (λ (r : Option ℕ). if known == stamp then Some listed.id else r)
        (again ∙ ap (λ (f : Option KnownFile). id_at f stamp) (rest_none same))
    by_tests true false ep ek again =
        let same : listed.mail.order ≡ n = grind (arith, nat_tests, ep) in
        absurd (true_false (sym ((bytes_eq-Decides listed.mail.key name).1
        (key_is listed.mail.key name n is (sym placed.0 ∙ same))) ∙ ek))
    by_tests false true ep ek again =
        let same : listed.mail.order ≡ n =
        placed.0 ∙ ap number_at (bytes_same listed.mail.key name ek)
        ∙ ap (λ (m : Option ℕ). unwrap_or m 0) is in
        absurd (true_false (grind (arith, nat_tests, ep, same)))
    by_tests false false ep ek again = again

-- its letter is as long as it is known
pub found_size : (mails : List Mail) (listing : List Listed) (stamps : List ℕ) (n : ℕ)
    → IfSome (file_in (files_of (mails_of mails listing) stamps) n)
    (λ file. file.size ≡ length (mail_of mails file.id.0).core)
found_size mails [] stamps n = tt
found_size mails (listed ∷ listing) [] n = tt
found_size mails (listed ∷ listing) (stamp ∷ stamps) n =
    by_test ((mail_of mails listed.id.0).order == n) (found_size mails listing stamps n)
  where
    by_test : (t : Bool) → IfSome (file_in (files_of (mails_of mails listing) stamps) n)
        (λ file. file.size ≡ length (mail_of mails file.id.0).core)
        → IfSome (if t then Some (file_of (with_mail mails listed) stamp)
        else file_in (files_of (mails_of mails listing) stamps) n)
        (λ file. file.size ≡ length (mail_of mails file.id.0).core)
    by_test true again = refl
    by_test false again = again

-- its letter was read from a file with its stamp
borne_past : (mails : List Mail) (listing : List Listed) (stamps : List ℕ) (n : ℕ) (past : Past)
    → AllBore (mails_of mails listing) stamps past
    → IfSome (file_in (files_of (mails_of mails listing) stamps) n)
    (λ file. WasBorne mails file (Some past))
borne_past mails [] stamps n past all = tt
borne_past mails (listed ∷ listing) [] n past all = tt
borne_past mails (listed ∷ listing) (stamp ∷ stamps) n past all =
    by_test ((mail_of mails listed.id.0).order == n) (borne_past mails listing stamps n past all.1)
  where
    by_test : (t : Bool) → IfSome (file_in (files_of (mails_of mails listing) stamps) n)
        (λ file. WasBorne mails file (Some past))
        → IfSome (if t then Some (file_of (with_mail mails listed) stamp)
        else file_in (files_of (mails_of mails listing) stamps) n)
        (λ file. WasBorne mails file (Some past))
    by_test true again = all.0
    by_test false again = again

borne_untold : (mails : List Mail) (found : Option KnownFile)
    → IfSome found (λ file. WasBorne mails file None)
borne_untold mails None = tt
borne_untold mails (Some file) = tt

pub found_borne : (mails : List Mail) (listing : List Listed) (stamps : List ℕ) (n : ℕ)
    (told : Option Past) → IfTold (AllBore (mails_of mails listing) stamps) told
    → IfSome (file_in (files_of (mails_of mails listing) stamps) n)
    (λ file. WasBorne mails file told)
found_borne mails listing stamps n None all =
    borne_untold mails (file_in (files_of (mails_of mails listing) stamps) n)
found_borne mails listing stamps n (Some past) all = borne_past mails listing stamps n past all

-- A search in halves.

-- it has a lower number
abbrev pub is_below : ℕ → KnownFile → Bool
is_below n file = nat_lt file.order n

below_false : (n m : ℕ) → n ≤ m → nat_lt m n ≡ false
below_false n m high = grind (arith, nat_tests)

-- each message has this number or a higher one
each_high : (low j : ℕ) (d : KnownFile) (files : List KnownFile) → RisesFrom low files
    → j < length files → low ≤ (slice_index_or files j d).order
each_high low j d [] rises within = absurd (omega (arith, within))
each_high low zero d (file ∷ files) rises within = rises.0
each_high low (suc j) d (file ∷ files) rises within =
    let high : order_behind file.order ≤ (slice_index_or files j d).order =
    each_high (order_behind file.order) j d files rises.1 (omega (arith, within)) in
    let step : file.order ≤ order_behind file.order = behind_high file.order in
    omega (arith, rises.0, high, step)
  where
    behind_high : (n : ℕ) → n ≤ order_behind n
    behind_high zero = omega arith
    behind_high (suc n) = omega arith

below_less : (n a b : ℕ) → a ≤ b → nat_lt b n ≡ true → nat_lt a n ≡ true
below_less n a b less low = grind (arith, nat_tests)

-- the messages with lower numbers stand in front
pub parted : (n low : ℕ) (files : List KnownFile) → RisesFrom low files
    → (i j : ℕ) (d : KnownFile) → i ≤ j → j < length files
    → is_below n (slice_index_or files j d) ≡ true → is_below n (slice_index_or files i d) ≡ true
parted n low [] rises i j d less within below = absurd (omega (arith, within))
parted n low (file ∷ files) rises zero zero d less within below = below
parted n low (file ∷ files) rises (suc i) zero d less within below = absurd (omega (arith, less))
parted n low (file ∷ files) rises zero (suc j) d less within below =
    let high : file.order ≤ (slice_index_or (file ∷ files) (suc j) d).order =
    each_high file.order (suc j) d (file ∷ files) (omega arith, rises.1) within in
    below_less n file.order (slice_index_or files j d).order high below
parted n low (file ∷ files) rises (suc i) (suc j) d less within below =
    parted n (order_behind file.order) files rises.1 i j d (omega (arith, less))
    (omega (arith, within)) below

-- the message of a number is the first that has no lower one, or there is none
pub searched : (n low i : ℕ) (files : List KnownFile) → RisesFrom low files
    → IsPartitionPoint (λ f. is_below n f ≡ true) (λ f. is_below n f ≡ false) files i
    → file_in files n ≡ file_if n (slice_get files i)
searched n low i [] rises point = refl
searched n low zero (file ∷ files) rises point =
    by_test (file.order == n) refl
  where
    here : nat_lt file.order n ≡ false
    here = point.1 0 file (omega arith) (omega arith)

    by_test : (t : Bool) → (file.order == n) ≡ t
        → (if t then Some file else file_in files n) ≡ (if t then Some file else None)
    by_test true is = refl
    by_test false is =
        let high : n < file.order = grind (arith, nat_tests, is, here) in
        none_in (order_behind file.order) n files rises.1 (behind_above n file.order high)
searched n low (suc i) (file ∷ files) rises point =
    let below : nat_lt file.order n ≡ true = point.0 0 file (omega arith) (omega arith) in
    let other : (file.order == n) ≡ false = grind (arith, nat_tests, below) in
    ap (λ (t : Bool). if t then Some file else file_in files n) other
    ∙ searched n (order_behind file.order) i files rises.1 (
      (λ j d less high. point.0 (suc j) d (omega (arith, less)) (omega (arith, high))),
      (λ j d less high. point.1 (suc j) d (omega (arith, less)) (omega (arith, high))),
    )
