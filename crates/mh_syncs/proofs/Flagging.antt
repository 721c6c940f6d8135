-- Flags by sequences that were written.
use Rattle.std.proofs.Common.{◌≡◌, ◌==◌, ◌&&◌, ℕ, Bool, true, false, not}
use Rattle.std.proofs.Common.{List, [], ◌∷◌, Option, Some, None, refl, sym, ◌∙◌, ap, arith}
use Rattle.std.proofs.Common.{if◌then◌else◌, is_some}
use Rattle.std.proofs.lemmas.Bool.{eqb-true}
use Rattle.std.proofs.lemmas.Bool.Decides.{nat_tests}
use Rattle.std.proofs.lemmas.Slice.Eq.{bytes_eq-Decides}
use Rattle.std.specs.Option.{option_or}
use Rattle.std.specs.Prelude.{codes, unwrap_or}
use Rattle.std.specs.Str.{bytes_eq}
use Rattle.mail_base.specs.declared.flags.Flags.{Flags}
use Rattle.disk_model.proofs.Trees.{bytes_same}
use Rattle.index_items.specs.Changes.{Alters, Changed, Discards, PlainChange}
use Rattle.folder_letters.specs.Letters.{Mail}
use Rattle.folder_core.specs.Keeping.{mail_of}
use Rattle.folder_core.specs.Mh.{is_number, number_at}
use Rattle.folder_core.specs.MhNumbers.{number_of}
use Rattle.folder_core.specs.MhSequences.{mh_flags}
use Rattle.folder_changes.specs.Asked.{AreApart, what_of}
use Rattle.folder_drivers.specs.MhSync.{flags_wanted, sequences_wanted, with_change, with_changes}
use Rattle.folder_drivers.specs.MhSync.{with_flags}
use Rattle.mh_sequences.specs.Laws.{are_upright}
use Rattle.mh_sequences.specs.SequenceLine.{PlainLine}
use Rattle.mh_sequences.specs.Sequences.{file_of, holds, put, sequences_of, without_number}
use Rattle.mh_sequences.proofs.ChangeLemmas.{drop_takes, put_changes}
use Rattle.mh_sequences.proofs.UprightLemmas.{stays_upright}
use Rattle.mh_sequences.proofs.WrittenLemmas.{holds_written}
use Rattle.mh_syncs.specs.Numbers.{AreNumbers}
use Rattle.mh_syncs.proofs.Decimals.{number_once}
use Rattle.mh_syncs.proofs.Changing.{changed_good}
use Rattle.mh_syncs.proofs.Reading.{read_good}
use Rattle.mh_syncs.proofs.Writing.{AreGood, written_holds}

-- the flags that lines give a number
abbrev flags_in : List PlainLine → ℕ → Flags
flags_in lines n = record {
  seen = not (holds (codes "unseen") n lines);
  aged = not (holds (codes "unseen") n lines);
  replied = holds (codes "replied") n lines;
  flagged = holds (codes "flagged") n lines;
  passed = false;
  draft = false;
  trashed = false;
}

not_not : (t : Bool) → not (not t) ≡ t
not_not true = refl
not_not false = refl

same_number : (n : ℕ) → (n == n) ≡ true
same_number n = grind (arith, nat_tests)

-- One change.

-- what is put of one number is said of it alone
put_at : (lines : List PlainLine) (a b : List ℕ) (n m : ℕ) (member t : Bool)
    → are_upright lines ≡ true → (m == n) ≡ t
    → holds b m (put a n member lines)
    ≡ (if bytes_eq a b && t then member else holds b m lines)
put_at lines a b n m member t up is =
    put_changes lines a b n m member up
    ∙ ap (λ (x : Bool). if bytes_eq a b && x then member else holds b m lines) is

module _ (n : ℕ) (f : Flags) (lines : List PlainLine) (up : are_upright lines ≡ true) where
  abbrev first : List PlainLine
  first = put (codes "unseen") n (not f.seen) lines

  abbrev second : List PlainLine
  second = put (codes "flagged") n f.flagged first

  up_first : are_upright first ≡ true
  up_first = stays_upright.1 lines (codes "unseen") n (not f.seen) up

  up_second : are_upright second ≡ true
  up_second = stays_upright.1 first (codes "flagged") n f.flagged up_first

  pub up_flags : are_upright (with_flags n f lines) ≡ true
  up_flags = stays_upright.1 second (codes "replied") n f.replied up_second

  unseen_is : (m : ℕ) (t : Bool) → (m == n) ≡ t → holds (codes "unseen") m (with_flags n f lines)
      ≡ (if t then not f.seen else holds (codes "unseen") m lines)
  unseen_is m t is =
      put_at second (codes "replied") (codes "unseen") n m f.replied t up_second is
      ∙ put_at first (codes "flagged") (codes "unseen") n m f.flagged t up_first is
      ∙ put_at lines (codes "unseen") (codes "unseen") n m (not f.seen) t up is

  flagged_is : (m : ℕ) (t : Bool) → (m == n) ≡ t
      → holds (codes "flagged") m (with_flags n f lines)
      ≡ (if t then f.flagged else holds (codes "flagged") m lines)
  flagged_is m t is =
      put_at second (codes "replied") (codes "flagged") n m f.replied t up_second is
      ∙ put_at first (codes "flagged") (codes "flagged") n m f.flagged t up_first is
      ∙ by t
    where
      by : (t : Bool) → (if t then f.flagged else holds (codes "flagged") m first)
          ≡ (if t then f.flagged else holds (codes "flagged") m lines)
      by true = refl
      by false = put_changes lines (codes "unseen") (codes "flagged") n m (not f.seen) up

  replied_is : (m : ℕ) (t : Bool) → (m == n) ≡ t
      → holds (codes "replied") m (with_flags n f lines)
      ≡ (if t then f.replied else holds (codes "replied") m lines)
  replied_is m t is =
      put_at second (codes "replied") (codes "replied") n m f.replied t up_second is
      ∙ by t
    where
      by : (t : Bool) → (if t then f.replied else holds (codes "replied") m second)
          ≡ (if t then f.replied else holds (codes "replied") m lines)
      by true = refl
      by false =
          put_changes first (codes "flagged") (codes "replied") n m f.flagged up_first
          ∙ put_changes lines (codes "unseen") (codes "replied") n m (not f.seen) up

  flags_other : (m : ℕ) → (m == n) ≡ false → flags_in (with_flags n f lines) m ≡ flags_in lines m
  flags_other m is = λ i. record {
    seen = not (unseen_is m false is i);
    aged = not (unseen_is m false is i);
    replied = replied_is m false is i;
    flagged = flagged_is m false is i;
    passed = false;
    draft = false;
    trashed = false;
  }

  flags_same : flags_in (with_flags n f lines) n
      ≡ record {
        seen = f.seen;
        aged = f.seen;
        replied = f.replied;
        flagged = f.flagged;
        passed = false;
        draft = false;
        trashed = false;
      }
  flags_same = λ i. record {
    seen = (ap not (unseen_is n true (same_number n)) ∙ not_not f.seen) i;
    aged = (ap not (unseen_is n true (same_number n)) ∙ not_not f.seen) i;
    replied = replied_is n true (same_number n) i;
    flagged = flagged_is n true (same_number n) i;
    passed = false;
    draft = false;
    trashed = false;
  }

module _ (sequences : List ℕ) (n : ℕ) (lines : List PlainLine)
    (up : are_upright lines ≡ true) where
  up_change : (change : PlainChange)
      → are_upright (with_change sequences n change lines) ≡ true
  up_change (Alters added cleared) =
      up_flags n (flags_wanted sequences (Some (Alters added cleared)) n) lines up
  up_change Discards = stays_upright.2 lines n up

  change_other : (change : PlainChange) (m : ℕ) → (m == n) ≡ false
      → flags_in (with_change sequences n change lines) m ≡ flags_in lines m
  change_other (Alters added cleared) m is =
      flags_other n (flags_wanted sequences (Some (Alters added cleared)) n) lines up m is
  change_other Discards m is = λ i. record {
    seen = not (kept (codes "unseen") i);
    aged = not (kept (codes "unseen") i);
    replied = kept (codes "replied") i;
    flagged = kept (codes "flagged") i;
    passed = false;
    draft = false;
    trashed = false;
  }
    where
      kept : (name : List ℕ) → holds name m (without_number n lines) ≡ holds name m lines
      kept name = drop_takes lines name n m
          ∙ ap (λ (t : Bool). not t && holds name m lines) is

  change_same : (change : PlainChange)
      → flags_in (with_change sequences n change lines) n
      ≡ flags_wanted sequences (Some change) n
  change_same (Alters added cleared) =
      flags_same n (flags_wanted sequences (Some (Alters added cleared)) n) lines up
  change_same Discards = λ i. record {
    seen = not (gone (codes "unseen") i);
    aged = not (gone (codes "unseen") i);
    replied = gone (codes "replied") i;
    flagged = gone (codes "flagged") i;
    passed = false;
    draft = false;
    trashed = false;
  }
    where
      gone : (name : List ℕ) → holds name n (without_number n lines) ≡ false
      gone name = drop_takes lines name n n
          ∙ ap (λ (t : Bool). not t && holds name n lines) (same_number n)

-- All changes.

-- the flags that are wanted, where those are had that lines give
abbrev flags_by : List ℕ → Option PlainChange → Flags → ℕ → Flags
flags_by sequences None had n = had
flags_by sequences (Some change) had n = flags_wanted sequences (Some change) n

number_some : (name : List ℕ) → is_number name ≡ true → number_of name ≡ Some (number_at name)
number_some name is = by (number_of name) is
  where
    by : (number : Option ℕ) → is_some number ≡ true → number ≡ Some (unwrap_or number 0)
    by None is = absurd (cc)
    by (Some n) is = refl

-- names that differ have numbers that differ
other_number : (a b : List ℕ) → is_number a ≡ true → is_number b ≡ true
    → bytes_eq a b ≡ false → (number_at a == number_at b) ≡ false
other_number a b first second other = by (number_at a == number_at b) refl
  where
    true_false : ◌≡◌ {A = Bool} true false → ⊥
    true_false e = cc

    by : (t : Bool) → (number_at a == number_at b) ≡ t
        → (number_at a == number_at b) ≡ false
    by false is = is
    by true is = absurd (true_false (sym ((bytes_eq-Decides a b).1
        (number_once a b (number_at b)
        (number_some a first ∙ ap Some (eqb-true (number_at a) (number_at b) is))
        (number_some b second))) ∙ other))

changes_follow : (mails : List Mail) (changes : List Changed) (sequences : List ℕ)
    (lines : List PlainLine) → are_upright lines ≡ true → AreApart mails changes
    → AreNumbers mails changes → (name : List ℕ) → is_number name ≡ true
    → flags_in (with_changes sequences mails changes lines) (number_at name)
    ≡ flags_by sequences (what_of mails changes name) (flags_in lines (number_at name))
    (number_at name)
changes_follow mails [] sequences lines up apart numbers name number = refl
changes_follow mails (changed ∷ changes) sequences lines up apart numbers name number =
    changes_follow mails changes sequences
    (with_change sequences (number_at (mail_of mails changed.id.0).key) changed.change lines)
    (up_change sequences (number_at (mail_of mails changed.id.0).key) lines up changed.change)
    apart.1 numbers.1 name number
    ∙ by (bytes_eq name (mail_of mails changed.id.0).key) refl
  where
    by : (t : Bool) → bytes_eq name (mail_of mails changed.id.0).key ≡ t
        → flags_by sequences (what_of mails changes name)
        (flags_in (with_change sequences (number_at (mail_of mails changed.id.0).key)
        changed.change lines) (number_at name)) (number_at name)
        ≡ flags_by sequences
        (option_or (if t then Some changed.change else None) (what_of mails changes name))
        (flags_in lines (number_at name)) (number_at name)
    by true is =
        let same = bytes_same name (mail_of mails changed.id.0).key is in
        ap (λ (o : Option PlainChange). flags_by sequences o
        (flags_in (with_change sequences (number_at (mail_of mails changed.id.0).key)
        changed.change lines) (number_at name)) (number_at name))
        (ap (what_of mails changes) same ∙ apart.0)
        ∙ ap (λ (n : ℕ). flags_in (with_change sequences
        (number_at (mail_of mails changed.id.0).key) changed.change lines) n)
        (ap number_at same)
        ∙ change_same sequences (number_at (mail_of mails changed.id.0).key) lines up
        changed.change
        ∙ sym (ap (λ (n : ℕ). flags_wanted sequences (Some changed.change) n)
        (ap number_at same))
    by false is = ap (λ (had : Flags). flags_by sequences (what_of mails changes name) had
        (number_at name))
        (change_other sequences (number_at (mail_of mails changed.id.0).key) lines up
        changed.change (number_at name)
        (other_number name (mail_of mails changed.id.0).key number numbers.0 is))

-- by the file of lines
file_flags : (lines : List PlainLine) (n : ℕ) → AreGood lines
    → mh_flags (file_of lines) n ≡ flags_in lines n
file_flags lines n good = λ i. record {
  seen = not (written_holds lines good (codes "unseen") n i);
  aged = not (written_holds lines good (codes "unseen") n i);
  replied = written_holds lines good (codes "replied") n i;
  flagged = written_holds lines good (codes "flagged") n i;
  passed = false;
  draft = false;
  trashed = false;
}

read_flags : (bytes : List ℕ) (n : ℕ) → flags_in (sequences_of bytes) n ≡ mh_flags bytes n
read_flags bytes n = λ i. record {
  seen = not (holds_written bytes (codes "unseen") n i);
  aged = not (holds_written bytes (codes "unseen") n i);
  replied = holds_written bytes (codes "replied") n i;
  flagged = holds_written bytes (codes "flagged") n i;
  passed = false;
  draft = false;
  trashed = false;
}

pub flags_follow : (mails : List Mail) (changes : List Changed) (sequences : List ℕ)
    → AreApart mails changes → AreNumbers mails changes → (name : List ℕ)
    → is_number name ≡ true
    → mh_flags (sequences_wanted mails changes sequences) (number_at name)
    ≡ flags_wanted sequences (what_of mails changes name) (number_at name)
flags_follow mails changes sequences apart numbers name number =
    file_flags (with_changes sequences mails changes (sequences_of sequences)) (number_at name)
    (changed_good sequences mails changes (sequences_of sequences) numbers (read_good sequences))
    ∙ changes_follow mails changes sequences (sequences_of sequences)
    (stays_upright.0 sequences) apart numbers name number
    ∙ by (what_of mails changes name)
  where
    by : (what : Option PlainChange)
        → flags_by sequences what (flags_in (sequences_of sequences) (number_at name))
        (number_at name)
        ≡ flags_wanted sequences what (number_at name)
    by None = read_flags sequences (number_at name)
    by (Some change) = refl
