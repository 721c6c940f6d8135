-- What looks have told stays told while others go on.
use Rattle.std.proofs.Common.{◌≡◌, ◌≤◌, ◌<◌, ℕ, zero, suc, List, [], ◌∷◌, ◌++◌, Option, Some, None}
use Rattle.std.proofs.Common.{length, take, drop, Err, refl, sym, ◌∙◌, ap, subst, arith}
use Rattle.std.proofs.Common.{slice_index_or, take_all, length-drop, ◌-◌}
use Rattle.std.proofs.lemmas.List.{length-take, take-append-drop, take-append-le}
use Rattle.mail_base.specs.Faults.{Rose}
use Rattle.disk_model.specs.Journal.{Call, Entry, NoForeign, Own, Past, has_foreign}
use Rattle.disk_model.specs.Judge.{GoesOn}
use Rattle.disk_model.specs.Looking.{HasLooked, LooksOnly, OnlyLooks}
use Rattle.disk_model.specs.Seen.{Seen}
use Rattle.disk_model.specs.Tree.{TreeNode}
use Rattle.disk_model.proofs.Looking.{looked_longer, looks_same, looks_then}
use Rattle.disk_model.proofs.Marks.{length_longer, tree_at-longer}
use Rattle.folder_core.specs.Directory.{AloneBetween}
use Rattle.folder_core.specs.Looked.{IsTreeOfAll, OnlyMeets, SawAt}
use Rattle.folder_core.specs.declared.error.ScanError.{ScanError}
use Rattle.folder_core.specs.declared.error.ScanError.TheVariants.{Fault}

first_entry : (mark : ℕ) (entry : Entry) (entries more : List Entry)
    → take 1 (drop mark entries) ≡ entry ∷ []
    → take 1 (drop mark (entries ++ more)) ≡ entry ∷ []
first_entry zero entry [] more is = absurd (cc)
first_entry zero entry (first ∷ entries) more is = is
first_entry (suc mark) entry [] more is = absurd (cc)
first_entry (suc mark) entry (first ∷ entries) more is = first_entry mark entry entries more is

pub longer_later : (old new : Past) → HasLooked old new → length old.journal ≤ length new.journal
longer_later old new looked = length_longer old new (looked_longer old new looked)

pub own_later : (mark : ℕ) (entry : Entry) (old new : Past) → HasLooked old new
    → take 1 (drop mark old.journal) ≡ entry ∷ [] → take 1 (drop mark new.journal) ≡ entry ∷ []
own_later mark entry old new looked is =
    ap (λ (l : List Entry). take 1 (drop mark l)) looked.journal
    ∙ first_entry mark entry old.journal looked.more is

pub saw_later : {call : Call} {Tells : List TreeNode → Type 0} (old mid new : Past)
    → SawAt call Tells old mid
    → HasLooked mid new → SawAt call Tells old new
saw_later {call} {Tells} old mid new saw looked = record {
  mark = saw.mark;
  from = saw.from;
  to = omega (arith, saw.to, longer_later mid new looked);
  answer = saw.answer;
  own = own_later saw.mark (Own call saw.answer) mid new looked saw.own;
  tells = subst Tells (sym (tree_at-longer mid new saw.mark (looked_longer mid new looked) saw.to))
      saw.tells;
}

pub saw_earlier : {call : Call} {Tells : List TreeNode → Type 0} (old mid new : Past)
    → HasLooked old mid
    → SawAt call Tells mid new → SawAt call Tells old new
saw_earlier old mid new looked saw = record {
  mark = saw.mark;
  from = omega (arith, saw.from, longer_later old mid looked);
  to = saw.to;
  answer = saw.answer;
  own = saw.own;
  tells = saw.tells;
}

-- The same of what is told.

-- one relation of pasts for another
pub goes_as : {P Q : Past → Past → Type 0} (old new : Option Past) → ((p q : Past) → P p q → Q p q)
    → GoesOn P old new → GoesOn Q old new
goes_as None new by goes = goes
goes_as (Some old) None by goes = absurd goes
goes_as (Some old) (Some new) by goes = by old new goes

-- one part after another, of which each only looks
pub goes_then : {P Q R : Past → Past → Type 0} (a b c : Option Past)
    → ((p q r : Past) → HasLooked p q → HasLooked q r → P p q → Q q r → R p r)
    → LooksOnly a b → LooksOnly b c → GoesOn P a b → GoesOn Q b c → GoesOn R a c
goes_then None b c by first second p q = silent b c p second
  where
    silent : (b c : Option Past) → b ≡ None → LooksOnly b c → c ≡ None
    silent None c is looks = looks
    silent (Some past) c is looks = absurd (cc)
goes_then (Some a) None c by first second p q = absurd p
goes_then (Some a) (Some b) None by first second p q = absurd q
goes_then (Some a) (Some b) (Some c) by first second p q = by a b c first second p q

-- two relations of the same pasts
pub goes_both : {P Q R : Past → Past → Type 0} (old new : Option Past)
    → ((p q : Past) → P p q → Q p q → R p q)
    → GoesOn P old new → GoesOn Q old new → GoesOn R old new
goes_both None new by first second = first
goes_both (Some old) None by first second = absurd first
goes_both (Some old) (Some new) by first second = by old new first second

-- what one look saw, before others
pub sees_later : (call : Call) (Tells : List TreeNode → Type 0) (a b c : Option Past)
    → LooksOnly a b → LooksOnly b c → GoesOn (SawAt call Tells) a b → GoesOn (SawAt call Tells) a c
sees_later call Tells a b c first next saw =
    goes_then {Q = HasLooked} a b c (λ p q r x y saw looked. saw_later {Tells = Tells} p q r saw y)
    first next saw next

-- what one look saw, behind others
pub sees_earlier : (call : Call) (Tells : List TreeNode → Type 0) (a b c : Option Past)
    → LooksOnly a b → LooksOnly b c → GoesOn (SawAt call Tells) b c → GoesOn (SawAt call Tells) a c
sees_earlier call Tells a b c first next saw =
    goes_then {P = HasLooked} a b c
    (λ p q r x y looked saw. saw_earlier {Tells = Tells} p q r x saw) first next first saw

-- Two calls that only look.

pub only_same : (seen : Seen) → OnlyLooks seen seen
only_same seen = record { looks = looks_same seen.told; marks = omega arith; faults = omega arith }

pub only_then : (a b c : Seen) → OnlyLooks a b → OnlyLooks b c → OnlyLooks a c
only_then a b c first next = record {
  looks = looks_then a.told b.told c.told first.looks next.looks;
  marks = omega (arith, first.marks, next.marks);
  faults = omega (arith, first.faults, next.faults);
}

-- a count that rose in the second of them rose in both
pub rose_later : (a b c : ℕ) → a ≤ b → Rose b c → Rose a c
rose_later a b c low rose = grind (arith, low, rose)

-- The first of a list, and the rest as a slice gives it.
pub first_and_rest : {A : Type 0} (left : List A) (d item : A) → item ≡ slice_index_or left 0 d
    → 1 ≤ length left
    → left ≡ item ∷ take (length left - 1) (drop 1 left)
first_and_rest [] d item is some = absurd (omega arith)
first_and_rest (x ∷ left) d item is some =
    ap (λ (l : List _). x ∷ l) (sym (take_all (length (x ∷ left) - 1) left (omega arith)))
    ∙ ap (λ (y : _). y ∷ take (length (x ∷ left) - 1) left) (sym is)

pub none_left : {A : Type 0} (left : List A) → length left < 1 → left ≡ []
none_left [] none = refl
none_left (x ∷ left) none = absurd (omega arith)

-- Nobody else acted between the ends of two journals.
pub alone_foreign : (old new : Past) → AloneBetween (length old.journal) (length new.journal) new
    → NoForeign old new
alone_foreign old new alone =
    ap has_foreign
    (sym (take_all (length new.journal - length old.journal)
    (drop (length old.journal) new.journal)
    (omega (arith, length-drop (length old.journal) new.journal)))) ∙ alone

-- the tree of each mark was that of the marks before
pub tree_before : (tree : List TreeNode) (old mid new : Past) → HasLooked mid new
    → IsTreeOfAll tree old new
    → IsTreeOfAll tree old mid
tree_before tree old mid new looked all mark low high =
    sym (tree_at-longer mid new mark (looked_longer mid new looked) high)
    ∙ all mark low (omega (arith, high, longer_later mid new looked))

-- what was at the front stays there
pub front_then : {A : Type 0} (a b c : List A) → take (length a) b ≡ a → take (length b) c ≡ b
    → take (length a) c ≡ a
front_then a b c first next =
    let low : length a ≤ length b = omega (arith, ap length first, length-take (length a) b) in
    ap (take (length a)) (sym (take-append-drop (length b) c))
    ∙ ap (λ (l : List _). take (length a) (l ++ drop (length b) c)) next
    ∙ take-append-le (length a) b (drop (length b) c) low ∙ first

-- a refusal behind other looks
pub meets_later : {A B : Type 0} (why : ScanError) (a b c : Seen) → OnlyLooks a b
    → OnlyMeets {A = A} (Err why) b c
    → OnlyMeets {A = B} (Err why) a c
meets_later why a b c before meets = record {
  only = only_then a b c before meets.only;
  cause = λ is. rose_later a.faults b.faults c.faults before.faults
      (meets.cause (let e : why ≡ Fault = cc in ap Err e));
  errors = meets.errors;
}
