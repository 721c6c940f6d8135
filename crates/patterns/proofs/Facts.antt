-- What the definitions say of written patterns.
use Rattle.std.proofs.Common.{◌≡◌, ℕ, List, [], Option, None, Ok, Err, codes, refl, false, true}
use Rattle.patterns.specs.Faults.{Empty, UnknownLetter, Unbalanced, BadRange, BadDate}
use Rattle.patterns_match.specs.Letters.{letter_of, rows}
use Rattle.patterns.specs.Patterns.{pattern_of}
use Rattle.patterns.specs.Printed.{printed}
use Rattle.patterns_match.specs.Trees.{Days, Asks, Not, And, Or, Group, Related, Tells, Searches}
use Rattle.patterns_match.specs.Trees.{Counts}
use Rattle.patterns_match.specs.declared.letter.Mark.TheVariants.{New, Deleted, Duplicate}
use Rattle.patterns_match.specs.declared.letter.Field.TheVariants.{From, Subject, Body}
use Rattle.patterns_match.specs.declared.letter.Number.TheVariants.{Bytes}
use Rattle.patterns_match.specs.declared.range.Range.TheVariants as range
use Rattle.patterns_match.specs.declared.relation.Relation.TheVariants.{Parent}

abbrev no_day : List ℕ → Option Days
no_day text = None

unknown : pattern_of no_day (codes "~Y") ≡ Err (UnknownLetter 1)
unfolding letter_of rows
unknown = refl

written : printed (λ days. []) (Or (And (Asks (Tells New)) (Not (Group (Asks (Tells Deleted)))))
    (Related Parent (And (Asks (Searches Subject true (codes "a")))
    (Asks (Searches Body false (codes "a b"))))))
    ≡ codes "~N !(~D) | ~<(=s a ~b \"a b\")"
written = refl

open_one : pattern_of no_day (codes "(~A") ≡ Err (Unbalanced 0)
unfolding letter_of rows
open_one = refl

open_thread : pattern_of no_day (codes "~(~A") ≡ Err (Unbalanced 1)
unfolding letter_of rows
open_thread = refl

open_parent : pattern_of no_day (codes "~A =<(~A") ≡ Err (Unbalanced 5)
unfolding letter_of rows
open_parent = refl

open_child : pattern_of no_day (codes "(~>(~A") ≡ Err (Unbalanced 0)
unfolding letter_of rows
open_child = refl

empty : pattern_of no_day [] ≡ Err Empty
empty = refl

bad_range : pattern_of no_day (codes "~z 5-x") ≡ Err (BadRange 3)
unfolding letter_of rows
bad_range = refl

bad_date : pattern_of no_day (codes "~d 31/2/25") ≡ Err (BadDate 3)
unfolding letter_of rows
bad_date = refl

simple_text : pattern_of no_day (codes "a b")
    ≡ Ok (Or (Asks (Searches From false (codes "a b")))
    (Asks (Searches Subject false (codes "a b"))))
simple_text = refl

both : pattern_of no_day (codes "~N !~D | =s 'x y'")
    ≡ Ok (Or (And (Asks (Tells New)) (Not (Asks (Tells Deleted))))
    (Asks (Searches Subject true (codes "x y"))))
unfolding letter_of rows
both = refl

related : pattern_of no_day (codes "~<(~N) (~z 2K- ~==)") ≡ Err (UnknownLetter 18)
unfolding letter_of rows
related = refl

related_2 : pattern_of no_day (codes "~<(~N) (~z 2K- ~=)")
    ≡ Ok (And (Related Parent (Asks (Tells New)))
    (Group (And (Asks (Counts Bytes (range.From 2048))) (Asks (Tells Duplicate)))))
unfolding letter_of rows
related_2 = refl

no_argument : pattern_of no_day (codes "~b") ≡ Err Empty
unfolding letter_of rows
no_argument = refl

empty_quotes : pattern_of no_day (codes "~b''") ≡ Ok (Asks (Searches Body false []))
unfolding letter_of rows
empty_quotes = refl

no_quote : pattern_of no_day (codes "~b 'x") ≡ Err (Unbalanced 3)
unfolding letter_of rows
no_quote = refl

no_operand : pattern_of no_day (codes "~N |") ≡ Err Empty
unfolding letter_of rows
no_operand = refl

no_open : pattern_of no_day (codes "~N )") ≡ Err (Unbalanced 3)
unfolding letter_of rows
no_open = refl

no_sign : pattern_of no_day (codes "~N x") ≡ Err (UnknownLetter 3)
unfolding letter_of rows
no_sign = refl
