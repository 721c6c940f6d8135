use Rattle.std.proofs.Common.{ap, map, rules, subst, ◌≡◌, ◌≤◌, ℕ, List, length, slice_index_or}
use Rattle.std.specs.Str.{IsUtf8}
use Rattle.mail_base.specs.Series.{Held}
use Rattle.disk_model.specs.Answers.{AreText}
use Rattle.folder_core.proofs.KindsLemmas.{left_first, left_next, no_numbers, number_found}
use Rattle.folder_core.proofs.SeenLemmas.{first_and_rest, none_left, only_same, only_then}
use Rattle.folder_core.proofs.SeenLemmas.{rose_later}
use Rattle.folder_core.proofs.kinds.has_number.Goals as goal

pub loop-left-init : goal.loop-left-init
loop-left-init g c = record {
  text = c.requires.text;
  only = only_same _;
  rest = left_first (map (λ name. name.items) c.args.names.now) c.args.path.now _;
}

first_text : (left : List (Held ℕ)) (d item : Held ℕ) → item ≡ slice_index_or left 0 d
    → 1 ≤ length left → AreText left → IsUtf8 item.items
first_text left d item is some text = (subst AreText (first_and_rest left d item is some) text).0

pub is_message-requires : goal.is_message-requires
is_message-requires g c = record {
  text = first_text c.loop-left.left.now _ c.name-item.result c.name-item.is
      c.in-len1-up.len_at_least
      c.loop-left.invariant.text;
}

pub returns-in_err-is_message-clause-only : goal.returns-in_err-is_message-clause-only
returns-in_err-is_message-clause-only g c =
    only_then _ _ _ c.loop-left.invariant.only c.is_message.ensures.only

pub returns-in_err-is_message-clause-cause : goal.returns-in_err-is_message-clause-cause
returns-in_err-is_message-clause-cause g c = λ is.
    rose_later _ _ _ c.loop-left.invariant.only.faults (c.is_message.ensures.cause (search rules))

pub returns-then-branch-clause-numbers : goal.returns-then-branch-clause-numbers
returns-then-branch-clause-numbers g c =
    number_found (map (λ name. name.items) c.args.names.now)
    (map (λ name. name.items) c.loop-left.left.now)
    c.in_ok-is_message.field-0 c.name-item.result.items c.args.path.now _ _ _ c.if-branch.true
    c.loop-left.invariant.only.looks c.is_message.ensures.only.looks c.loop-left.invariant.rest
    c.in_ok-is_message.ensures.numbers

pub returns-then-branch-clause-only : goal.returns-then-branch-clause-only
returns-then-branch-clause-only g c =
    only_then _ _ _ c.loop-left.invariant.only c.is_message.ensures.only

pub loop-left-preserved : goal.loop-left-preserved
loop-left-preserved g c =
    let whole =
    first_and_rest c.loop-left.left.now _ c.name-item.result c.name-item.is
    c.in-len1-up.len_at_least in
    record {
      text = (subst AreText whole c.loop-left.invariant.text).1;
      only = only_then _ _ _ c.loop-left.invariant.only c.is_message.ensures.only;
      rest = left_next (map (λ name. name.items) c.args.names.now)
          (map (λ name. name.items) c.loop-left.left.now) _
          c.in_ok-is_message.field-0 c.name-item.result.items c.args.path.now _ _ _
          (ap (map (λ (name : Held ℕ). name.items)) whole) c.if-branch.false
          c.loop-left.invariant.only.looks c.is_message.ensures.only.looks
          c.loop-left.invariant.rest
          c.in_ok-is_message.ensures.numbers;
    }

pub returns-clause-numbers : goal.returns-clause-numbers
returns-clause-numbers g c =
    no_numbers (map (λ name. name.items) c.args.names.now)
    (map (λ name. name.items) c.loop-left.left.now)
    c.args.path.now _ _
    (ap (map (λ (name : Held ℕ). name.items))
    (none_left c.loop-left.left.now c.in_default.len_below))
    c.loop-left.invariant.rest

pub returns-clause-only : goal.returns-clause-only
returns-clause-only g c = c.loop-left.invariant.only
