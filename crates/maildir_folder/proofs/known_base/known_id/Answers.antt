use Rattle.std.proofs.Common.{◌≡◌, ◌≤◌, ◌-◌, ◌++◌, ◌∷◌, ◌∙◌, ℕ, false, List, ap, drop, length, map}
use Rattle.std.proofs.Common.{refl, sym, take}
use Rattle.std.proofs.Common.{slice_index_or}
use Rattle.std.proofs.lemmas.List.{take-append-drop}
use Rattle.folder_core.proofs.SeenLemmas.{first_and_rest}
use Rattle.folder_letters.specs.Letters.{plain_letter}
use Rattle.folder_letters.specs.declared.listing.Listed.{Listed}
use Rattle.maildir_folder.proofs.Searching.{step_equal, step_greater, step_less}
use Rattle.maildir_folder.proofs.known_base.known_id.Goals as goal

-- what stands for a listed message where there is none
abbrev none_listed : Listed
none_listed = record {
  id = record { 0 = 0 };
  flags = record {
    seen = false;
    aged = false;
    replied = false;
    flagged = false;
    passed = false;
    draft = false;
    trashed = false;
  };
}

-- the middle, and what stands before and behind it
whole_split : (left front behind : List Listed) (mid : ℕ) → front ≡ take mid left
    → behind ≡ drop mid left → 1 ≤ length behind
    → left ≡ front ++ slice_index_or behind 0 none_listed
    ∷ take (length behind - 1) (drop 1 behind)
whole_split left front behind mid before after some =
    sym (take-append-drop mid left)
    ∙ ap (λ (l : List Listed). l ++ drop mid left) (sym before)
    ∙ ap (λ (l : List Listed). front ++ l) (sym after
    ∙ first_and_rest behind none_listed (slice_index_or behind 0 none_listed) refl some)

pub returns-in-Equal : goal.returns-in-Equal
returns-in-Equal c =
    step_equal (map plain_letter c.args.archive.now) c.args.listing.now c.loop-left.left.now
    c.split_at.result.0.now (slice_index_or c.split_at.result.1.now 0 none_listed) _ c.args.order
    c.args.base.now c.compare.result
    (whole_split c.loop-left.left.now c.split_at.result.0.now c.split_at.result.1.now _
    c.split_at.ensures.front c.split_at.ensures.back c.in-len1-up.len_at_least)
    c.requires.order c.compare.ensures c.in-Equal.is c.loop-left.invariant

pub loop-left-preserved-in-Less : goal.loop-left-preserved-in-Less
loop-left-preserved-in-Less c =
    step_less (map plain_letter c.args.archive.now) c.args.listing.now c.loop-left.left.now
    c.split_at.result.0.now (slice_index_or c.split_at.result.1.now 0 none_listed) _ c.args.order
    c.args.base.now c.compare.result
    (whole_split c.loop-left.left.now c.split_at.result.0.now c.split_at.result.1.now _
    c.split_at.ensures.front c.split_at.ensures.back c.in-len1-up.len_at_least)
    c.requires.order c.compare.ensures c.in-Less.is c.loop-left.invariant

pub loop-left-preserved : goal.loop-left-preserved
loop-left-preserved c =
    step_greater (map plain_letter c.args.archive.now) c.args.listing.now c.loop-left.left.now
    c.split_at.result.0.now (slice_index_or c.split_at.result.1.now 0 none_listed) _ c.args.order
    c.args.base.now c.compare.result
    (whole_split c.loop-left.left.now c.split_at.result.0.now c.split_at.result.1.now _
    c.split_at.ensures.front c.split_at.ensures.back c.in-len1-up.len_at_least)
    c.requires.order c.compare.ensures c.in-Greater.is c.loop-left.invariant
