use Rattle.std.proofs.Common.{◌≡◌, ◌≤◌, ◌++◌, ◌<◌, length, map, ℕ, List, [], ◌∷◌, refl, sym, ◌∙◌}
use Rattle.std.proofs.Common.{ap, arith, append-nil, slice_index_or, take_all}
use Rattle.folder_core.specs.declared.region.Region.{Region}
use Rattle.folder_letters.specs.declared.listing.Listed.{Listed}
use Rattle.folder_letters.specs.Letters.{Mail, plain_letter}
use Rattle.folder_core.specs.Mbox.{Cover}
use Rattle.mbox_folder.specs.ListedFile.{letters_from, listed_from, raws_in}
use Rattle.folder_core.proofs.Messages.{Cover-le}
use Rattle.mbox_folder.proofs.listing.list_messages.Goals as goal

pub loop-left-init : goal.loop-left-init
loop-left-init c = record {
  cover = c.requires.cover;
  letters = refl;
  listed = ap (λ (l : List Listed). l ++ listed_from (length c.args.archive.now.items)
      (raws_in c.args.bytes.now c.args.regions.now))
      (c.in_ok-reserve.ensures.items ∙ c.from_vec-listing.ensures
      ∙ c.in_ok-to_vec.ensures.items_if_clones_equal (λ x y same. same));
  few = refl;
  front = take_all (length c.args.archive.now.items) c.args.archive.now.items (omega arith);
}

no_letters : (items : List Mail) (id : ℕ) (bytes : List ℕ) (left : List Region) → length left < 1
    → items ++ letters_from id (raws_in bytes left) ≡ items
no_letters items id bytes [] none = append-nil items
no_letters items id bytes (region ∷ left) none = absurd (omega arith)

nothing_listed : (items : List Listed) (id : ℕ) (bytes : List ℕ) (left : List Region)
    → length left < 1
    → items ++ listed_from id (raws_in bytes left) ≡ items
nothing_listed items id bytes [] none = append-nil items
nothing_listed items id bytes (region ∷ left) none = absurd (omega arith)

pub returns-clause-letters : goal.returns-clause-letters
returns-clause-letters c =
    sym (no_letters (map plain_letter c.loop-left.archive.items) (length c.loop-left.archive.items)
    c.args.bytes.now
    c.loop-left.left.now c.in_default.len_below)
    ∙ c.loop-left.invariant.letters

pub returns-clause-listed : goal.returns-clause-listed
returns-clause-listed c =
    sym (nothing_listed c.loop-left.listing.items
    (length c.loop-left.archive.items) c.args.bytes.now
    c.loop-left.left.now
    c.in_default.len_below)
    ∙ c.loop-left.invariant.listed

-- the first region ends in the file
first_ends : (end : ℕ) (left : List Region) → 1 ≤ length left → ((from : ℕ) × Cover from end left)
    → (slice_index_or left 0 (record { start = 0; end = 0 })).end ≤ end
first_ends end [] some h = absurd (omega arith)
first_ends end (region ∷ left) some h = Cover-le region.end end left h.1.2

pub slice_bounds-raw-end : goal.slice_bounds-raw-end
slice_bounds-raw-end c =
    first_ends (length c.args.bytes.now) c.loop-left.left.now c.in-len1-up.len_at_least
    c.loop-left.invariant.cover
