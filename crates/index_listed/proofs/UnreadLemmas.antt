-- Which threads have a marked message, where the marks are put one message after the other.
use Rattle.std.proofs.Common.{◌≡◌, ◌∙◌, ◌+◌, ◌<◌, ◌||◌, ℕ, suc, Bool, true, false, List, ap, arith}
use Rattle.std.proofs.Common.{if◌then◌else◌, length, refl, slice_index_or, slice_set, sym}
use Rattle.std.proofs.lemmas.Bool.{or_right}
use Rattle.std.proofs.lemmas.List.{set-get_or}
use Rattle.std.proofs.lemmas.List.FromFn.{get_or-map-range_with_len, length-map-range_with_len}
use Rattle.index_listed.specs.Entries.{at, no_entry, some_below}
use Rattle.index_listed.specs.Seen.{marked_before, no_marks, with_mark}
use Rattle.index_listed.specs.Visibility.{AreThreadsWith, in_thread}
use Rattle.index_listed.specs.declared.entry.Entry.{Entry}
use Rattle.index_listed.proofs.EntriesLemmas.{or_false, threads_next}
use Rattle.index_listed.proofs.PlaceLemmas.{map_at}
use Rattle.index_listed.proofs.SightLemmas.{told_threads}

mark_put : (threads : List Bool) (root : ℕ) (is_so : Bool)
    → slice_set threads root (slice_index_or threads root false || is_so)
    ≡ (if is_so then slice_set threads root true else threads)
mark_put threads root true =
    ap (slice_set threads root) (or_right (slice_index_or threads root false) true refl)
mark_put threads root false =
    ap (slice_set threads root) (sym (or_false (slice_index_or threads root false)))
    ∙ set-get_or threads root false

are_before : (entries : List Entry) (marks : List Bool) (n : ℕ)
    → AreThreadsWith (λ p. slice_index_or marks p false) entries n (marked_before entries marks n)
are_before entries marks n = record {
  long = length-map-range_with_len is_marked 0 (length entries);
  marked = λ root low. get_or-map-range_with_len is_marked 0 (length entries) root root false
      low (omega arith);
}
  where
    is_marked : ℕ → Bool
    is_marked root = some_below (in_thread entries (λ p. slice_index_or marks p false) root) n

pub none_before : (entries : List Entry) (marks : List Bool)
    → marked_before entries marks 0 ≡ no_marks entries
none_before entries marks = map_at (λ e. false) entries no_entry

pub one_more_before : (entries : List Entry) (marks : List Bool) (n : ℕ)
    → (at entries n).root < length entries
    → with_mark entries n (slice_index_or marks n false) (marked_before entries marks n)
    ≡ marked_before entries marks (suc n)
one_more_before entries marks n low =
    let next : n + 1 ≡ suc n = omega arith in
    let passes : ℕ → Bool = λ p. slice_index_or marks p false in
    let before = marked_before entries marks n in
    sym (mark_put before (at entries n).root (passes n))
    ∙ told_threads passes entries (n + 1) _ (threads_next passes entries n before
    (are_before entries marks n) low)
    ∙ ap (marked_before entries marks) next
