-- What the order of the index needs of the keys.
use Rattle.std.proofs.Common.{◌≡◌, ◌∙◌, suc, ℕ, Bool, List, [], ◌∷◌, ap, length, map, nat_eq}
use Rattle.std.proofs.Common.{refl, subst, sym}
use Rattle.std.proofs.lemmas.Simd.{map-map}
use Rattle.std.proofs.lemmas.List.Sorted.{IsPermutation-map}
use Rattle.std.specs.List.{IsDistinct, range_with_len}
use Rattle.std.specs.List.Sorted.{IsPermutation}
use Rattle.mail_base.specs.declared.kind.Id.{Id}
use Rattle.patterns_match.specs.declared.row.Row.{Row}
use Rattle.threads.specs.Forest.{IsForest}
use Rattle.threads.specs.Message.{PlainMessage}
use Rattle.threads.specs.Subjects.{parents}
use Rattle.threads.specs.Threads.{PlainThreads}
use Rattle.threads.specs.declared.options.ThreadOptions.{ThreadOptions}
use Rattle.index_listed.specs.Listed.{PlainListed, ids, no_listed}
use Rattle.index_listed.specs.Places.{numbers}
use Rattle.index_listed.specs.Threading.{AreApart, known_with, links_from, thread_message, threads}
use Rattle.index_listed.proofs.DistinctLemmas.{distinct_moved}
use Rattle.index_listed.proofs.PlaceLemmas.{map_at}
use Rattle.index_order.specs.Keys.{PlainKeys}
use Rattle.index_order.specs.Order.{AreDistinct, AreOf}
use Rattle.index_view.specs.Ordering.{key_at, keys}

pub links_long : (ts : PlainThreads) (all : List ℕ) (ls : List PlainListed)
    (known : List ℕ → Bool) → length (links_from ts all known ls) ≡ length ls
links_long ts all [] known = refl
links_long ts all (l ∷ ls) known =
    ap suc (links_long ts all ls (known_with known l.header.message_id))

-- the ids of the keys are those of the messages
pub key_ids : (ls : List PlainListed) (rows : List Row)
    → map (λ (k : PlainKeys). k.id) (keys ls rows) ≡ map (λ (l : PlainListed). l.id) ls
key_ids ls rows = map-map (λ (k : PlainKeys). k.id) (key_at ls rows) (range_with_len 0 (length ls))
    ∙ map_at (λ (l : PlainListed). l.id) ls no_listed

pub message_ids : (ls : List PlainListed)
    → map (λ (m : PlainMessage). m.id) (map thread_message ls) ≡ map (λ (l : PlainListed). l.id) ls
message_ids ls = map-map (λ (m : PlainMessage). m.id) thread_message ls

-- the numbers of keys, and of messages
key_numbers : (ls : List PlainListed) (rows : List Row)
    → ids ls ≡ map (λ (k : PlainKeys). k.id.0) (keys ls rows)
key_numbers ls rows = sym (map-map (λ (id : Id). id.0) (λ (l : PlainListed). l.id) ls)
    ∙ ap (map (λ (id : Id). id.0)) (sym (key_ids ls rows))
    ∙ map-map (λ (id : Id). id.0) (λ (k : PlainKeys). k.id) (keys ls rows)

-- the keys are those of the messages in threads
pub keys_of_threads : (options : ThreadOptions) (ls : List PlainListed) (rows : List Row)
    → AreApart ls → IsForest (parents options (threads options ls).messages)
    → AreOf (keys ls rows) (threads options ls)
keys_of_threads options ls rows apart forest = record {
  finished = refl;
  same = key_ids ls rows ∙ sym (message_ids ls);
  distinct = subst (IsDistinct nat_eq) (key_numbers ls rows) apart;
  forest = forest;
}

pub keys_given : (options : ThreadOptions) (ls : List PlainListed) (rows : List Row)
    (ks : List PlainKeys) (ts : PlainThreads) → AreApart ls
    → IsForest (parents options (threads options ls).messages) → ks ≡ keys ls rows
    → ts ≡ threads options ls → AreOf ks ts
keys_given options ls rows ks ts apart forest keys_are threads_are =
    subst (AreOf ks) (sym threads_are)
    (subst (λ (k : List PlainKeys). AreOf k (threads options ls)) (sym keys_are)
    (keys_of_threads options ls rows apart forest))

-- ids in order differ
pub ordered_apart : (ks : List PlainKeys) (order : List Id) → AreDistinct ks
    → IsPermutation (map (λ (k : PlainKeys). k.id) ks) order
    → IsDistinct nat_eq (numbers order)
ordered_apart ks order apart moved = distinct_moved _ _
    (IsPermutation-map (λ (id : Id). id.0) _ order moved)
    (subst (IsDistinct nat_eq)
    (sym (map-map (λ (id : Id). id.0) (λ (k : PlainKeys). k.id) ks)) apart)
