-- For the code alone: what is worked out once, and kept.
use Rattle.std.specs.Prelude.{◌≡◌, ◌==◌, ◌<◌, ℕ, List, length, map, Option, Some, None, nat_eq}
use Rattle.std.specs.Prelude.{slice_index, slice_index_or}
use Rattle.std.specs.Prelude.{if◌then◌else◌}
use Rattle.std.specs.List.{IsDistinct, range_with_len}
use Rattle.threads.specs.Message.{PlainMessage, numbers}
use Rattle.threads.specs.Subjects.{parents}
use Rattle.threads.specs.Threads.{onward, root_of}
use Rattle.threads.specs.Links.{target}
use Rattle.threads.specs.declared.options.ThreadOptions.{ThreadOptions}
use Rattle.threads.specs.declared.step.Step.{Step}
use Rattle.threads.specs.declared.threads.Found.{Found}

-- no two messages have one id
abbrev pub AreDistinct : List PlainMessage → Type 0
AreDistinct messages = IsDistinct nat_eq (numbers messages)

-- the parents and the roots of the definitions
pub record IsFound (options : ThreadOptions) (messages : List PlainMessage)
    (found : Found) : Type 0 where
  pub the_parents : found.parents.items ≡ parents options messages
  pub the_roots : found.roots.items
      ≡ map (root_of (parents options messages)) (range_with_len 0 (length messages))
  pub the_ends : (p : ℕ) → p < length (parents options messages)
      → target (parents options messages) (root_of (parents options messages) p) ≡ None

-- the table of numbers is that of the messages, and what was worked out is that of the definitions
pub record AreKept (options : ThreadOptions) (messages : List PlainMessage) (keys : List ℕ)
    (found : Option Found)
    : Type 0 where
  pub the_numbers : keys ≡ numbers messages
  pub distinct : IsDistinct nat_eq keys
  pub worked_out : (f : Found) → found ≡ Some f → IsFound options messages f

-- no link leads from a root
abbrev pub cut_at_roots : List (Option Step) → List ℕ → List (Option Step)
cut_at_roots links roots =
    map (λ p. if slice_index roots p == p then None else slice_index_or links p None)
    (range_with_len 0 (length links))

-- the root of a root, which is itself, or of what it follows
abbrev pub root_above : List (Option Step) → ℕ → ℕ
root_above parents root = onward (λ next. next) root (target parents root)

-- places are those of so many
abbrev pub AreWithin : List ℕ → ℕ → Type 0
AreWithin places n = (i : ℕ) → i < length places → slice_index places i < n

-- links lead below a number
abbrev pub LeadsBelow : ℕ → List (Option Step) → Type 0
LeadsBelow n links = (p q : ℕ) → target links p ≡ Some q → q < n
