-- For the code alone: what holds while links are followed.
use Rattle.std.specs.Prelude.{◌≡◌, ◌+◌, ◌<◌, ◌≤◌, ℕ, Bool, true, false, List, [], ◌∷◌}
use Rattle.std.specs.Prelude.{length}
use Rattle.std.specs.Prelude.{take, drop, nat_eq}
use Rattle.std.specs.List.{IsDistinct}
use Rattle.threads.specs.Message.{PlainMessage, numbers}
use Rattle.std.specs.Prelude.{Option, Some, None, option_map, reverse, count_by, fold, slice_get}
use Rattle.std.specs.Prelude.{slice_index, slice_index_or, slice_set}
use Rattle.threads.specs.Cycles.{cut_link}
use Rattle.threads.specs.Links.{target}
pub use Rattle.threads.specs.Forest.{Ends}
use Rattle.threads.specs.declared.walk.Mark.{Mark}
use Rattle.threads.specs.declared.walk.Mark.TheVariants.{Unseen, OnWay, Ended}
use Rattle.threads.specs.declared.step.Step.{Step}

-- a fact of each place of a list
abbrev pub Each : (ℕ → Type 0) → List ℕ → Type 0
Each P [] = Unit {0}
Each P (x ∷ xs) = P x × Each P xs

-- an order of places below a number
pub record IsOrder (before : ℕ → ℕ → Bool) (n : ℕ) : Type 0 where
  pub never : (a : ℕ) → before a a ≡ false
  pub chain : (a b c : ℕ) → before a b ≡ true → before b c ≡ true → before a c ≡ true
  pub total : (a b : ℕ) → a < n → b < n → (a ≡ b → ⊥) → before a b ≡ false → before b a ≡ true

-- links lead to places alone
abbrev pub LeadsWithin : List (Option Step) → Type 0
LeadsWithin links = (p q : ℕ) → target links p ≡ Some q → q < length links

-- each place of a list links to the one before it, and the first to this one
abbrev pub Follows : List (Option Step) → ℕ → List ℕ → Type 0
Follows links p [] = Unit {0}
Follows links p (x ∷ xs) = (target links x ≡ Some p) × Follows links x xs

-- where a place leads once cycles are cut
abbrev pub cut_target : (ℕ → ℕ → Bool) → List (Option Step) → ℕ → Option ℕ
cut_target before links p = option_map (λ s. s.place) (cut_link before links p)

-- the mark of a place
abbrev pub mark_at : List Mark → ℕ → Mark
mark_at marks p = slice_index_or marks p Unseen

-- a place was not met yet
abbrev pub is_unseen : Mark → Bool
is_unseen Unseen = true
is_unseen (OnWay i) = false
is_unseen (Ended r) = false

-- how many places were not met yet
abbrev pub unseen : List Mark → ℕ
unseen marks = count_by is_unseen marks

-- where a way leads from its last place, which stands first
abbrev pub LeadsTo : List (Option Step) → List ℕ → Option ℕ → Type 0
LeadsTo links [] next = Unit {0}
LeadsTo links (q ∷ rest) next = target links q ≡ next

-- a way, its last place first: each place bears its number on the way and links to the next
abbrev pub IsWay : List (Option Step) → List Mark → List ℕ → Type 0
IsWay links marks [] = Unit {0}
IsWay links marks (p ∷ rest) =
    (mark_at marks p ≡ OnWay (length rest)) × LeadsTo links rest (Some p)
    × IsWay links marks rest

-- a place leads to a root in few steps, and all that it leads to does
pub record IsEnded (before : ℕ → ℕ
    → Bool) (links : List (Option Step)) (marks : List Mark) (room p r : ℕ)
    : Type 0 where
  pub steps : ℕ
  pub few : steps + room < length links
  pub ends : Ends (cut_target before links) steps p r
  pub closed : (q : ℕ) → target links p ≡ Some q → (s : ℕ) × (mark_at marks q ≡ Ended s)

-- who bears a number stands at it on the way
abbrev pub OnlyOnWay : List Mark → List ℕ → Type 0
OnlyOnWay marks way = (p i : ℕ) → mark_at marks p ≡ OnWay i → slice_get way i ≡ Some p

-- the marks tell a way that is followed, and where all places that were left lead
pub record IsWalk (before : ℕ → ℕ
    → Bool) (links : List (Option Step)) (marks : List Mark) (way : List ℕ)
    : Type 0 where
  pub long : length marks ≡ length links
  pub chained : IsWay links marks (reverse way)
  pub only : OnlyOnWay marks way
  pub ended : (p r : ℕ) → mark_at marks p ≡ Ended r
      → IsEnded before links marks (unseen marks + length way) p r
  pub fits : unseen marks + length way ≤ length links

-- what was seen stays seen
abbrev pub KeepsSeen : List Mark → List Mark → Type 0
KeepsSeen old new = (p : ℕ) → is_unseen (mark_at old p) ≡ false → is_unseen (mark_at new p) ≡ false

-- what is told where a way was followed to its end
pub record IsMet (links : List (Option Step)) (marks : List Mark) (way : List ℕ) (start : ℕ)
    (next : Option ℕ)
    : Type 0 where
  pub leads : LeadsTo links (reverse way) next
  pub seen : (p : ℕ) → next ≡ Some p → is_unseen (mark_at marks p) ≡ false
  pub start_seen : is_unseen (mark_at marks start) ≡ false

-- the last place of a way ends at a root
abbrev pub EndsAt : List Mark → ℕ → ℕ → Option ℕ → Type 0
EndsAt marks root p None = p ≡ root
EndsAt marks root p (Some q) = mark_at marks q ≡ Ended root

-- a way can be left at a root
abbrev pub CanEnd : List (Option Step) → List Mark → List ℕ → ℕ → Type 0
CanEnd links marks [] root = Unit {0}
CanEnd links marks (p ∷ rest) root = EndsAt marks root p (target links p)

-- the state of a place on the way
abbrev pub on_way : ℕ → Mark
on_way i = OnWay i

-- the state of a place whose root is known
abbrev pub ended : ℕ → Mark
ended r = Ended r

-- each of these places ends at a root
abbrev pub all_ended : ℕ → List Mark → List ℕ → List Mark
all_ended root marks places = fold (λ m p. slice_set m p (Ended root)) marks places

-- the root of a mark
abbrev pub root_in : Mark → ℕ
root_in Unseen = 0
root_in (OnWay i) = 0
root_in (Ended r) = r

-- nothing is on a way, and the places below a number were seen
pub record AreFollowed (before : ℕ → ℕ
    → Bool) (links : List (Option Step)) (marks : List Mark) (count : ℕ)
    : Type 0 where
  pub walk : IsWalk before links marks []
  pub seen : (p : ℕ) → p < count → is_unseen (mark_at marks p) ≡ false

-- each place ends at its root
pub record AreEnds (before : ℕ → ℕ
    → Bool) (links : List (Option Step)) (roots : List ℕ) : Type 0 where
  pub long : length roots ≡ length links
  pub each : (p : ℕ) → p < length links
      → (d : ℕ) × (d < length links) × Ends (cut_target before links) d p (slice_index roots p)

-- the marks and the way
pub record State : Type 0 where
  pub marks : List Mark
  pub way : List ℕ

-- a walk whose way ends at a root
pub record IsClosed (before : ℕ → ℕ
    → Bool) (links : List (Option Step)) (marks : List Mark) (way : List ℕ)
    (root : ℕ) : Type 0 where
  pub walk : IsWalk before links marks way
  pub can_end : CanEnd links marks (reverse way) root

-- the way from a number on is left, and ends at its first place
pub record ClosesCycle (before : ℕ → ℕ
    → Bool) (number : ℕ) (old new : State) (root : ℕ) : Type 0 where
  pub marks : new.marks ≡ all_ended root old.marks (drop number old.way)
  pub way : new.way ≡ take number old.way
  pub among : (i : ℕ) × (slice_get (drop number old.way) i ≡ Some root)
  pub least : (i : ℕ) → i < length (drop number old.way)
      → before (slice_index (drop number old.way) i) root ≡ false

-- what was met was met before
abbrev pub IsSeen : List Mark → Option ℕ → Type 0
IsSeen marks met = (p : ℕ) → met ≡ Some p → is_unseen (mark_at marks p) ≡ false

-- the way was closed where it met a place that was seen
pub record Closes (before : ℕ → ℕ
    → Bool) (count : ℕ) (old new : State) (met : Option ℕ) (root : ℕ) : Type 0 where
  pub closed : (links : List (Option Step)) → IsOrder before count → length links ≡ count
      → IsWalk before links old.marks old.way → LeadsTo links (reverse old.way) met
      → IsClosed before links new.marks new.way root
  pub keeps : KeepsSeen old.marks new.marks

-- links of messages, each with an id of its own
pub record FitsMessages (messages : List PlainMessage) (links : List (Option Step)) : Type 0 where
  pub long : length links ≡ length messages
  pub within : LeadsWithin links
  pub distinct : IsDistinct nat_eq (numbers messages)
