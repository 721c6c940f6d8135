-- A walk over the regions of a file and what is wanted of its messages.
use Rattle.std.proofs.Common.{◌≡◌, ◌≤◌, ◌<◌, ◌+◌, ◌-◌, ℕ, zero, suc, true, false, List, [], ◌∷◌, ◌++◌}
use Rattle.std.proofs.Common.{Option, Some, None, length, take, drop, slice_index_or, take_all}
use Rattle.std.proofs.Common.{append_assoc, append-nil, arith, length-append, length-drop}
use Rattle.std.proofs.Common.{length-take-le, refl, sym, ap, subst, ◌∙◌}
use Rattle.std.specs.Prelude.{option_map, slice_range}
use Rattle.std.specs.List.{concat}
use Rattle.std.specs.Option.{is_some}
use Rattle.std.proofs.lemmas.List.{drop-map}
use Rattle.std.proofs.lemmas.List.Folds.{concat-append}
use Rattle.folder_letters.specs.declared.change.Change.{Change}
use Rattle.folder_letters.specs.declared.listing.Listed.{Listed}
use Rattle.folder_core.specs.Mbox.{Cover}
use Rattle.folder_core.specs.declared.region.Region.{Region}
use Rattle.folder_core.proofs.Messages.{Cover-le, in_region}
use Rattle.index_items.specs.Changes.{Changed, PlainChange, change_for, plain_change}
use Rattle.mbox_text.specs.Rewriting as spec

-- the rest of a list as a slice gives it
abbrev pub rest_of : {A : Type 0} → List A → List A
rest_of l = take (length l - 1) (drop 1 l)

rest_is : {A : Type 0} (x : A) (l : List A) → rest_of (x ∷ l) ≡ l
rest_is x l = take_all (length (x ∷ l) - 1) l (omega arith)

-- the first region of a list
abbrev pub first_in : List Region → Region
first_in left = slice_index_or left 0 (record { start = 0; end = 0 })

-- regions cover a text from some place on
abbrev pub Behind : ℕ → List Region → Type 0
Behind end left = (from : ℕ) × Cover from end left

-- the first region stands in the text
pub record FirstFits (end : ℕ) (left : List Region) : Type 0 where
  pub from_end : (first_in left).start ≤ (first_in left).end
  pub within : (first_in left).end ≤ end
  pub next : Behind end (rest_of left)

pub first_fits : (end : ℕ) (left : List Region) → 1 ≤ length left → Behind end left
    → FirstFits end left
first_fits end [] some b = absurd (omega (arith, some))
first_fits end (region ∷ left) some b = record {
  from_end = omega (arith, b.1.1);
  within = Cover-le region.end end left b.1.2;
  next = (region.end, subst (Cover region.end end) (sym (rest_is region left)) b.1.2);
}

-- the next region begins where the first ends
pub next_covers : (at end : ℕ) (left : List Region) → 1 ≤ length left → Cover at end left
    → Cover (first_in left).end end (rest_of left)
next_covers at end [] some c = absurd (omega (arith, some))
next_covers at end (region ∷ left) some c =
    subst (Cover region.end end) (sym (rest_is region left)) c.2

-- so it ends by its length behind the place at which it begins
pub ends_on : (at end : ℕ) (left : List Region) → 1 ≤ length left → Cover at end left
    → (first_in left).end ≡ at + ((first_in left).end - (first_in left).start)
ends_on at end [] some c = absurd (omega (arith, some))
ends_on at end (region ∷ left) some c = omega (arith, c.0, c.1)

pub few_on : {A : Type 0} (count all : ℕ) (listed : List A) → 1 ≤ length listed
    → count + length listed ≡ all
    → (count + 1) + length (rest_of listed) ≡ all
few_on count all [] some few = absurd (omega (arith, some))
few_on count all (first ∷ listed) some few = omega (arith, ap length (rest_is first listed), few)

-- What is wanted of messages.

wanted_next : (changes : List Changed) (listed : List Listed)
    → drop 1 (spec.wanted_of changes listed) ≡ spec.wanted_of changes (drop 1 listed)
wanted_next changes [] = refl
wanted_next changes (first ∷ listed) = refl

-- a message stays
count_next : (what : List (Option PlainChange)) (raw : List ℕ) (raws : List (List ℕ))
    → spec.first_wanted what ≡ None
    → spec.unchanged_count what (raw ∷ raws) ≡ spec.unchanged_count (drop 1 what) raws + 1
count_next [] raw raws none = omega arith
count_next (None ∷ what) raw raws none = refl
count_next (Some change ∷ what) raw raws none = cc

length_next : (what : List (Option PlainChange)) (raw : List ℕ) (raws : List (List ℕ))
    → spec.first_wanted what ≡ None
    → spec.first_changed what (raw ∷ raws) ≡ length raw + spec.first_changed (drop 1 what) raws
length_next what raw raws none =
    let n = spec.unchanged_count (drop 1 what) raws in
    let next : n + 1 ≡ suc n = omega arith in
    ap (λ k. length (concat (take k (raw ∷ raws)))) (count_next what raw raws none ∙ next)
    ∙ length-append raw (concat (take n raws))

-- a message changes
count_none : (what : List (Option PlainChange)) (change : PlainChange) (raws : List (List ℕ))
    → spec.first_wanted what ≡ Some change → spec.unchanged_count what raws ≡ 0
count_none [] change raws some = cc
count_none (None ∷ what) change raws some = cc
count_none (Some other ∷ what) change [] some = refl
count_none (Some other ∷ what) change (raw ∷ raws) some = refl

length_none : (what : List (Option PlainChange)) (change : PlainChange) (raws : List (List ℕ))
    → spec.first_wanted what ≡ Some change → spec.first_changed what raws ≡ 0
length_none what change raws some =
    ap (λ k. length (concat (take k raws))) (count_none what change raws some)

-- what becomes of the first message and of those behind it
pub raws_next : (what : List (Option PlainChange)) (raw : List ℕ) (raws : List (List ℕ))
    → concat (spec.changed_raws what (raw ∷ raws))
    ≡ concat (spec.changed_raw (spec.first_wanted what) raw)
    ++ concat (spec.changed_raws (drop 1 what) raws)
raws_next [] raw raws =
    ap (λ l. l ++ concat raws) (sym (append-nil raw))
raws_next (change ∷ what) raw raws =
    concat-append (spec.changed_raw change raw) (spec.changed_raws what raws)

-- where no message is left
pub none_counted : (what : List (Option PlainChange)) (bytes : List ℕ) (left : List Region)
    → length left < 1 → spec.unchanged_count what (spec.raws_in bytes left) ≡ 0
none_counted [] bytes [] none = refl
none_counted (None ∷ what) bytes [] none = refl
none_counted (Some change ∷ what) bytes [] none = refl
none_counted what bytes (region ∷ left) none = absurd (omega (arith, none))

pub none_long : (what : List (Option PlainChange)) (bytes : List ℕ) (left : List Region)
    → length left < 1 → spec.first_changed what (spec.raws_in bytes left) ≡ 0
none_long what bytes left none =
    ap (λ k. length (concat (take k (spec.raws_in bytes left)))) (none_counted what bytes left none)

pub none_left : (what : List (Option PlainChange)) (bytes : List ℕ) (left : List Region)
    → length left < 1 → spec.changed_raws what (spec.raws_in bytes left) ≡ []
none_left [] bytes [] none = refl
none_left (change ∷ what) bytes [] none = refl
none_left what bytes (region ∷ left) none = absurd (omega (arith, none))

-- The walk.

some_is : (change : Option Change) → is_some change ≡ true
    → (other : PlainChange) × (option_map plain_change change ≡ Some other)
some_is None e = cc
some_is (Some change) e = (plain_change change, refl)

none_is : (change : Option Change) → is_some change ≡ false
    → option_map plain_change change ≡ None
none_is None e = refl
none_is (Some change) e = cc

-- where the first message changes
pub stops_count : (what : List (Option PlainChange)) (raws : List (List ℕ)) (change : Option Change)
    → is_some change ≡ true → option_map plain_change change ≡ spec.first_wanted what
    → spec.unchanged_count what raws ≡ 0
stops_count what raws change some is =
    let other = some_is change some in count_none what other.0 raws (sym is ∙ other.1)

pub stops_length : (what : List (Option PlainChange)) (raws : List (List ℕ))
    (change : Option Change) → is_some change ≡ true
    → option_map plain_change change ≡ spec.first_wanted what
    → spec.first_changed what raws ≡ 0
stops_length what raws change some is =
    let other = some_is change some in length_none what other.0 raws (sym is ∙ other.1)

raw_long : (bytes : List ℕ) (region : Region) → region.start ≤ region.end
    → region.end ≤ length bytes → length (in_region bytes region) ≡ region.end - region.start
raw_long bytes region from to =
    length-take-le (region.end - region.start) (drop region.start bytes)
    (omega (arith, from, to, length-drop region.start bytes))

-- where it stays
pub goes_count : (changes : List Changed) (listed : List Listed) (bytes : List ℕ)
    (left : List Region) (change : Option Change) → 1 ≤ length left → is_some change ≡ false
    → option_map plain_change change ≡ spec.first_wanted (spec.wanted_of changes listed)
    → spec.unchanged_count (spec.wanted_of changes listed) (spec.raws_in bytes left)
    ≡ spec.unchanged_count (spec.wanted_of changes (drop 1 listed))
    (spec.raws_in bytes (rest_of left)) + 1
goes_count changes listed bytes [] change some none is = absurd (omega (arith, some))
goes_count changes listed bytes (region ∷ left) change some none is =
    count_next (spec.wanted_of changes listed) (in_region bytes region) (spec.raws_in bytes left)
    (sym is ∙ none_is change none)
    ∙ ap (λ w. spec.unchanged_count w (spec.raws_in bytes left) + 1) (wanted_next changes listed)
    ∙ ap (λ l. spec.unchanged_count (spec.wanted_of changes (drop 1 listed))
    (spec.raws_in bytes l) + 1) (sym (rest_is region left))

pub goes_length : (changes : List Changed) (listed : List Listed) (bytes : List ℕ)
    (left : List Region) (change : Option Change) → 1 ≤ length left → is_some change ≡ false
    → option_map plain_change change ≡ spec.first_wanted (spec.wanted_of changes listed)
    → (first_in left).start ≤ (first_in left).end → (first_in left).end ≤ length bytes
    → spec.first_changed (spec.wanted_of changes listed) (spec.raws_in bytes left)
    ≡ (first_in left).end - (first_in left).start
    + spec.first_changed (spec.wanted_of changes (drop 1 listed))
    (spec.raws_in bytes (rest_of left))
goes_length changes listed bytes [] change some none is from to = absurd (omega (arith, some))
goes_length changes listed bytes (region ∷ left) change some none is from to =
    length_next (spec.wanted_of changes listed) (in_region bytes region) (spec.raws_in bytes left)
    (sym is ∙ none_is change none)
    ∙ ap (λ n. n + spec.first_changed (drop 1 (spec.wanted_of changes listed))
    (spec.raws_in bytes left)) (raw_long bytes region from to)
    ∙ ap (λ w. region.end - region.start + spec.first_changed w (spec.raws_in bytes left))
    (wanted_next changes listed)
    ∙ ap (λ l. region.end - region.start
    + spec.first_changed (spec.wanted_of changes (drop 1 listed)) (spec.raws_in bytes l))
    (sym (rest_is region left))

-- what is added of a message
pub goes_on : (changes : List Changed) (listed : List Listed) (bytes text new_text all : List ℕ)
    (left : List Region) (change : Option Change) → 1 ≤ length left
    → option_map plain_change change ≡ spec.first_wanted (spec.wanted_of changes listed)
    → new_text ≡ text ++ concat (spec.changed_raw (option_map plain_change change)
    (in_region bytes (first_in left)))
    → text ++ concat (spec.changed_raws (spec.wanted_of changes listed) (spec.raws_in bytes left))
    ≡ all
    → new_text ++ concat (spec.changed_raws (spec.wanted_of changes (drop 1 listed))
    (spec.raws_in bytes (rest_of left))) ≡ all
goes_on changes listed bytes text new_text all [] change some is added same =
    absurd (omega (arith, some))
goes_on changes listed bytes text new_text all (region ∷ left) change some is added same =
    ap (λ l. new_text ++ concat (spec.changed_raws (spec.wanted_of changes (drop 1 listed))
    (spec.raws_in bytes l))) (rest_is region left)
    ∙ ap (λ w. new_text ++ concat (spec.changed_raws w (spec.raws_in bytes left)))
    (sym (wanted_next changes listed))
    ∙ ap (λ l. l ++ concat (spec.changed_raws (drop 1 (spec.wanted_of changes listed))
    (spec.raws_in bytes left))) added
    ∙ ap (λ w. (text ++ concat (spec.changed_raw w (in_region bytes region)))
    ++ concat (spec.changed_raws (drop 1 (spec.wanted_of changes listed))
    (spec.raws_in bytes left))) is
    ∙ append_assoc text _ _
    ∙ ap (λ l. text ++ l)
    (sym (raws_next (spec.wanted_of changes listed) (in_region bytes region)
    (spec.raws_in bytes left)))
    ∙ same

-- Parts of lists.

pub wanted_from : (changes : List Changed) (n : ℕ) (listed : List Listed)
    → drop n (spec.wanted_of changes listed) ≡ spec.wanted_of changes (drop n listed)
wanted_from changes n listed = drop-map (λ l. change_for changes l.id.0) n listed

pub raws_from : (bytes : List ℕ) (n : ℕ) (regions : List Region)
    → drop n (spec.raws_in bytes regions) ≡ spec.raws_in bytes (drop n regions)
raws_from bytes n regions = drop-map (λ r. slice_range bytes r.start r.end) n regions

pub cover_from : (end n from : ℕ) (regions : List Region) → n ≤ length regions
    → Cover from end regions → (start : ℕ) × Cover start end (drop n regions)
cover_from end zero from regions few c = (from, c)
cover_from end (suc n) from [] few c = absurd (omega (arith, few))
cover_from end (suc n) from (region ∷ regions) few c =
    cover_from end n region.end regions (omega (arith, few)) c.2

-- what was added behind the messages that stay
pub tail_is : (changes : List Changed) (listing : List Listed) (bytes : List ℕ)
    (regions : List Region) (n : ℕ) (text : List ℕ)
    → n ≡ spec.unchanged_count (spec.wanted_of changes listing) (spec.raws_in bytes regions)
    → text ≡ concat (spec.changed_raws (spec.wanted_of changes (drop n listing))
    (spec.raws_in bytes (drop n regions)))
    → text ≡ spec.changed_tail (spec.wanted_of changes listing) (spec.raws_in bytes regions)
tail_is changes listing bytes regions n text count is =
    is
    ∙ ap (λ w. concat (spec.changed_raws w (spec.raws_in bytes (drop n regions))))
    (sym (wanted_from changes n listing))
    ∙ ap (λ l. concat (spec.changed_raws (drop n (spec.wanted_of changes listing)) l))
    (sym (raws_from bytes n regions))
    ∙ ap (λ k. concat (spec.changed_raws (drop k (spec.wanted_of changes listing))
    (drop k (spec.raws_in bytes regions)))) count
