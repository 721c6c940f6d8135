-- Parents and roots by the definitions, from where links end.
use Rattle.std.proofs.Common.{◌≡◌, ◌∙◌, ℕ, zero, suc, ◌+◌, ◌<◌, ◌≤◌, Bool, true, false, ◌==◌, ◌&&◌}
use Rattle.std.proofs.Common.{cond, not}
use Rattle.std.proofs.Common.{List, [], ◌∷◌, length, map, Option, Some, None, option_map, is_none}
use Rattle.std.proofs.Common.{refl, sym, ap, subst}
use Rattle.std.proofs.Common.{⊎_elim, arith, slice_index, slice_index_or}
use Rattle.std.proofs.Common.{nat_eq, nat_lt, position, eq-eqb, ◌||◌}
use Rattle.std.specs.Prelude.{if◌then◌else◌}
use Rattle.std.specs.List.{IsDistinct, list_any, position_or_len, range_with_len}
use Rattle.std.specs.Option.{option_or}
use Rattle.std.proofs.lemmas.Bool.{cases_Bool, cases_lt, false≢true}
use Rattle.std.proofs.lemmas.Bool.Decides.{nat_tests}
use Rattle.std.proofs.lemmas.List.{get_or_past, length-map, get_or-map}
use Rattle.std.proofs.lemmas.List.FromFn.{get_or-map-range_with_len, length-map-range_with_len}
use Rattle.std.proofs.lemmas.List.FromFn.{fill_by_all}
use Rattle.threads.specs.Cycles.{cut_link, heads_cycle, reference_parents, without_cycles}
use Rattle.threads.specs.Firsts.{earlier, first_of}
use Rattle.threads.specs.Forest.{IsForest}
use Rattle.threads.specs.Found.{AreWithin, LeadsBelow, cut_at_roots, root_above}
use Rattle.threads.specs.Links.{duplicated, has_id, holder, link_of, links, other_than}
use Rattle.threads.specs.Links.{referred, step, target}
use Rattle.threads.specs.Message.{PlainMessage, at, is_listed_before, is_sent_before, numbers}
use Rattle.threads.specs.Subjects.{begins_subject, first_with, followed, may_follow, parent_of}
use Rattle.threads.specs.Subjects.{parents, with_subjects}
use Rattle.threads.specs.Threads.{end_from, onward, root_of}
use Rattle.threads.specs.Walk.{AreEnds, Ends, FitsMessages, cut_target}
use Rattle.threads.specs.declared.options.Link.{Link}
use Rattle.threads.specs.declared.options.ThreadOptions.{ThreadOptions}
use Rattle.threads.specs.declared.step.Step.{Step}
use Rattle.threads.proofs.CycleLemmas.{cut-head, cut-other, is_place, same_place as same_itself}
use Rattle.threads.proofs.FirstsLemmas.{first_below, same_place, bytes_same}

none_some : (q : ℕ) → None ≡ Some q → ⊥
none_some q e = cc

-- an optional place below a number
abbrev Below : ℕ → Option ℕ → Type 0
Below n o = (q : ℕ) → o ≡ Some q → q < n

-- what a list of links made place by place leads to
pub target_at : (f : ℕ → Option Step) (n p : ℕ) → p < n
    → target (map f (range_with_len 0 n)) p ≡ option_map (λ s. s.place) (f p)
target_at f n p lt = ap (λ o. option_map (λ (s : Step). s.place) o)
    (get_or-map-range_with_len f 0 n p p None lt (omega arith))

pub target_past : (l : List (Option Step)) (p : ℕ) → length l ≤ p → target l p ≡ None
target_past l p le = ap (λ o. option_map (λ (s : Step). s.place) o) (get_or_past l p None le)

made_below : (f : ℕ → Option Step) (n m : ℕ) → ((p : ℕ)
    → Below m (option_map (λ (s : Step). s.place) (f p)))
    → LeadsBelow m (map f (range_with_len 0 n))
made_below f n m b p q e = ⊎_elim
    (λ lt. b p q (sym (target_at f n p lt) ∙ e))
    (λ le. absurd (none_some q (sym (target_past (map f (range_with_len 0 n)) p
    (subst (λ k. k ≤ p) (sym (length-map-range_with_len f 0 n)) le)) ∙ e)))
    (cases_lt p n)

other_below : (n place : ℕ) (o : Option ℕ) → Below n o → Below n (other_than place o)
other_below n place None b q e = b q e
other_below n place (Some x) b q e = ⊎_elim
    (λ same. absurd (none_some q (sym (ap (λ t. if t then None else Some x) same) ∙ e)))
    (λ ne. b q (sym (ap (λ t. if t then None else Some x) ne) ∙ e))
    (cases_Bool (x == place))

or_below : (n : ℕ) (a b : Option ℕ) → Below n a → Below n b → Below n (option_or a b)
or_below n None b x y = y
or_below n (Some a) b x y = x

referred_below : (n place : ℕ) (find : List ℕ → Option ℕ) → ((id : List ℕ) → Below n (find id))
    → (ids : List (List ℕ)) → Below n (referred find place ids)
referred_below n place find f [] q e = cc
referred_below n place find f (id ∷ ids) q e = or_below n (other_than place (find id))
    (referred find place ids)
    (other_below n place (find id) (f id)) (referred_below n place find f ids) q e

step_below : (n : ℕ) (link : Link) (o : Option ℕ) → Below n o
    → Below n (option_map (λ (s : Step). s.place) (option_map (step link) o))
step_below n link None b = b
step_below n link (Some x) b = b

or_step_below : (n : ℕ) (a b : Option Step) → Below n (option_map (λ (s : Step). s.place) a)
    → Below n (option_map (λ (s : Step). s.place) b)
    → Below n (option_map (λ (s : Step). s.place) (option_or a b))
or_step_below n None b x y = y
or_step_below n (Some a) b x y = x

duplicated_below : (n place : ℕ) (find : List ℕ → Option ℕ) → ((id : List ℕ) → Below n (find id))
    → (own : Option (List ℕ)) → Below n (duplicated find place own)
duplicated_below n place find f None q e = cc
duplicated_below n place find f (Some id) q e = other_below n place (find id) (f id) q e

if_below : (n : ℕ) (b : Bool) (o : Option Step) → Below n (option_map (λ (s : Step). s.place) o)
    → Below n (option_map (λ (s : Step). s.place) (if b then o else None))
if_below n true o x q e = x q e
if_below n false o x q e = cc

link_below : (options : ThreadOptions) (ms : List PlainMessage) (p : ℕ)
    → Below (length ms) (option_map (λ (s : Step). s.place) (link_of options ms p))
link_below options ms p =
    let n = length ms in
    let find : (id : List ℕ) → Below n (holder ms id) =
    λ id q e. first_below (is_listed_before ms) (has_id ms id) n q e in
    let m = at ms p in
    or_step_below n _ _
    (if_below n options.duplicates (option_map (step Link.Duplicate) (duplicated
    (holder ms) p m.message_id))
    (step_below n Link.Duplicate (duplicated (holder ms) p m.message_id)
    (duplicated_below n p (holder ms) find m.message_id)))
    (step_below n Link.Reference (referred (holder ms) p m.candidates)
    (referred_below n p (holder ms) find m.candidates))

pub length-links : (options : ThreadOptions) (ms : List PlainMessage)
    → length (links options ms) ≡ length ms
length-links options ms = length-map-range_with_len (link_of options ms) 0 (length ms)

pub links_below : (options : ThreadOptions) (ms : List PlainMessage)
    → LeadsBelow (length ms) (links options ms)
links_below options ms = made_below (link_of options ms) (length ms) (length ms)
    (link_below options ms)

pub fits : (options : ThreadOptions) (ms : List PlainMessage) → IsDistinct nat_eq (numbers ms)
    → FitsMessages ms (links options ms)
fits options ms distinct = record {
  long = length-links options ms;
  within = λ p q e. subst (λ n. q < n) (sym (length-links options ms))
      (links_below options ms p q e);
  distinct = distinct;
}

-- the end has no link, and is a place
pub Ends-none : (on : ℕ → Option ℕ) (d p r : ℕ) → Ends on d p r → on r ≡ None
Ends-none on zero p r e = ap on (sym e.0) ∙ e.1
Ends-none on (suc d) p r e = Ends-none on d e.0 r e.2

pub Ends-below : (on : ℕ → Option ℕ) (n : ℕ) → ((p : ℕ) → Below n (on p)) → (d p r : ℕ) → p < n
    → Ends on d p r → r < n
Ends-below on n b zero p r lt e = subst (λ x. x < n) e.0 lt
Ends-below on n b (suc d) p r lt e = Ends-below on n b d e.0 r (b p e.0 e.1) e.2

-- what leads to an end is led on
pub Ends-on : (one other : ℕ → Option ℕ) → ((x q : ℕ) → one x ≡ Some q → other x ≡ Some q)
    → (d e p r f : ℕ) → Ends one d p r → Ends other e r f → Ends other (d + e) p f
Ends-on one other same zero e p r f a b =
    let z : e ≡ 0 + e = omega arith in
    subst (λ k. Ends other k p f) z (subst (λ x. Ends other e x f) (sym a.0) b)
Ends-on one other same (suc d) e p r f a b =
    let z : suc (d + e) ≡ suc d + e = omega arith in
    subst (λ k. Ends other k p f) z
    (led (a.0, same p a.0 a.1, Ends-on one other same d e a.0 r f a.2 b))
  where
    led : (q : ℕ) × (other p ≡ Some q) × Ends other (d + e) q f → Ends other (suc (d + e)) p f
    led t = t

-- enough steps lead to the end
pub end_is : (links : List (Option Step)) (d n p r : ℕ) → d ≤ n → Ends (target links) d p r
    → end_from links n p ≡ r
end_is links zero zero p r le e = e.0
end_is links zero (suc n) p r le e = ap (onward (end_from links n) p) e.1 ∙ e.0
end_is links (suc d) zero p r le e = absurd (omega arith)
end_is links (suc d) (suc n) p r le e =
    ap (onward (end_from links n) p) e.1 ∙ end_is links d n e.0 r (omega arith) e.2

no_step : (o : Option Step) → option_map (λ (s : Step). s.place) o ≡ None → o ≡ None
no_step None e = refl
no_step (Some s) e = cc

module _ (before : ℕ → ℕ → Bool) (links : List (Option Step)) (roots : List ℕ)
    (ends : AreEnds before links roots) where
  cut_same : (p : ℕ) → p < length links
      → (if slice_index roots p == p then None else slice_index_or links p None)
      ≡ cut_link before links p
  cut_same p lt =
      let own = ends.each p lt in
      ⊎_elim
      (λ same.
      let none : cut_target before links p ≡ None =
      subst (λ x. cut_target before links x ≡ None) (is_place (slice_index roots p) p same)
      (Ends-none (cut_target before links) own.0 p (slice_index roots p) own.2) in
      ap (λ b. if b then None else slice_index_or links p None) same
      ∙ sym (no_step (cut_link before links p) none))
      (λ ne.
      ap (λ b. if b then None else slice_index_or links p None) ne
      ∙ sym (by own.0 (slice_index roots p) own.2 ne))
      (cases_Bool (slice_index roots p == p))
    where
      by : (d r : ℕ) → Ends (cut_target before links) d p r → (r == p) ≡ false
          → cut_link before links p ≡ slice_index_or links p None
      by zero r e ne = absurd (false≢true (sym ne ∙ eq-eqb r p (sym e.0)))
      by (suc d) r e ne = ⊎_elim
          (λ head. absurd (none_some e.0 (sym (cut-head before links p head) ∙ e.1)))
          (λ other. ap (λ b. if b then None else slice_index_or links p None) other)
          (cases_Bool (heads_cycle before links p))

  pub cut_is : cut_at_roots links roots ≡ without_cycles before links
  cut_is = sym (fill_by_all (λ p. if slice_index roots p == p then None else slice_index_or links
      p None)
      (without_cycles before links) (length links) None
      (length-map-range_with_len (cut_link before links) 0 (length links))
      (λ k lt. get_or-map-range_with_len (cut_link before links) 0 (length links) k k None lt
      (omega arith)
      ∙ sym (cut_same k lt)))

-- what passes is found
first_passes_by : (is_before : ℕ → ℕ → Bool) (passes : ℕ → Bool) (n f : ℕ) (o : Option ℕ)
    → ((g : ℕ) → o ≡ Some g → passes g ≡ true) → passes n ≡ true
    → earlier is_before o n ≡ Some f → passes f ≡ true
first_passes_by is_before passes n f None more pass e = ap passes (sym (same_place n f e)) ∙ pass
first_passes_by is_before passes n f (Some g) more pass e = ⊎_elim
    (λ early. ap passes (sym (same_place n f (sym (ap (λ b. Some (if b then n else g)) early)
    ∙ e))) ∙ pass)
    (λ late. ap passes (sym (same_place g f (sym (ap (λ b. Some (if b then n else g)) late)
    ∙ e))) ∙ more g refl)
    (cases_Bool (is_before n g))

pub first_passes : (is_before : ℕ → ℕ → Bool) (passes : ℕ → Bool) (n f : ℕ)
    → first_of is_before passes n ≡ Some f → passes f ≡ true
first_passes is_before passes zero f e = cc
first_passes is_before passes (suc n) f e = ⊎_elim
    (λ pass. first_passes_by is_before passes n f (first_of is_before passes n)
    (first_passes is_before passes n) pass
    (sym (ap (λ b. if b then earlier is_before (first_of is_before passes n) n
    else first_of is_before passes n) pass) ∙ e))
    (λ fail. first_passes is_before passes n f
    (sym (ap (λ b. if b then earlier is_before (first_of is_before passes n) n
    else first_of is_before passes n) fail) ∙ e))
    (cases_Bool (passes n))

and_left : (a b : Bool) → a && b ≡ true → a ≡ true
and_left true b e = refl
and_left false b e = e

and_right : (a b : Bool) → a && b ≡ true → b ≡ true
and_right true b e = e
and_right false b e = absurd (false≢true e)

none_from : (o : Option Step) → is_none o ≡ true → o ≡ None
none_from None e = refl
none_from (Some s) e = absurd (false≢true e)

other_is : (place : ℕ) (o : Option ℕ) (q : ℕ) → other_than place o ≡ Some q → o ≡ Some q
other_is place None q e = e
other_is place (Some x) q e = ⊎_elim
    (λ same. absurd (none_some q (sym (ap (λ t. if t then None else Some x) same) ∙ e)))
    (λ ne. sym (ap (λ t. if t then None else Some x) ne) ∙ e)
    (cases_Bool (x == place))

not_other : (place : ℕ) → other_than place (Some place) ≡ None
not_other place = ap (λ t. if t then None else Some place) (same_itself place)

followed_none : (find : List ℕ → Option ℕ) (options : ThreadOptions) (m : PlainMessage) (p : ℕ)
    → find m.base_subject ≡ Some p
    → option_map (λ (s : Step). s.place) (followed find options m p) ≡ None
followed_none find options m p e = by (may_follow options m) (other_than p
    (find m.base_subject)) (ap (other_than p) e ∙ not_other p)
  where
    by : (b : Bool) (o : Option ℕ) → o ≡ None
        → option_map (λ (s : Step). s.place) (if b then option_map
        (step Link.Subject) o else None) ≡ None
    by true None e = refl
    by true (Some x) e = cc
    by false o e = refl

followed_is : (find : List ℕ → Option ℕ) (options : ThreadOptions) (m : PlainMessage) (p q : ℕ)
    → option_map (λ (s : Step). s.place) (followed find options m p) ≡ Some q
    → find m.base_subject ≡ Some q
followed_is find options m p q e =
    other_is p (find m.base_subject) q (by (may_follow options m) (other_than p
    (find m.base_subject)) e)
  where
    by : (b : Bool) (o : Option ℕ)
        → option_map (λ (s : Step). s.place) (if b then option_map
        (step Link.Subject) o else None) ≡ Some q → o ≡ Some q
    by true None e = e
    by true (Some x) e = e
    by false o e = absurd (none_some q e)

kept_by : (o other : Option Step) (q : ℕ) → option_map (λ (s : Step). s.place) o ≡ Some q
    → option_map (λ (s : Step). s.place) (option_or o other) ≡ Some q
kept_by (Some s) other q e = e
kept_by None other q e = absurd (none_some q e)

or_none : (o other : Option Step) → option_map (λ (s : Step). s.place) o ≡ None
    → option_or o other ≡ other
or_none None other e = refl
or_none (Some s) other e = cc

-- the parents, given those by the ids of headers
module _ (options : ThreadOptions) (ms : List PlainMessage) (refs : List (Option Step))
    (long : length refs ≡ length ms) where
  parent_at : (p : ℕ) → p < length ms
      → target (with_subjects options ms refs) p
      ≡ option_map (λ s. s.place) (parent_of options ms refs p)
  parent_at p lt = target_at (parent_of options ms refs) (length ms) p lt

  linked_below : (p q : ℕ) → target refs p ≡ Some q → p < length ms
  linked_below p q e = ⊎_elim (λ lt. lt)
      (λ le. absurd (none_some q (sym (target_past refs p (subst (λ n. n ≤ p) (sym long) le)) ∙ e)))
      (cases_lt p (length ms))

  pub parent_kept : (p q : ℕ) → target refs p ≡ Some q
      → target (with_subjects options ms refs) p ≡ Some q
  parent_kept p q e = parent_at p (linked_below p q e)
      ∙ kept_by (slice_index_or refs p None) (followed (first_with ms refs) options (at ms p) p) q e

  -- a root by the ids of headers has the first of its subject as its parent, which has none
  pub subject_end : (r : ℕ) → r < length ms → target refs r ≡ None
      → (e : ℕ) × (e ≤ 1) × Ends (target (with_subjects options ms refs)) e r (root_above
      (with_subjects options ms refs) r)
  subject_end r lt none = by (target (with_subjects options ms refs) r) refl
    where
      own : (p : ℕ) → p < length ms → target refs p ≡ None
          → target (with_subjects options ms refs) p
          ≡ option_map (λ (s : Step). s.place) (followed (first_with ms refs) options (at ms p) p)
      own p lt none = parent_at p lt
          ∙ ap (option_map (λ (s : Step). s.place)) (or_none (slice_index_or refs p None) _ none)

      by : (t : Option ℕ) → target (with_subjects options ms refs) r ≡ t
          → (e : ℕ) × (e ≤ 1) × Ends (target (with_subjects options ms refs)) e r (onward
          (λ next. next) r t)
      by None is = (0, omega arith, (refl, is))
      by (Some f) is =
          let found : first_with ms refs (at ms r).base_subject ≡ Some f =
          followed_is (first_with ms refs) options (at ms r) r f (sym (own r lt none) ∙ is) in
          let within : f < length ms = first_below (is_sent_before ms)
          (begins_subject ms refs (at ms r).base_subject) (length ms) f found in
          let passes = first_passes (is_sent_before ms) (begins_subject ms refs
          (at ms r).base_subject) (length ms) f found in
          let free : target refs f ≡ None = ap (option_map (λ (s : Step). s.place))
          (none_from (slice_index_or refs f None) (and_left _ _ passes)) in
          let same : (at ms r).base_subject
          ≡ (at ms f).base_subject = bytes_same _ _ (and_right _ _ passes) in
          let last : target (with_subjects options ms refs) f ≡ None =
          own f within free ∙ followed_none (first_with ms refs) options (at ms f) f
          (ap (first_with ms refs) (sym same) ∙ found) in
          (1, omega arith, (f, is, (refl, last)))

-- where cut links lead is where the parents by the ids of headers do
module _ (before : ℕ → ℕ → Bool) (links : List (Option Step)) where
  cut_linked : (p q : ℕ) → cut_target before links p ≡ Some q → target links p ≡ Some q
  cut_linked p q e = ⊎_elim
      (λ head. absurd (none_some q (sym (cut-head before links p head) ∙ e)))
      (λ other. sym (cut-other before links p other) ∙ e)
      (cases_Bool (heads_cycle before links p))

  pub cut_below : LeadsBelow (length links) links → (p : ℕ)
      → Below (length links) (cut_target before links p)
  cut_below below p q e = below p q (cut_linked p q e)

  pub cut_kept : (p q : ℕ) → cut_target before links p ≡ Some q
      → target (without_cycles before links) p ≡ Some q
  cut_kept p q e = ⊎_elim
      (λ lt. target_at (cut_link before links) (length links) p lt ∙ e)
      (λ le. absurd (none_some q (sym (target_past links p le) ∙ cut_linked p q e)))
      (cases_lt p (length links))

-- roots by the definition
module _ (options : ThreadOptions) (ms : List PlainMessage) (roots : List ℕ)
    (ends : AreEnds (is_listed_before ms) (links options ms) roots) where
  pub roots_long : length roots ≡ length ms
  roots_long = ends.long ∙ length-links options ms

  pub refs_long : length (reference_parents options ms) ≡ length ms
  refs_long = length-map-range_with_len (cut_link (is_listed_before ms) (links options ms)) 0
      (length (links options ms))
      ∙ length-links options ms

  pub parents_long : length (parents options ms) ≡ length ms
  parents_long = length-map-range_with_len (parent_of options ms
      (reference_parents options ms)) 0 (length ms)

  pub roots_below : (p : ℕ) → p < length ms → slice_index roots p < length ms
  roots_below p lt =
      let before = is_listed_before ms in
      let ls = links options ms in
      let own = ends.each p (subst (λ n. p < n) (sym (length-links options ms)) lt) in
      Ends-below (cut_target before ls) (length ms)
      (λ x. subst (λ n. Below n (cut_target before ls x)) (length-links options ms)
      (cut_below before ls (subst (λ n. LeadsBelow n ls) (sym (length-links options ms))
      (links_below options ms)) x))
      own.0 p (slice_index roots p) lt own.2

  pub chain : (p : ℕ) → p < length ms → (d : ℕ) × (d ≤ length ms)
      × Ends (target (parents options ms)) d p (root_above (parents options ms)
      (slice_index roots p))
  chain p lt =
      let before = is_listed_before ms in
      let ls = links options ms in
      let refs = reference_parents options ms in
      let own = ends.each p (subst (λ n. p < n) (sym (length-links options ms)) lt) in
      let r = slice_index roots p in
      let within : r < length ms = roots_below p lt in
      let none : target refs r ≡ None =
      target_at (cut_link before ls) (length ls) r (subst (λ n. r < n) (sym
      (length-links options ms)) within)
      ∙ Ends-none (cut_target before ls) own.0 p r own.2 in
      let last = subject_end options ms refs refs_long r within none in
      let few : own.0 < length ms = subst (λ n. own.0 < n) (length-links options ms) own.1 in (
        own.0 + last.0,
        omega arith,
        Ends-on (cut_target before ls) (target (parents options ms))
            (λ x q e. parent_kept options ms refs refs_long x q (cut_kept before ls x q e))
            own.0 last.0 p r (root_above (parents options ms) r) own.2 last.2,
      )

  pub forest : IsForest (parents options ms)
  forest p lt =
      let c = chain p (subst (λ n. p < n) parents_long lt) in
      let le : c.0 ≤ length (parents options ms) = subst (λ n. c.0 ≤ n) (sym parents_long) c.1 in (
        c.0,
        le,
        subst (Ends (target (parents options ms)) c.0 p)
            (sym (end_is (parents options ms) c.0 (length (parents options ms)) p _ le c.2)) c.2,
      )

  pub roots_are : map (root_above (parents options ms)) roots
      ≡ map (root_of (parents options ms)) (range_with_len 0 (length ms))
  roots_are = fill_by_all (root_of (parents options ms)) (map (root_above
      (parents options ms)) roots) (length ms) 0
      (length-map roots (root_above (parents options ms)) ∙ roots_long)
      (λ k lt.
      let c = chain k lt in
      let le : c.0 ≤ length (parents options ms) = subst (λ n. c.0 ≤ n) (sym parents_long) c.1 in
      get_or-map (root_above (parents options ms)) roots k 0 0 (subst (λ n. k < n)
      (sym roots_long) lt)
      ∙ sym (end_is (parents options ms) c.0 (length (parents options ms)) k _ le c.2))

-- parents and roots are messages
refs_below : (options : ThreadOptions) (ms : List PlainMessage)
    → LeadsBelow (length ms) (reference_parents options ms)
refs_below options ms =
    let ls = links options ms in
    made_below (cut_link (is_listed_before ms) ls) (length ls) (length ms)
    (λ p q e. links_below options ms p q (cut_linked (is_listed_before ms) ls p q e))

pub parents_below : (options : ThreadOptions) (ms : List PlainMessage)
    → LeadsBelow (length ms) (parents options ms)
parents_below options ms =
    let refs = reference_parents options ms in
    made_below (parent_of options ms refs) (length ms) (length ms)
    (λ p. or_step_below (length ms) (slice_index_or refs p None)
    (followed (first_with ms refs) options (at ms p) p) (refs_below options ms p)
    (if_below (length ms) (may_follow options (at ms p)) _
    (step_below (length ms) Link.Subject (other_than p (first_with ms refs (at ms p).base_subject))
    (other_below (length ms) p (first_with ms refs (at ms p).base_subject)
    (λ q e. first_below (is_sent_before ms) (begins_subject ms refs (at ms p).base_subject)
    (length ms) q e)))))

onward_below : (n : ℕ) (more : ℕ → ℕ) (p : ℕ) (t : Option ℕ) → p < n → ((q : ℕ) → t ≡ Some q
    → more q < n)
    → onward more p t < n
onward_below n more p None lt f = lt
onward_below n more p (Some q) lt f = f q refl

end_below : (links : List (Option Step)) (n : ℕ) → LeadsBelow n links → (k p : ℕ) → p < n
    → end_from links k p < n
end_below links n b zero p lt = lt
end_below links n b (suc k) p lt =
    onward_below n (end_from links k) p (target links p) lt (λ q e. end_below links n b k q
    (b p q e))

pub all_roots_below : (options : ThreadOptions) (ms : List PlainMessage)
    → AreWithin (map (root_of (parents options ms)) (range_with_len 0 (length ms))) (length ms)
all_roots_below options ms i lt =
    let within : i < length ms = subst (λ n. i < n)
    (length-map-range_with_len (root_of (parents options ms)) 0 (length ms)) lt in
    subst (λ r. r < length ms)
    (sym (get_or-map-range_with_len (root_of (parents options ms)) 0 (length ms) i i 0 within
    (omega arith)))
    (end_below (parents options ms) (length ms) (parents_below options ms) (length
    (parents options ms)) i within)

pub all_roots_long : (options : ThreadOptions) (ms : List PlainMessage)
    → length (map (root_of (parents options ms)) (range_with_len 0 (length ms))) ≡ length ms
all_roots_long options ms = length-map-range_with_len (root_of (parents options ms)) 0 (length ms)

pub all_parents_long : (options : ThreadOptions) (ms : List PlainMessage)
    → length (parents options ms) ≡ length ms
all_parents_long options ms =
    length-map-range_with_len (parent_of options ms (reference_parents options ms)) 0 (length ms)

pub root_there : (options : ThreadOptions) (ms : List PlainMessage) (p : ℕ) → p < length ms
    → slice_index (map (root_of (parents options ms)) (range_with_len 0 (length ms))) p
    ≡ root_of (parents options ms) p
root_there options ms p lt =
    get_or-map-range_with_len (root_of (parents options ms)) 0 (length ms) p p 0 lt (omega arith)

zero_first : (n : ℕ) → cond {A = Option ℕ} (nat_lt 0 (suc n)) (Some 0) None ≡ Some 0
zero_first n = let t : nat_lt 0 (suc n) ≡ true = grind (arith, nat_tests) in
    ap (λ b. cond {A = Option ℕ} b (Some 0) None) t

next_none : (a n : ℕ) → cond {A = Option ℕ} (nat_lt (1 + a) (suc n)) (Some (1 + a)) None ≡ None
    → cond {A = Option ℕ} (nat_lt a n) (Some a) None ≡ None
next_none a n e = ⊎_elim
    (λ lt.
    let t : nat_lt (1 + a) (suc n) ≡ true = grind (arith, nat_tests) in
    absurd (none_some (1 + a) (sym e ∙ ap (λ b. cond {A = Option ℕ} b (Some (1 + a)) None) t)))
    (λ le.
    let t : nat_lt a n ≡ false = grind (arith, nat_tests) in
    ap (λ b. cond {A = Option ℕ} b (Some a) None) t)
    (cases_lt a n)

-- the place of a first number, or of the rest
abbrev first_or : ℕ → ℕ → Bool → Option ℕ
first_or rest n b = cond {A = Option ℕ} (nat_lt (cond (not b) (1 + rest) 0) (suc n))
    (Some (cond (not b) (1 + rest) 0)) None

-- a number that has no place is none of them
pub absent_number : (xs : List ℕ) (k : ℕ) → position (nat_eq k) xs ≡ None
    → list_any (nat_eq k) xs ≡ false
absent_number [] k e = refl
absent_number (x ∷ xs) k e = ⊎_elim
    (λ same. absurd (none_some 0 (sym e
    ∙ ap (first_or (position_or_len (nat_eq k) xs) (length xs)) same ∙ zero_first (length xs))))
    (λ ne. ap (λ b. b || list_any (nat_eq k) xs) ne
    ∙ absent_number xs k (next_none (position_or_len (nat_eq k) xs) (length xs) (sym (ap
    (first_or (position_or_len (nat_eq k) xs) (length xs)) ne) ∙ e)))
    (cases_Bool (nat_eq k x))
