-- Where neither the limit nor scores look at flags and tags, what is seen hangs on none of them.
use Rattle.std.proofs.Common.{◌≡◌, ◌∙◌, ◌||◌, ℕ, zero, suc, Bool, true, false, List, [], ◌∷◌}
use Rattle.std.proofs.Common.{Option, ap, length, map, nat_eq, refl, slice_index_or, sym}
use Rattle.std.specs.Prelude.{if◌then◌else◌}
use Rattle.std.proofs.lemmas.List.{length-map}
use Rattle.std.proofs.lemmas.List.FromFn.{length-range_with_len}
use Rattle.std.proofs.lemmas.Simd.{map-map}
use Rattle.std.specs.List.{range_with_len}
use Rattle.mail_base.specs.declared.flags.Flags.{Flags}
use Rattle.mail_base.specs.declared.kind.Id.{Id}
use Rattle.people.specs.People.{PlainPeople}
use Rattle.patterns_match.specs.Listings.{Message}
use Rattle.patterns_match.specs.Scores.{PlainEntry, score}
use Rattle.patterns_match.specs.declared.row.Row.{Row}
use Rattle.index_items.specs.Acts.{PlainAlteration, acted, alteration, changed_by, clearing}
use Rattle.index_items.specs.Acts.{setting}
use Rattle.index_items.specs.Alteration.{alter_at, altered_where}
use Rattle.index_items.specs.Items.{PlainItem, ids_of, no_item, shown_flags}
use Rattle.index_items.specs.declared.act.Act.{Act}
use Rattle.index_items.specs.declared.act.Act.TheVariants.{Set, Clear, TurnFlagged, TurnNew}
use Rattle.index_items.specs.declared.act.Act.TheVariants.{Age, TurnTag}
use Rattle.index_items.specs.declared.act.Mark.{Mark as ActMark}
use Rattle.index_items.specs.declared.act.Mark.TheVariants.{Deleted, New, Old, Replied, Tagged}
use Rattle.index_items.specs.declared.act.Mark.TheVariants.{Flagged}
use Rattle.index_listed.specs.Listed.{PlainListed, at, ids as ids_in}
use Rattle.index_listed.specs.Marks.{mark_at}
use Rattle.index_listed.specs.Seen.{visible_ids}
use Rattle.index_listed.specs.Sight.{entries, entry_of, stances, visible}
use Rattle.index_listed.specs.Threading.{at as links_at}
use Rattle.index_listed.specs.declared.links.Links.{Links}
use Rattle.index_listed.specs.declared.mark.Mark.{Mark}
use Rattle.index_listed.specs.declared.stance.Stance.{Stance}
use Rattle.index_order.specs.Options.{sort_options}
use Rattle.index_order.specs.Order.{is_threads, order}
use Rattle.index_view.specs.Acting.{bare_row, veiled}
use Rattle.index_view.specs.Answers.{Facts, links_of, messages_of, ordered, rows_of, scored}
use Rattle.index_view.specs.Answers.{sight_of, stances_of, threads_of, within_of}
use Rattle.index_view.specs.Limit.{all_within}
use Rattle.patterns_match.specs.Pattern.{PlainPattern}
use Rattle.index_view.specs.Marks.{mark_of, marks_of}
use Rattle.index_view.specs.Ordering.{key_at, key_of, numbered, with_number}
use Rattle.index_view.specs.Tables.{first_row, first_row_at, first_rows, in_shut, message}
use Rattle.index_view.specs.Tables.{message_at, no_row, row_at, scored_at, table}
use Rattle.index_view.specs.Tables.{with_score}
use Rattle.index_view.specs.Staying.{Touched, everything}
use Rattle.index_view.proofs.ActingLemmas.{acted_keeps_id}
use Rattle.index_view.proofs.AnswersLemmas.{rows_long}

pub read_map : {X Y : Type 0} (f : X → Y) (d : X) (xs : List X) (p : ℕ)
    → slice_index_or (map f xs) p (f d) ≡ f (slice_index_or xs p d)
read_map f d [] p = refl
read_map f d (x ∷ xs) zero = refl
read_map f d (x ∷ xs) (suc p) = read_map f d xs p

pub each_same : {X Y : Type 0} (f g : X → Y) (xs : List X) → ((x : X) → f x ≡ g x)
    → map f xs ≡ map g xs
each_same f g [] same = refl
each_same f g (x ∷ xs) same = λ k. same x k ∷ each_same f g xs same k

abbrev pub shut_of : PlainItem → Bool
shut_of i = i.shut

-- Rows and messages without flags, marks of deletion and tags.

abbrev pub without : Touched → Message → Message
without t m = record m { row = veiled t m.row }

abbrev pub bare : Message → Message
bare m = without everything m

-- a limit tells the same of messages that differ in what is touched alone
abbrev pub IsBlind : Touched → Option PlainPattern → Type 0
IsBlind t limit = (people : PlainPeople) → (ms : List Message) → (ns : List Message)
    → map (without t) ms ≡ map (without t) ns
    → all_within people limit ms ≡ all_within people limit ns

-- and so do entries of scores
abbrev pub AreBlind : List PlainEntry → Type 0
AreBlind entries = (people : PlainPeople) → (ms : List Message) → (ns : List Message)
    → map bare ms ≡ map bare ns → (p : ℕ)
    → score people ms entries p ≡ score people ns entries p

veiled_at : (t : Touched) (rows others : List Row) → map (veiled t) rows ≡ map (veiled t) others
    → (p : ℕ) → veiled t (row_at rows p) ≡ veiled t (row_at others p)
veiled_at t rows others same p =
    sym (read_map (veiled t) no_row rows p)
    ∙ ap (λ (all : List Row). slice_index_or all p (veiled t no_row)) same
    ∙ read_map (veiled t) no_row others p

pub same_at : (rows others : List Row) → map bare_row rows ≡ map bare_row others → (p : ℕ)
    → bare_row (row_at rows p) ≡ bare_row (row_at others p)
same_at rows others same p = veiled_at everything rows others same p

-- What is seen.

module _ (ls : List PlainListed) (f : Facts) (items : List PlainItem)
    (scores_blind : AreBlind f.scores) (same : map shut_of items ≡ map shut_of f.items) where
  abbrev g : Facts
  g = record f { items = items }

  abbrev links : List Links
  links = links_of ls f

  abbrev places : List ℕ
  places = range_with_len 0 (length ls)

  abbrev first : List PlainItem → List Row
  first is = first_rows ls is links

  pub same_shut : (p : ℕ) → in_shut items links p ≡ in_shut f.items links p
  same_shut p =
      let root = (links_at links p).root in
      sym (read_map shut_of no_item items root)
      ∙ ap (λ (shut : List Bool). slice_index_or shut root no_item.shut) same
      ∙ read_map shut_of no_item f.items root

  pub first_bare : map bare_row (first items) ≡ map bare_row (first f.items)
  first_bare =
      map-map bare_row (first_row_at ls items links) places
      ∙ each_same (λ p. bare_row (first_row_at ls items links p))
      (λ p. bare_row (first_row_at ls f.items links p)) places
      (λ p. ap (λ (c : Bool). bare_row (first_row (at ls p) no_item c)) (same_shut p))
      ∙ sym (map-map bare_row (first_row_at ls f.items links) places)

  pub first_long : (is : List PlainItem) → length (first is) ≡ length ls
  first_long is =
      length-map places (first_row_at ls is links) ∙ length-range_with_len 0 (length ls)

  pub table_veiled : (t : Touched) (rows others : List Row)
      → map (veiled t) rows ≡ map (veiled t) others
      → map (without t) (table ls rows links) ≡ map (without t) (table ls others links)
  table_veiled t rows others are =
      map-map (without t) (message_at ls rows links) places
      ∙ each_same (λ p. without t (message_at ls rows links p))
      (λ p. without t (message_at ls others links p)) places
      (λ p. ap (λ (r : Row). message (at ls p) r (links_at links p))
      (veiled_at t rows others are p))
      ∙ sym (map-map (without t) (message_at ls others links) places)

  pub table_bare : (rows others : List Row) → map bare_row rows ≡ map bare_row others
      → map bare (table ls rows links) ≡ map bare (table ls others links)
  table_bare rows others are = table_veiled everything rows others are

  -- a message with its score
  abbrev scores_at : List PlainItem → ℕ → Row
  scores_at is = scored_at f.people f.scores (table ls (first is) links) (first is)

  same_scored : (p : ℕ) → bare_row (scores_at items p) ≡ bare_row (scores_at f.items p)
  same_scored p = λ k. with_score
      (scores_blind f.people (table ls (first items) links) (table ls (first f.items) links)
      (table_bare (first items) (first f.items) first_bare) p k)
      (same_at (first items) (first f.items) first_bare p k)

  scored_bare : map bare_row (scored ls g) ≡ map bare_row (scored ls f)
  scored_bare =
      map-map bare_row (scores_at items) (range_with_len 0 (length (first items)))
      ∙ each_same (λ p. bare_row (scores_at items p)) (λ p. bare_row (scores_at f.items p))
      (range_with_len 0 (length (first items))) same_scored
      ∙ ap (λ n. map (λ p. bare_row (scores_at f.items p)) (range_with_len 0 n))
      (first_long items ∙ sym (first_long f.items))
      ∙ sym (map-map bare_row (scores_at f.items) (range_with_len 0 (length (first f.items))))

  pub same_order : ordered ls g ≡ ordered ls f
  same_order = ap (λ ks. order (sort_options f.options) ks (threads_of ls f))
      (each_same (key_at ls (scored ls g)) (key_at ls (scored ls f)) places
      (λ p. ap (λ (r : Row). key_of (at ls p) r.score)
      (same_at (scored ls g) (scored ls f) scored_bare p)))

  pub same_stances : stances_of ls g ≡ stances_of ls f
  same_stances = ap (λ ids. stances (is_threads f.options.sort) (threads_of ls f) (ids_in ls) ids)
      same_order

  numbers_bare : (order : List Id) (rows : List Row)
      → map bare_row (numbered order rows) ≡ map (with_number order) (map bare_row rows)
  numbers_bare order rows =
      map-map bare_row (with_number order) rows ∙ sym (map-map (with_number order) bare_row rows)

  pub rows_bare : map bare_row (rows_of ls g) ≡ map bare_row (rows_of ls f)
  rows_bare =
      numbers_bare (ordered ls g) (scored ls g)
      ∙ (λ k. map (with_number (same_order k)) (scored_bare k))
      ∙ sym (numbers_bare (ordered ls f) (scored ls f))

  -- a limit tells the same where it looks at nothing in which rows differ
  pub same_within : (t : Touched) → IsBlind t f.limit
      → map (veiled t) (rows_of ls g) ≡ map (veiled t) (rows_of ls f)
      → within_of ls g ≡ within_of ls f
  same_within t blind alike = blind f.people (messages_of ls g) (messages_of ls f)
      (table_veiled t (rows_of ls g) (rows_of ls f) alike)

  -- the mark at each place is the same but for what tells new messages from old ones
  mark_same : {X : Type 0} (pick : Mark → X) (F G : ℕ → Mark) → ((p : ℕ) → pick (F p) ≡ pick (G p))
      → (xs : List ℕ) (p : ℕ) → pick (mark_at (map F xs) p) ≡ pick (mark_at (map G xs) p)
  mark_same pick F G each [] p = refl
  mark_same pick F G each (x ∷ xs) zero = each x
  mark_same pick F G each (x ∷ xs) (suc p) = mark_same pick F G each xs p

  same_satisfies : within_of ls g ≡ within_of ls f → (p : ℕ)
      → (mark_at (marks_of (rows_of ls g) (within_of ls g)) p).satisfies
      ≡ (mark_at (marks_of (rows_of ls f) (within_of ls f)) p).satisfies
  same_satisfies within p =
      mark_same (λ m. m.satisfies) (mark_of (rows_of ls g) (within_of ls g))
      (mark_of (rows_of ls f) (within_of ls f))
      (λ q. ap (λ (ws : List Bool). slice_index_or ws q false) within)
      (range_with_len 0 (length (rows_of ls g))) p
      ∙ ap (λ n.
      (mark_at (map (mark_of (rows_of ls f) (within_of ls f)) (range_with_len 0 n))
      p).satisfies)
      (rows_long ls g ∙ sym (rows_long ls f))

  same_row : (p : ℕ) → (row_at (rows_of ls g) p).collapsed ≡ (row_at (rows_of ls f) p).collapsed
  same_row p = ap (λ (r : Row). r.collapsed) (same_at (rows_of ls g) (rows_of ls f) rows_bare p)

  same_is_shut : (p : ℕ) → (mark_at (marks_of (rows_of ls g) (within_of ls g)) p).is_shut
      ≡ (mark_at (marks_of (rows_of ls f) (within_of ls f)) p).is_shut
  same_is_shut p =
      mark_same (λ m. m.is_shut) (mark_of (rows_of ls g) (within_of ls g))
      (mark_of (rows_of ls f) (within_of ls f)) same_row
      (range_with_len 0 (length (rows_of ls g))) p
      ∙ ap (λ n.
      (mark_at (map (mark_of (rows_of ls f) (within_of ls f)) (range_with_len 0 n)) p).is_shut)
      (rows_long ls g ∙ sym (rows_long ls f))

  same_entry : within_of ls g ≡ within_of ls f → (s : Stance)
      → entry_of (marks_of (rows_of ls g) (within_of ls g)) s
      ≡ entry_of (marks_of (rows_of ls f) (within_of ls f)) s
  same_entry within s = λ k. record {
    parent = s.parent;
    root = s.root;
    satisfies = same_satisfies within s.place k;
    is_shut = same_is_shut s.place k;
  }

  pub same_entries : within_of ls g ≡ within_of ls f
      → entries (marks_of (rows_of ls g) (within_of ls g)) (stances_of ls g)
      ≡ entries (marks_of (rows_of ls f) (within_of ls f)) (stances_of ls f)
  same_entries within =
      ap (λ (all : List Stance). entries (marks_of (rows_of ls g) (within_of ls g)) all)
      same_stances
      ∙ each_same (entry_of (marks_of (rows_of ls g) (within_of ls g)))
      (entry_of (marks_of (rows_of ls f) (within_of ls f))) (stances_of ls f)
      (same_entry within)

  pub seen_still : within_of ls g ≡ within_of ls f
      → visible_ids (sight_of ls g) ≡ visible_ids (sight_of ls f)
  seen_still within = λ k. visible (same_order k) (same_entries within k)

-- Acts.

module _ (i : PlainItem) where
  abbrev Keeps : PlainAlteration → Type 0
  Keeps a = (changed_by a i).shut ≡ i.shut

  if_keeps : (t : Bool) (a b : PlainAlteration) → Keeps a → Keeps b → Keeps (if t then a else b)
  if_keeps true a b one other = one
  if_keeps false a b one other = other

  set_keeps : (m : ActMark) → Keeps (setting m)
  set_keeps Deleted = refl
  set_keeps New = refl
  set_keeps Old = refl
  set_keeps Replied = refl
  set_keeps Tagged = refl
  set_keeps Flagged = refl

  clear_keeps : (m : ActMark) (shown : Flags) → Keeps (clearing m shown)
  clear_keeps Deleted shown = refl
  clear_keeps New shown = refl
  clear_keeps Old shown = if_keeps shown.seen _ _ refl refl
  clear_keeps Replied shown = refl
  clear_keeps Tagged shown = refl
  clear_keeps Flagged shown = refl

  act_keeps : (act : Act) (shown : Flags) (tag : Bool) → Keeps (alteration act shown tag)
  act_keeps (Set m) shown tag = set_keeps m
  act_keeps (Clear m) shown tag = clear_keeps m shown
  act_keeps TurnFlagged shown tag = if_keeps shown.flagged _ _ refl refl
  act_keeps TurnNew shown tag = if_keeps (shown.seen || shown.aged) _ _ refl refl
  act_keeps TurnTag shown tag = refl
  act_keeps Age shown tag = if_keeps (shown.seen || shown.aged) _ _ refl refl

pub acted_shut : (act : Act) (id : Id) (items : List PlainItem)
    → map shut_of (alter_at id (acted act) items) ≡ map shut_of items
acted_shut act id items =
    map-map shut_of (altered_where id (acted act)) items
    ∙ each_same (λ i. shut_of (altered_where id (acted act) i)) shut_of items
    (λ i. by_test i (nat_eq id.0 i.id.0) (act_keeps i act (shown_flags i) i.tagged))
  where
    by_test : (i : PlainItem) (t : Bool) → (acted act i).shut ≡ i.shut
        → (if t then acted act i else i).shut ≡ i.shut
    by_test i true keeps = keeps
    by_test i false keeps = refl

pub acted_ids : (act : Act) (id : Id) (items : List PlainItem)
    → ids_of (alter_at id (acted act) items) ≡ ids_of items
acted_ids act id items =
    map-map (λ (i : PlainItem). i.id) (altered_where id (acted act)) items
    ∙ each_same (λ i. (altered_where id (acted act) i).id) (λ i. i.id) items
    (λ i. by_test i (nat_eq id.0 i.id.0) (acted_keeps_id act i))
  where
    by_test : (i : PlainItem) (t : Bool) → (acted act i).id ≡ i.id
        → (if t then acted act i else i).id ≡ i.id
    by_test i true keeps = keeps
    by_test i false keeps = refl
