-- Where scores look at no flag and the limit at no other message, what is done to a message changes
-- of what is seen at most whether it is.
use Rattle.std.proofs.Common.{◌≡◌, ◌∙◌, ◌+◌, ◌<◌, ◌≤◌, ◌&&◌, ◌||◌, ◌∷◌, [], ℕ, zero, suc, Bool}
use Rattle.std.proofs.Common.{true, false, List, Option, None, Some, ap, arith, length, map}
use Rattle.std.proofs.Common.{nat_eq, not, option_map, refl, slice_get, slice_index_or, subst, sym}
use Rattle.std.proofs.Common.{⊎_elim}
use Rattle.std.proofs.Math.Bool.{and-true}
use Rattle.std.proofs.lemmas.Bool.{and_parts, cases_lt, eqb-true, false≢true}
use Rattle.std.proofs.lemmas.List.{get_or-map, length-map, map-id}
use Rattle.std.proofs.lemmas.List.FromFn.{get_or-map-range_with_len, length-map-range_with_len}
use Rattle.std.proofs.lemmas.List.Quantifiers.{position-Some}
use Rattle.std.proofs.lemmas.Option.{slice_get-get_or, slice_get-map, slice_get_past}
use Rattle.std.proofs.lemmas.Simd.{map-map}
use Rattle.std.specs.Prelude.{if◌then◌else◌, position, unwrap_or}
use Rattle.std.specs.List.{IsDistinct, filter, list_all, list_any, range_with_len}
use Rattle.std.specs.Option.{option_map_or}
use Rattle.mail_base.specs.declared.kind.Id.{Id}
use Rattle.folder_letters.specs.Letters.{Mail}
use Rattle.people.specs.People.{PlainPeople}
use Rattle.patterns_match.specs.Listings.{Message}
use Rattle.patterns_match.specs.declared.row.Row.{Row}
use Rattle.index_items.specs.Acts.{acted}
use Rattle.index_items.specs.Alteration.{alter_at, altered_where}
use Rattle.index_items.specs.Items.{PlainItem, item_at, no_item, numbers as item_numbers}
use Rattle.index_items.specs.declared.act.Act.{Act}
use Rattle.index_listed.specs.Cursor.{is_seen}
use Rattle.index_listed.specs.Entries.{at as entry_at}
use Rattle.index_listed.specs.Listed.{PlainListed, all_listed as with_letters, at, ids, no_id}
use Rattle.index_listed.specs.Marks.{mark_at, no_mark}
use Rattle.index_listed.specs.Places.{numbers}
use Rattle.index_listed.specs.Seen.{visible_ids}
use Rattle.index_listed.specs.Sight.{entries, entry_of, found_place, id_at, stance_of}
use Rattle.index_listed.specs.Threading.{at as links_at}
use Rattle.index_listed.specs.Visibility.{comes_later, is_visible}
use Rattle.index_listed.specs.declared.entry.Entry.{Entry}
use Rattle.index_listed.specs.declared.links.Links.{Links}
use Rattle.index_listed.specs.declared.mark.Mark.{Mark}
use Rattle.index_listed.specs.declared.stance.Stance.{Stance}
use Rattle.index_listed.proofs.PlaceLemmas.{found_reads, map_at}
use Rattle.index_listed.proofs.SightLemmas.{seen_apart}
use Rattle.index_order.specs.Order.{is_threads}
use Rattle.index_view.specs.Answers.{Facts, PlainAnswers, answers, is_open, links_of, messages_of}
use Rattle.index_view.specs.Answers.{ordered, place_of, rows_of, scored, sight_of, stances_of}
use Rattle.index_view.specs.Answers.{threads_of, within_of}
use Rattle.index_view.specs.Limit.{is_within}
use Rattle.patterns_match.specs.Pattern.{PlainPattern}
use Rattle.index_view.specs.Listing.{all_listed}
use Rattle.index_view.specs.Marks.{mark_of, marks_of}
use Rattle.index_view.specs.Ordering.{with_number}
use Rattle.index_view.specs.Tables.{first_row, first_row_at, first_rows, message}
use Rattle.index_view.specs.Tables.{message_at, no_row, row_at, scored_at, table}
use Rattle.index_view.specs.Tables.{with_score}
use Rattle.index_view.specs.View.{answers_over}
use Rattle.index_view.proofs.AnswersLemmas.{row_numbers, rows_long}
use Rattle.index_view.proofs.LinesLemmas.{found_any, some_where}
use Rattle.index_view.specs.Acting.{bare_row}
use Rattle.index_view.proofs.StillLemmas.{AreBlind, acted_ids, acted_shut, bare}
use Rattle.index_view.proofs.StillLemmas.{first_bare, first_long, read_map, rows_bare, same_order}
use Rattle.index_view.proofs.StillLemmas.{same_shut, shut_of, table_bare}
use Rattle.index_view.proofs.ViewLemmas.{listed_ids}

-- A limit tells the same of a message where that is the same, and others differ at most in flags,
-- marks of deletion and tags.
abbrev pub IsOwn : Option PlainPattern → Type 0
IsOwn limit = (people : PlainPeople) → (ms : List Message) → (ns : List Message)
    → map bare ms ≡ map bare ns → (p : ℕ) → slice_get ms p ≡ slice_get ns p
    → is_within people limit ms p ≡ is_within people limit ns p

-- a message stays where acts on another one may hide that
abbrev pub stays_by : Bool → Id → Id → Bool
stays_by b id x = b || not (nat_eq id.0 x.0)

-- ---- lists that are told by their places

read_get : {X : Type 0} (xs : List X) (p : ℕ) (d : X)
    → slice_index_or xs p d ≡ unwrap_or (slice_get xs p) d
read_get [] p d = refl
read_get (x ∷ xs) zero d = refl
read_get (x ∷ xs) (suc p) d = read_get xs p d

told_same : {X : Type 0} (F G : ℕ → X) (n p : ℕ) → F p ≡ G p
    → slice_get (map F (range_with_len 0 n)) p ≡ slice_get (map G (range_with_len 0 n)) p
told_same {X = X} F G n p same = ⊎_elim
    (λ low. told F low ∙ ap Some same ∙ sym (told G low))
    (λ le. past F le ∙ sym (past G le))
    (cases_lt p n)
  where
    told : (H : ℕ → X) → p < n → slice_get (map H (range_with_len 0 n)) p ≡ Some (H p)
    told H low = slice_get-get_or (map H (range_with_len 0 n)) p (H p)
        (subst (λ k. p < k) (sym (length-map-range_with_len H 0 n)) low)
        ∙ ap Some (get_or-map-range_with_len H 0 n p p (H p) low (omega arith))

    past : (H : ℕ → X) → n ≤ p → slice_get (map H (range_with_len 0 n)) p ≡ None
    past H le = slice_get_past (map H (range_with_len 0 n)) p
        (subst (λ k. k ≤ p) (sym (length-map-range_with_len H 0 n)) le)

-- the same of lists that are as long
told_alike : {X : Type 0} (F G : ℕ → X) (n m p : ℕ) → n ≡ m → F p ≡ G p
    → slice_get (map F (range_with_len 0 n)) p ≡ slice_get (map G (range_with_len 0 m)) p
told_alike F G n m p long same = told_same F G n p same
    ∙ ap (λ k. slice_get (map G (range_with_len 0 k)) p) long

read_alike : {X : Type 0} (F G : ℕ → X) (n m p : ℕ) (d : X) → n ≡ m → F p ≡ G p
    → slice_index_or (map F (range_with_len 0 n)) p d
    ≡ slice_index_or (map G (range_with_len 0 m)) p d
read_alike F G n m p d long same =
    read_get (map F (range_with_len 0 n)) p d
    ∙ ap (λ o. unwrap_or o d) (told_alike F G n m p long same)
    ∙ sym (read_get (map G (range_with_len 0 m)) p d)

-- the same of a part of what is told
part_alike : {X Y : Type 0} (pick : X → Y) (F G : ℕ → X) (n m p : ℕ) (d : X) → n ≡ m
    → pick (F p) ≡ pick (G p)
    → pick (slice_index_or (map F (range_with_len 0 n)) p d)
    ≡ pick (slice_index_or (map G (range_with_len 0 m)) p d)
part_alike {X = X} pick F G n m p d long same = part F n
    ∙ read_alike (λ q. pick (F q)) (λ q. pick (G q)) n m p (pick d) long same
    ∙ sym (part G m)
  where
    part : (H : ℕ → X) (k : ℕ) → pick (slice_index_or (map H (range_with_len 0 k)) p d)
        ≡ slice_index_or (map (λ q. pick (H q)) (range_with_len 0 k)) p (pick d)
    part H k = sym (read_map pick d (map H (range_with_len 0 k)) p)
        ∙ ap (λ l. slice_index_or l p (pick d)) (map-map pick H (range_with_len 0 k))

always : {X : Type 0} (d : X) (xs : List ℕ) (p : ℕ) → slice_index_or (map (λ _. d) xs) p d ≡ d
always d [] p = refl
always d (x ∷ xs) zero = refl
always d (x ∷ xs) (suc p) = always d xs p

filter_ranges : (f g : ℕ → Bool) (a n : ℕ) → ((i : ℕ) → a ≤ i → i < a + n → f i ≡ g i)
    → filter f (range_with_len a n) ≡ filter g (range_with_len a n)
filter_ranges f g a zero same = refl
filter_ranges f g a (suc n) same =
    let rest = filter_ranges f g (a + 1) n
    (λ i low high. same i (omega (arith, low)) (omega (arith, high))) in
    λ k. if same a (omega arith) (omega arith) k then a ∷ rest k else rest k

filter_below : (f g : ℕ → Bool) (n : ℕ) → ((i : ℕ) → i < n → f i ≡ g i)
    → filter f (range_with_len 0 n) ≡ filter g (range_with_len 0 n)
filter_below f g n same = filter_ranges f g 0 n (λ i le low. same i (omega (arith, low)))

filter_mapped : {X Y : Type 0} (test : Y → Bool) (f : X → Y) (xs : List X)
    → map f (filter (λ x. test (f x)) xs) ≡ filter test (map f xs)
filter_mapped test f [] = refl
filter_mapped test f (x ∷ xs) = by_test (test (f x)) (filter_mapped test f xs)
  where
    by_test : (t : Bool) → map f (filter (λ x. test (f x)) xs) ≡ filter test (map f xs)
        → map f (if t then x ∷ filter (λ x. test (f x)) xs else filter (λ x. test (f x)) xs)
        ≡ (if t then f x ∷ filter test (map f xs) else filter test (map f xs))
    by_test true same = λ k. f x ∷ same k
    by_test false same = same

all_read : {X : Type 0} (test : X → Bool) (xs : List X) (i : ℕ) (d : X) → i < length xs
    → list_all test xs ≡ true → test (slice_index_or xs i d) ≡ true
all_read test [] i d low all = absurd (omega (arith, low))
all_read test (x ∷ xs) zero d low all = (and_parts (test x) (list_all test xs) all).0
all_read test (x ∷ xs) (suc i) d low all =
    all_read test xs i d (omega (arith, low)) (and_parts (test x) (list_all test xs) all).1

not_not : (b : Bool) → not b ≡ true → b ≡ false
not_not true h = sym h
not_not false h = refl

-- the message at a place of the listing satisfies the limit
abbrev satisfied : List PlainListed → Facts → ℕ → Bool
satisfied ls f p = (mark_at (marks_of (rows_of ls f) (within_of ls f)) p).satisfies

-- ---- a message that is the same

module _ (ls : List PlainListed) (f : Facts) (items : List PlainItem)
    (scores_blind : AreBlind f.scores) (same : map shut_of items ≡ map shut_of f.items)
    (own : IsOwn f.limit) where
  abbrev g : Facts
  g = record f { items = items }

  abbrev links_are : List Links
  links_are = links_of ls f

  module _ (p : ℕ) (here : item_at items p ≡ item_at f.items p) where
    same_first : row_at (first_rows ls items links_are) p
        ≡ row_at (first_rows ls f.items links_are) p
    same_first = read_alike (first_row_at ls items links_are) (first_row_at ls f.items links_are)
        (length ls) (length ls) p no_row refl
        (λ k. first_row (at ls p) (here k) (same_shut ls f items scores_blind same p k))

    abbrev first_table : List PlainItem → List Message
    first_table is = table ls (first_rows ls is links_are) links_are

    abbrev scores_at : List PlainItem → ℕ → Row
    scores_at is = scored_at f.people f.scores (first_table is) (first_rows ls is links_are)

    same_scored : slice_get (scored ls g) p ≡ slice_get (scored ls f) p
    same_scored = told_alike (scores_at items) (scores_at f.items)
        (length (first_rows ls items links_are)) (length (first_rows ls f.items links_are)) p
        (first_long ls f items scores_blind same items
        ∙ sym (first_long ls f items scores_blind same f.items))
        (λ k. with_score
        (scores_blind f.people (first_table items) (first_table f.items)
        (table_bare ls f items scores_blind same (first_rows ls items links_are)
        (first_rows ls f.items links_are) (first_bare ls f items scores_blind same)) p k)
        (same_first k))

    same_row : row_at (rows_of ls g) p ≡ row_at (rows_of ls f) p
    same_row =
        read_get (rows_of ls g) p no_row
        ∙ ap (λ o. unwrap_or o no_row)
        (slice_get-map (with_number (ordered ls g)) (scored ls g) p
        ∙ (λ k. option_map (with_number (same_order ls f items scores_blind same k))
        (same_scored k))
        ∙ sym (slice_get-map (with_number (ordered ls f)) (scored ls f) p))
        ∙ sym (read_get (rows_of ls f) p no_row)

    same_message : slice_get (messages_of ls g) p ≡ slice_get (messages_of ls f) p
    same_message = told_same (message_at ls (rows_of ls g) links_are)
        (message_at ls (rows_of ls f) links_are) (length ls) p
        (ap (λ (r : Row). message (at ls p) r (links_at links_are p)) same_row)

    tables_long : (rows : List Row) → length (table ls rows links_are) ≡ length ls
    tables_long rows = length-map-range_with_len (message_at ls rows links_are) 0 (length ls)

    same_own : slice_index_or (within_of ls g) p false ≡ slice_index_or (within_of ls f) p false
    same_own = read_alike (is_within f.people f.limit (messages_of ls g))
        (is_within f.people f.limit (messages_of ls f))
        (length (messages_of ls g)) (length (messages_of ls f)) p false
        (tables_long (rows_of ls g) ∙ sym (tables_long (rows_of ls f)))
        (own f.people (messages_of ls g) (messages_of ls f)
        (table_bare ls f items scores_blind same (rows_of ls g) (rows_of ls f)
        (rows_bare ls f items scores_blind same)) p same_message)

    pub same_satisfied : satisfied ls g p ≡ satisfied ls f p
    same_satisfied = part_alike (λ (m : Mark). m.satisfies)
        (mark_of (rows_of ls g) (within_of ls g)) (mark_of (rows_of ls f) (within_of ls f))
        (length (rows_of ls g)) (length (rows_of ls f)) p no_mark
        (rows_long ls g ∙ sym (rows_long ls f)) same_own

-- ---- what is seen where no thread is shut

module _ (ls : List PlainListed) (f : Facts) where
  abbrev a : PlainAnswers
  a = answers ls f

  -- the message with an id satisfies the limit
  abbrev pub passes_id : Id → Bool
  passes_id x = satisfied ls f (found_place (ids ls) x)

  abbrev marks : List Mark
  marks = marks_of (rows_of ls f) (within_of ls f)

  -- where an open message stands
  pub open_place : (x : Id) → is_open a x ≡ true
      → (p : ℕ) × (position (nat_eq x.0) (ids ls) ≡ Some p) × ((row_at a.rows p).collapsed ≡ false)
  open_place x opens = by_place (place_of a x)
      (ap (position (nat_eq x.0)) (sym (row_numbers ls f))) opens
    where
      by_place : (o : Option ℕ) → position (nat_eq x.0) (ids ls) ≡ o
          → option_map_or (λ r. not r.collapsed) (option_map (row_at a.rows) o) false ≡ true
          → (p : ℕ) × (position (nat_eq x.0) (ids ls) ≡ Some p)
          × ((row_at a.rows p).collapsed ≡ false)
      by_place None is h = absurd (false≢true h)
      by_place (Some p) is h = (p, is, not_not (row_at a.rows p).collapsed h)

  not_shut : (x : Id) → is_open a x ≡ true
      → (mark_at marks (found_place (ids ls) x)).is_shut ≡ false
  not_shut x opens =
      let at_place = open_place x opens in
      ap (λ (o : Option ℕ). (mark_at marks (unwrap_or o 0)).is_shut) at_place.1
      ∙ part_alike (λ (m : Mark). m.is_shut) (mark_of (rows_of ls f) (within_of ls f))
      (λ _. no_mark) (length (rows_of ls f)) (length (rows_of ls f)) at_place.0 no_mark refl
      at_place.2
      ∙ ap (λ (m : Mark). m.is_shut)
      (always no_mark (range_with_len 0 (length (rows_of ls f))) at_place.0)

  abbrev stands : Id → Stance
  stands = stance_of (is_threads f.options.sort) (threads_of ls f) (ids ls)
      (numbers (ordered ls f))

  abbrev all : List Entry
  all = entries marks (stances_of ls f)

  all_long : length all ≡ length (ordered ls f)
  all_long = length-map (stances_of ls f) (entry_of marks) ∙ length-map (ordered ls f) stands

  entry_is : (q : ℕ) → q < length (ordered ls f)
      → entry_at all q ≡ entry_of marks (stands (id_at (ordered ls f) q))
  entry_is q low =
      get_or-map (entry_of marks) (stances_of ls f) q (stands no_id) _
      (subst (λ n. q < n) (sym (length-map (ordered ls f) stands)) low)
      ∙ ap (entry_of marks) (get_or-map stands (ordered ls f) q no_id (stands no_id) low)

  pub seen_distinct : IsDistinct nat_eq (numbers (ordered ls f))
      → IsDistinct nat_eq (numbers (visible_ids (sight_of ls f)))
  seen_distinct apart = seen_apart (ordered ls f) all all_long apart

  seen_where : (q : ℕ) → q < length (ordered ls f)
      → is_open a (id_at (ordered ls f) q) ≡ true
      → is_visible all q ≡ passes_id (id_at (ordered ls f) q)
  seen_where q low opens =
      let x = id_at (ordered ls f) q in
      ap (λ (e : Entry). e.satisfies && (not e.is_shut || not (comes_later all q)))
      (entry_is q low)
      ∙ ap (λ (shut : Bool). passes_id x && (not shut || not (comes_later all q)))
      (not_shut x opens)
      ∙ and-true (passes_id x)

  pub seen_filtered : list_all (is_open a) (ordered ls f) ≡ true
      → visible_ids (sight_of ls f) ≡ filter passes_id (ordered ls f)
  seen_filtered opens =
      let order = ordered ls f in
      ap (λ n. map (id_at order) (filter (is_visible all) (range_with_len 0 n))) all_long
      ∙ ap (map (id_at order)) (filter_below (is_visible all) (λ q. passes_id (id_at order q))
      (length order) (λ q low. seen_where q low
      (all_read (is_open a) order q no_id low opens)))
      ∙ filter_mapped passes_id (id_at order) (range_with_len 0 (length order))
      ∙ ap (filter passes_id) (map_at (λ (x : Id). x) order no_id ∙ map-id order)

-- ---- what is seen when one message may have changed

-- whether the message with an id is open hangs on no flag
open_bare : (rows : List Row) (x : Id)
    → option_map_or (λ (r : Row). not r.collapsed)
    (option_map (row_at rows) (position (nat_eq x.0) (map (λ r. r.id.0) rows))) false
    ≡ option_map_or (λ (r : Row). not r.collapsed) (option_map (row_at (map bare_row rows))
    (position (nat_eq x.0) (map (λ r. r.id.0) (map bare_row rows)))) false
open_bare rows x =
    by_place (position (nat_eq x.0) (map (λ (r : Row). r.id.0) rows))
    ∙ ap (λ (ns : List ℕ). option_map_or (λ (r : Row). not r.collapsed)
    (option_map (row_at (map bare_row rows)) (position (nat_eq x.0) ns)) false)
    (sym (map-map (λ (r : Row). r.id.0) bare_row rows))
  where
    by_place : (o : Option ℕ)
        → option_map_or (λ (r : Row). not r.collapsed) (option_map (row_at rows) o) false
        ≡ option_map_or (λ (r : Row). not r.collapsed)
        (option_map (row_at (map bare_row rows)) o) false
    by_place None = refl
    by_place (Some p) = ap (λ (r : Row). not r.collapsed) (sym (read_map bare_row no_row rows p))

-- a test that told only one of some apart tells now what it tells of that
module _ (T U opens : Id → Bool) (id : Id)
    (same : (x : Id) → opens x ≡ true → nat_eq id.0 x.0 ≡ false → U x ≡ T x)
    (old : (x : Id) → nat_eq id.0 x.0 ≡ true → T x ≡ true)
    (new : (x : Id) → nat_eq id.0 x.0 ≡ true → U x ≡ U id) where
  one_here : (x : Id) → opens x ≡ true → U x ≡ (T x && stays_by (U id) id x)
  one_here x is_open = by_test (nat_eq id.0 x.0) refl
    where
      by_test : (t : Bool) → nat_eq id.0 x.0 ≡ t → U x ≡ (T x && (U id || not t))
      by_test true is = new x is ∙ or_false (U id)
          ∙ ap (λ (b : Bool). b && (U id || false)) (sym (old x is))
        where
          or_false : (b : Bool) → b ≡ (b || false)
          or_false true = refl
          or_false false = refl
      by_test false is = same x is_open is ∙ and_more (T x) (U id)
        where
          and_more : (b c : Bool) → b ≡ (b && (c || true))
          and_more true true = refl
          and_more true false = refl
          and_more false c = refl

  one_left : (xs : List Id) → list_all opens xs ≡ true
      → filter U xs ≡ filter (stays_by (U id) id) (filter T xs)
  one_left [] all = refl
  one_left (x ∷ xs) all =
      let parts = and_parts (opens x) (list_all opens xs) all in
      by_tests (U x) (T x) (stays_by (U id) id x) refl (one_here x parts.0) (one_left xs parts.1)
    where
      by_tests : (u t s : Bool) → stays_by (U id) id x ≡ s → u ≡ (t && s)
          → filter U xs ≡ filter (stays_by (U id) id) (filter T xs)
          → (if u then x ∷ filter U xs else filter U xs)
          ≡ filter (stays_by (U id) id) (if t then x ∷ filter T xs else filter T xs)
      by_tests u true true is e more = rw e (rw is (λ k. x ∷ more k))
      by_tests u true false is e more = rw e (rw is more)
      by_tests u false s is e more = rw e more

-- an id that is seen passes the test of what is seen
passed : (T : Id → Bool) (id : Id) → ((x : Id) → nat_eq id.0 x.0 ≡ true → T x ≡ T id)
    → (xs : List Id) → list_any (nat_eq id.0) (numbers (filter T xs)) ≡ true → T id ≡ true
passed T id same [] any = absurd (false≢true any)
passed T id same (x ∷ xs) any = by_test (T x) refl (passed T id same xs) any
  where
    Has : List Id → Type 0
    Has ids = list_any (nat_eq id.0) (numbers ids) ≡ true

    by_test : (t : Bool) → T x ≡ t → (Has (filter T xs) → T id ≡ true)
        → Has (if t then x ∷ filter T xs else filter T xs) → T id ≡ true
    by_test false is more h = more h
    by_test true is more h = by_id (nat_eq id.0 x.0) refl h
      where
        by_id : (b : Bool) → nat_eq id.0 x.0 ≡ b
            → (b || list_any (nat_eq id.0) (numbers (filter T xs))) ≡ true → T id ≡ true
        by_id true e some = sym (same x e) ∙ is
        by_id false e some = more some

-- seen, as a test of each
pub seen_any : (xs : List Id) (x : Id) → is_seen xs x ≡ list_any (nat_eq x.0) (numbers xs)
seen_any xs x = some_where _ _ ∙ found_any (nat_eq x.0) (numbers xs)

module _ (mails : List Mail) (f : Facts) (act : Act) (id : Id) (scores_blind : AreBlind f.scores)
  where
    abbrev ls : List PlainListed
    ls = all_listed mails f.items

    abbrev items : List PlainItem
    items = alter_at id (acted act) f.items

    abbrev now : Facts
    now = record f { items = items }

    abbrev shut : map shut_of items ≡ map shut_of f.items
    shut = acted_shut act id f.items

    same_listed : all_listed mails items ≡ ls
    same_listed = ap (with_letters mails) (acted_ids act id f.items)

    answers_same : answers_over mails now ≡ answers ls now
    answers_same = ap (λ (l : List PlainListed). answers l now) same_listed

    pub order_acted : (answers_over mails now).sight.order ≡ (answers_over mails f).sight.order
    order_acted = ap (λ (a : PlainAnswers). a.sight.order) answers_same
        ∙ same_order ls f items scores_blind shut

    open_now : (x : Id) → is_open (answers ls now) x ≡ is_open (answers ls f) x
    open_now x = open_bare (rows_of ls now) x
        ∙ ap (λ (rows : List Row). option_map_or (λ (r : Row). not r.collapsed)
        (option_map (row_at rows) (position (nat_eq x.0) (map (λ r. r.id.0) rows))) false)
        (rows_bare ls f items scores_blind shut)
        ∙ sym (open_bare (rows_of ls f) x)

    all_open : (xs : List Id) → list_all (is_open (answers ls now)) xs
        ≡ list_all (is_open (answers ls f)) xs
    all_open [] = refl
    all_open (x ∷ xs) = λ k. open_now x k && all_open xs k

    -- all messages stand in open threads
    abbrev AllOpen : Facts → Type 0
    AllOpen h = list_all (is_open (answers_over mails h)) (answers_over mails h).sight.order ≡ true

    open_ordered : list_all (is_open (answers ls f)) (ordered ls f) ≡ true
        → list_all (is_open (answers ls now)) (ordered ls now) ≡ true
    open_ordered opens = all_open (ordered ls now)
        ∙ ap (list_all (is_open (answers ls f))) (same_order ls f items scores_blind shut) ∙ opens

    pub open_acted : AllOpen f → AllOpen now
    open_acted opens =
        ap (λ (a : PlainAnswers). list_all (is_open a) a.sight.order) answers_same
        ∙ open_ordered opens

    same_place : (h : Facts) (x : Id) → nat_eq id.0 x.0 ≡ true
        → passes_id ls h x ≡ passes_id ls h id
    same_place h x e = ap (λ n. satisfied ls h (unwrap_or (position (nat_eq n) (ids ls)) 0))
        (sym (eqb-true id.0 x.0 e))

    -- the item of another message is as before
    same_item : (x : Id) (p : ℕ) → position (nat_eq x.0) (ids ls) ≡ Some p
        → nat_eq id.0 x.0 ≡ false → item_at items p ≡ item_at f.items p
    same_item x p is other =
        let found : position (nat_eq x.0) (item_numbers f.items) ≡ Some p =
        ap (position (nat_eq x.0)) (sym (listed_ids mails f.items)) ∙ is in
        let low : p < length f.items = subst (λ n. p < n)
        (length-map f.items (λ (i : PlainItem). i.id.0))
        (position-Some (nat_eq x.0) (item_numbers f.items) p 0 found).0 in
        let number : (item_at f.items p).id.0 ≡ x.0 =
        sym (get_or-map (λ (i : PlainItem). i.id.0) f.items p no_item 0 low)
        ∙ found_reads (item_numbers f.items) x.0 p found 0 in
        get_or-map (altered_where id (acted act)) f.items p no_item no_item low
        ∙ ap (λ (b : Bool). if b then acted act (item_at f.items p) else item_at f.items p)
        (ap (nat_eq id.0) number ∙ other)

    module _ (own : IsOwn f.limit) (opens : AllOpen f) where
      same_passes : (x : Id) → is_open (answers ls f) x ≡ true → nat_eq id.0 x.0 ≡ false
          → passes_id ls now x ≡ passes_id ls f x
      same_passes x is_open other =
          let at_place = open_place ls f x is_open in
          ap (λ (o : Option ℕ). satisfied ls now (unwrap_or o 0)) at_place.1
          ∙ same_satisfied ls f items scores_blind shut own at_place.0
          (same_item x at_place.0 at_place.1 other)
          ∙ sym (ap (λ (o : Option ℕ). satisfied ls f (unwrap_or o 0)) at_place.1)

      pub one_hides : is_seen (visible_ids (answers_over mails f).sight) id ≡ true
          → (b : Bool) × (visible_ids (answers_over mails now).sight
          ≡ filter (stays_by b id) (visible_ids (answers_over mails f).sight))
      one_hides seen =
          let T = passes_id ls f in
          let U = passes_id ls now in
          let order = ordered ls f in
          let before : visible_ids (sight_of ls f) ≡ filter T order = seen_filtered ls f opens in
          let passes : T id ≡ true = passed T id (same_place f) order
          (ap (λ (xs : List Id). list_any (nat_eq id.0) (numbers xs)) (sym before)
          ∙ sym (seen_any (visible_ids (sight_of ls f)) id) ∙ seen) in (
            U id,
            ap (λ (a : PlainAnswers). visible_ids a.sight) answers_same
                ∙ seen_filtered ls now (open_ordered opens)
                ∙ ap (filter U) (same_order ls f items scores_blind shut)
                ∙ one_left T U (is_open (answers ls f)) id same_passes
                (λ x e. same_place f x e ∙ passes) (same_place now) order opens
                ∙ ap (filter (stays_by (U id) id)) (sym before),
          )
