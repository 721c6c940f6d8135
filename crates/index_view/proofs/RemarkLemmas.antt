-- What is answered once acts were done to messages in place.
use Rattle.std.proofs.Common.{◌≡◌, ◌∙◌, ◌<◌, ℕ, zero, suc, Bool, true, false, List, [], ◌∷◌}
use Rattle.std.proofs.Common.{Option, Some, None, ap, length, map, nat_eq, refl, slice_get}
use Rattle.std.proofs.Common.{slice_index_or, slice_set, subst, sym}
use Rattle.std.specs.Prelude.{position}
use Rattle.std.proofs.lemmas.Bool.{and_parts}
use Rattle.std.proofs.lemmas.List.{get_or-map, length-map, map-id, map-set, set-get_or}
use Rattle.std.proofs.lemmas.List.Quantifiers.{position-Some}
use Rattle.std.proofs.lemmas.Simd.{map-map}
use Rattle.std.specs.List.{IsDistinct, range_with_len}
use Rattle.std.specs.Option.{option_map_or}
use Rattle.mail_base.specs.declared.kind.Id.{Id}
use Rattle.folder_letters.specs.Letters.{Mail}
use Rattle.patterns_match.specs.declared.row.Row.{Row}
use Rattle.index_items.specs.Acts.{acted, acted_all}
use Rattle.index_items.specs.Alteration.{alter_at}
use Rattle.index_items.specs.Items.{PlainItem, ids_of, item_at, no_item, numbers}
use Rattle.index_items.specs.declared.act.Act.{Act}
use Rattle.index_listed.specs.Cursor.{Stands, moved}
use Rattle.index_listed.specs.Heads.{AreWithin}
use Rattle.index_listed.specs.Listed.{PlainListed, all_listed as with_letters, at, listed_with}
use Rattle.index_listed.specs.Listed.{no_listed}
use Rattle.index_listed.specs.Sight.{entries}
use Rattle.index_listed.specs.Marks.{is_unread as mark_unread, mark_at, no_mark}
use Rattle.index_listed.specs.Seen.{marked_threads, unread, visible_ids}
use Rattle.index_listed.specs.declared.mark.Mark.{Mark}
use Rattle.index_listed.specs.declared.stance.Stance.{Stance}
use Rattle.index_listed.proofs.PlaceLemmas.{map_at}
use Rattle.index_view.specs.Acting.{AreAlike, RowsShow, Shown, bare_row, is_unread, item_shows}
use Rattle.index_view.specs.Acting.{remarked, row_shows, unread_at, unread_in, unread_of}
use Rattle.index_view.specs.Acting.{veiled, veiled_shown, with_unread}
use Rattle.index_view.specs.Answers.{Facts, PlainAnswers, answers, links_of, ordered, rows_of}
use Rattle.index_view.specs.Answers.{scored, sight_of, stances_of, within_of}
use Rattle.index_view.specs.Listing.{all_listed}
use Rattle.index_view.specs.Marks.{mark_of, marks_of}
use Rattle.index_view.specs.Ordering.{with_number}
use Rattle.index_view.specs.Staying.{Touched, entries_stay, is_still, limit_stays, touched}
use Rattle.index_view.specs.Tables.{first_row_at, first_rows, no_row, row_at}
use Rattle.index_view.specs.Tables.{scored_at, table}
use Rattle.index_view.specs.View.{IsOf, PlainView, Turned, answers_over, facts_of, visible_of}
use Rattle.index_view.proofs.ActingLemmas.{acted_keeps_id, all_acted_numbers, altered_at_place}
use Rattle.index_view.proofs.StayingLemmas.{entries_blind, limit_blind}
use Rattle.index_view.proofs.StillLemmas.{AreBlind, IsBlind, acted_ids, acted_shut, each_same}
use Rattle.index_view.proofs.StillLemmas.{read_map, rows_bare, same_entries, same_order}
use Rattle.index_view.proofs.StillLemmas.{same_stances, same_within, seen_still, shut_of}
use Rattle.index_view.proofs.VeilLemmas.{all_acted_leave, item_but}

-- Rows show messages.

-- rows that differ in nothing else, and show the same but for what is touched, differ in that alone
by_parts : (t : Touched) (r s : Row) → bare_row r ≡ bare_row s
    → veiled_shown t (row_shows r) ≡ veiled_shown t (row_shows s) → veiled t r ≡ veiled t s
by_parts t r s bare shows = λ k. record (bare k) {
  flags = (shows k).flags;
  deleted = (shows k).deleted;
  tagged = (shows k).tagged;
}

first_of : {X : Type 0} (d : X) → List X → X
first_of d [] = d
first_of d (x ∷ xs) = x

rest_of : {X : Type 0} → List X → List X
rest_of [] = []
rest_of (x ∷ xs) = xs

abbrev shows_but : Touched → Row → Shown
shows_but t r = veiled_shown t (row_shows r)

rows_veiled : (t : Touched) (rows others : List Row) → AreAlike rows others
    → map (shows_but t) rows ≡ map (shows_but t) others
    → map (veiled t) rows ≡ map (veiled t) others
unfolding first_of rest_of
rows_veiled t [] [] alike shows = refl
rows_veiled t [] (s ∷ others) alike shows = absurd (cc)
rows_veiled t (r ∷ rows) [] alike shows = absurd (cc)
rows_veiled t (r ∷ rows) (s ∷ others) alike shows =
    let here = by_parts t r s (ap (first_of (bare_row r)) alike)
    (ap (first_of (shows_but t r)) shows) in
    let there = rows_veiled t rows others (ap rest_of alike) (ap rest_of shows) in
    λ k. here k ∷ there k

abbrev nothing : Touched
nothing = record { flags = false; deleted = false; tagged = false }

-- rows that differ in nothing and show the same are the same
pub rows_same : (rows others : List Row) → AreAlike rows others
    → map row_shows rows ≡ map row_shows others → rows ≡ others
rows_same rows others alike shows = sym (map-id rows)
    ∙ rows_veiled nothing rows others alike shows ∙ map-id others

-- the numbers of rows are those of the messages that they show
pub shown_numbers : (items : List PlainItem) (rows : List Row) → RowsShow items rows
    → map (λ (r : Row). r.id.0) rows ≡ numbers items
shown_numbers items rows show =
    sym (map-map (λ (s : Shown). s.id.0) row_shows rows)
    ∙ ap (map (λ (s : Shown). s.id.0)) show
    ∙ map-map (λ (s : Shown). s.id.0) item_shows items

abbrev id_in : PlainListed → Id
id_in l = l.id

-- the rows that are worked out from scratch show the messages
module _ (ls : List PlainListed) (f : Facts) (ids : map id_in ls ≡ ids_of f.items) where
  long : length ls ≡ length f.items
  long = sym (length-map ls id_in) ∙ ap length ids
      ∙ length-map f.items (λ (i : PlainItem). i.id)

  same_id : (p : ℕ) → (at ls p).id ≡ (item_at f.items p).id
  same_id p = sym (read_map id_in no_listed ls p)
      ∙ ap (λ (xs : List Id). slice_index_or xs p no_item.id) ids
      ∙ read_map (λ (i : PlainItem). i.id) no_item f.items p

  first_show : RowsShow f.items (first_rows ls f.items (links_of ls f))
  first_show =
      map-map row_shows (first_row_at ls f.items (links_of ls f)) (range_with_len 0 (length ls))
      ∙ each_same (λ p. row_shows (first_row_at ls f.items (links_of ls f) p))
      (λ p. item_shows (item_at f.items p)) (range_with_len 0 (length ls))
      (λ p k. record (item_shows (item_at f.items p)) { id = same_id p k })
      ∙ ap (λ n. map (λ p. item_shows (item_at f.items p)) (range_with_len 0 n)) long
      ∙ map_at item_shows f.items no_item

  scored_show : RowsShow f.items (scored ls f)
  scored_show =
      let rows = first_rows ls f.items (links_of ls f) in
      map-map row_shows (scored_at f.people f.scores (table ls rows (links_of ls f)) rows)
      (range_with_len 0 (length rows))
      ∙ map_at row_shows rows no_row ∙ first_show

  pub rows_show : RowsShow f.items (rows_of ls f)
  rows_show = map-map row_shows (with_number (ordered ls f)) (scored ls f) ∙ scored_show

listed_ids : (mails : List Mail) (items : List PlainItem)
    → map id_in (all_listed mails items) ≡ ids_of items
listed_ids mails items =
    map-map id_in (listed_with mails) (ids_of items) ∙ map-id (ids_of items)

-- the rows of a view show its messages
pub listed_show : (mails : List Mail) (v : PlainView) → IsOf mails v
    → RowsShow v.items v.answers.rows
listed_show mails v of = ap (λ (a : PlainAnswers). map row_shows a.rows) of.answered
    ∙ rows_show (all_listed mails v.items) (facts_of v) (listed_ids mails v.items)

-- A message is remarked.

abbrev number : Row → ℕ
number r = r.id.0

-- the numbers stay where the id of the row that is put in does
pub set_numbers : (rows : List Row) (p : ℕ) (row d : Row) → row.id ≡ (slice_index_or rows p d).id
    → map number (slice_set rows p row) ≡ map number rows
set_numbers rows p row d same =
    map-set number rows p row
    ∙ ap (slice_set (map number rows) p)
    (ap (λ (id : Id). id.0) same ∙ sym (read_map number d rows p))
    ∙ set-get_or (map number rows) p (number d)

-- the other rows stay, and of this one no more changes than what is shown
pub remarked_alike : (i : PlainItem) (rows : List Row) (p : ℕ)
    → AreAlike (slice_set rows p (remarked i (row_at rows p))) rows
remarked_alike i rows p =
    map-set bare_row rows p (remarked i (row_at rows p))
    ∙ ap (slice_set (map bare_row rows) p) (sym (read_map bare_row no_row rows p))
    ∙ set-get_or (map bare_row rows) p (bare_row no_row)

module _ (act : Act) (id : Id) (items : List PlainItem) (rows : List Row) (p : ℕ)
    (show : RowsShow items rows) where
  same_row : row_shows (row_at rows p) ≡ item_shows (item_at items p)
  same_row = sym (read_map row_shows no_row rows p)
      ∙ ap (λ (xs : List Shown). slice_index_or xs p (row_shows no_row)) show
      ∙ read_map item_shows no_item items p

  abbrev next : PlainItem
  next = acted act (item_at items p)

  next_id : (row_at rows p).id ≡ next.id
  next_id = ap (λ (s : Shown). s.id) same_row ∙ sym (acted_keeps_id act (item_at items p))

  -- rows show the messages when one was acted on and its row remarked
  pub remarked_show : RowsShow (slice_set items p next)
      (slice_set rows p (remarked next (row_at rows p)))
  remarked_show =
      map-set row_shows rows p (remarked next (row_at rows p))
      ∙ (λ k. slice_set (show k) p (record (item_shows next) { id = next_id k }))
      ∙ sym (map-set item_shows items p next)

  -- the message at the place of an id is the one to which this is done
  pub acted_in_place : IsDistinct nat_eq (numbers items)
      → position (nat_eq id.0) (map (λ (r : Row). r.id.0) rows) ≡ Some p
      → slice_set items p next ≡ alter_at id (acted act) items
  acted_in_place apart found =
      let has = position-Some (nat_eq id.0) (numbers items) p 0
      (ap (position (nat_eq id.0)) (sym (shown_numbers items rows show)) ∙ found) in
      let low : p < length items = subst (λ n. p < n) (length-map items (λ i. i.id.0)) has.0 in
      let same : nat_eq id.0 (item_at items p).id.0 ≡ true =
      ap (nat_eq id.0) (sym (get_or-map (λ i. i.id.0) items p no_item 0 low)) ∙ has.1 in
      altered_at_place items p id (acted act) no_item low same apart

-- Unread messages.

read_test : {X : Type 0} (test : X → Bool) (xs : List X) (p : ℕ)
    → slice_index_or (map test xs) p false ≡ option_map_or test (slice_get xs p) false
read_test test [] p = refl
read_test test (x ∷ xs) zero = refl
read_test test (x ∷ xs) (suc p) = read_test test xs p

-- an order tells of the message at a place of it what the row of that one does
pub unread_there : (old : Bool) (rows : List Row) (all : List Stance) (p : ℕ)
    → slice_index_or (unread_in old rows all) p false ≡ unread_of old rows (slice_get all p)
unread_there old rows all p = read_test (λ (s : Stance). unread_at old rows s.place) all p

module _ (rows : List Row) (within : List Bool) where
  abbrev marks : List Mark
  marks = marks_of rows within

  unread_mark : (old : Bool) (p : ℕ) → mark_unread old (mark_at marks p) ≡ unread_at old rows p
  unread_mark true p =
      sym (read_map (λ (m : Mark). m.is_old) no_mark marks p)
      ∙ ap (λ (bs : List Bool). slice_index_or bs p false)
      (map-map (λ (m : Mark). m.is_old) (mark_of rows within) (range_with_len 0 (length rows))
      ∙ map_at (is_unread true) rows no_row)
      ∙ read_test (is_unread true) rows p
  unread_mark false p =
      sym (read_map (λ (m : Mark). m.is_new) no_mark marks p)
      ∙ ap (λ (bs : List Bool). slice_index_or bs p false)
      (map-map (λ (m : Mark). m.is_new) (mark_of rows within) (range_with_len 0 (length rows))
      ∙ map_at (is_unread false) rows no_row)
      ∙ read_test (is_unread false) rows p

  -- marks tell of unread messages what rows tell
  pub unread_marks : (old : Bool) (all : List Stance)
      → unread old marks all ≡ unread_in old rows all
  unread_marks old all = each_same (λ s. mark_unread old (mark_at marks s.place))
      (λ s. unread_at old rows s.place) all (λ s. unread_mark old s.place)

-- What is answered.

shown_but : (t : Touched) (items : List PlainItem) (rows : List Row) → RowsShow items rows
    → map (shows_but t) rows ≡ map (item_but t) items
shown_but t items rows show =
    sym (map-map (veiled_shown t) row_shows rows) ∙ ap (map (veiled_shown t)) show
    ∙ map-map (veiled_shown t) item_shows items

-- which messages satisfy a limit that does not look at what is touched
still_within : (t : Touched) (ls : List PlainListed) (f : Facts) (items : List PlainItem)
    → IsBlind t f.limit → AreBlind f.scores → map shut_of items ≡ map shut_of f.items
    → map id_in ls ≡ ids_of f.items → ids_of items ≡ ids_of f.items
    → map (item_but t) items ≡ map (item_but t) f.items
    → within_of ls (record f { items = items }) ≡ within_of ls f
still_within t ls f items blind scores_blind same ids same_ids leaves =
    let g = record f { items = items } in
    same_within ls f items scores_blind same t blind
    (rows_veiled t (rows_of ls g) (rows_of ls f) (rows_bare ls f items scores_blind same)
    (shown_but t items (rows_of ls g) (rows_show ls g (ids ∙ sym same_ids)) ∙ leaves
    ∙ sym (shown_but t f.items (rows_of ls f) (rows_show ls f ids))))

module _ (ls : List PlainListed) (f : Facts) (items : List PlainItem) (rows : List Row)
    (scores_blind : AreBlind f.scores) (same : map shut_of items ≡ map shut_of f.items)
    (ids : map id_in ls ≡ ids_of items)
    (within : within_of ls (record f { items = items }) ≡ within_of ls f)
    (alike : AreAlike rows (rows_of ls f)) (show : RowsShow items rows) where
  abbrev g : Facts
  g = record f { items = items }

  abbrev new_marks : List Mark
  new_marks = marks_of (rows_of ls g) (within_of ls g)

  abbrev old_marks : List Mark
  old_marks = marks_of (rows_of ls f) (within_of ls f)

  new_rows : rows ≡ rows_of ls g
  new_rows = rows_same rows (rows_of ls g)
      (alike ∙ sym (rows_bare ls f items scores_blind same))
      (show ∙ sym (rows_show ls g ids))

  same_unread : (old : Bool) → unread_in old rows (stances_of ls f)
      ≡ unread old new_marks (stances_of ls g)
  same_unread old =
      (λ k. unread_in old (new_rows k)
      (sym (same_stances ls f items scores_blind same) k))
      ∙ sym (unread_marks (rows_of ls g) (within_of ls g) old (stances_of ls g))

  abbrev same_seen : entries old_marks (stances_of ls f) ≡ entries new_marks (stances_of ls g)
  same_seen = sym (same_entries ls f items scores_blind same within)

  -- it is as worked out from scratch
  pub remarked_answers : with_unread (record (answers ls f) { rows = rows }) ≡ answers ls g
  remarked_answers = λ k. record (answers ls f) {
    rows = new_rows k;
    stances = sym (same_stances ls f items scores_blind same) k;
    sight = record {
      order = sym (same_order ls f items scores_blind same) k;
      entries = same_seen k;
      new_threads = marked_threads (same_seen k) (same_unread false k);
      old_threads = marked_threads (same_seen k) (same_unread true k);
    };
  }

all_acted_shut : (act : Act) (ids : List Id) (items : List PlainItem)
    → map shut_of (acted_all act ids items) ≡ map shut_of items
all_acted_shut act [] items = refl
all_acted_shut act (id ∷ ids) items =
    all_acted_shut act ids (alter_at id (acted act) items) ∙ acted_shut act id items

all_acted_ids : (act : Act) (ids : List Id) (items : List PlainItem)
    → ids_of (acted_all act ids items) ≡ ids_of items
all_acted_ids act [] items = refl
all_acted_ids act (id ∷ ids) items =
    all_acted_ids act ids (alter_at id (acted act) items) ∙ acted_ids act id items

-- what is done to a message leaves what is seen, where neither limit nor scores look at it
pub seen_acted : (mails : List Mail) (f : Facts) (act : Act) (id : Id)
    → IsBlind (touched act) f.limit → AreBlind f.scores
    → visible_ids (answers_over mails (record f { items = alter_at id (acted act) f.items })).sight
    ≡ visible_ids (answers_over mails f).sight
seen_acted mails f act id blind scores_blind =
    let items = alter_at id (acted act) f.items in
    ap (λ (xs : List Id). visible_ids
    (sight_of (with_letters mails xs) (record f { items = items })))
    (acted_ids act id f.items)
    ∙ seen_still (all_listed mails f.items) f items scores_blind (acted_shut act id f.items)
    (still_within (touched act) (all_listed mails f.items) f items blind scores_blind
    (acted_shut act id f.items) (listed_ids mails f.items) (acted_ids act id f.items)
    (all_acted_leave act (id ∷ []) f.items))

-- where neither the limit nor scores look at what is done, rows are all that acts change, and the
-- threads with unread messages
pub acted_still : (mails : List Mail) (f : Facts) (act : Act) (ids : List Id) (rows : List Row)
    → is_still (touched act) f ≡ true → AreAlike rows (answers_over mails f).rows
    → RowsShow (acted_all act ids f.items) rows
    → with_unread (record (answers_over mails f) { rows = rows })
    ≡ answers_over mails (record f { items = acted_all act ids f.items })
acted_still mails f act ids rows still alike show =
    let items = acted_all act ids f.items in
    let ls = all_listed mails f.items in
    let both = and_parts (entries_stay f.scores) (limit_stays (touched act) f.limit) still in
    let scores_blind = entries_blind f.scores both.0 in
    let shut = all_acted_shut act ids f.items in
    let same = all_acted_ids act ids f.items in
    let listed = listed_ids mails f.items in
    let within = still_within (touched act) ls f items (limit_blind (touched act) f.limit both.1)
    scores_blind shut listed same (all_acted_leave act ids f.items) in
    remarked_answers ls f items rows scores_blind shut (listed ∙ sym same) within alike show
    ∙ ap (λ (xs : List Id). answers (with_letters mails xs) (record f { items = items }))
    (sym (all_acted_ids act ids f.items))

-- The cursor.

-- a cursor that stands stays where what is seen stays
pub stays_put : (ids : List Id) (cursor : Option Id) → Stands ids cursor
    → moved ids ids cursor ≡ cursor
stays_put ids None none = ap (λ (l : List Id). slice_get l 0) none
stays_put ids (Some id) stands = rw stands refl

-- A view.

module _ (mails : List Mail) (v : PlainView) (act : Act) (ids : List Id) (rows : List Row)
    (of : IsOf mails v) (still : is_still (touched act) (facts_of v) ≡ true)
    (alike : AreAlike rows v.answers.rows) (show : RowsShow (acted_all act ids v.items) rows) where
  abbrev pub acted_view : PlainView
  acted_view = record v {
    items = acted_all act ids v.items;
    answers = with_unread (record v.answers { rows = rows });
  }

  acted_answered : acted_view.answers ≡ answers_over mails (facts_of acted_view)
  acted_answered =
      ap (λ (a : PlainAnswers). with_unread (record a { rows = rows })) of.answered
      ∙ acted_still mails (facts_of v) act ids rows still
      (alike ∙ ap (λ (a : PlainAnswers). map bare_row a.rows) of.answered) show

  -- a view whose messages were acted on in place is as one that was worked out from scratch
  pub acted_turned : Turned mails v acted_view
      (record (facts_of v) { items = acted_all act ids v.items })
  acted_turned = record {
    is_of = record {
      heads = of.heads;
      within = subst (AreWithin (length v.heads)) (sym (all_acted_numbers act ids v.items))
          of.within;
      apart = subst (IsDistinct nat_eq) (sym (all_acted_numbers act ids v.items)) of.apart;
      answered = acted_answered;
      stands = of.stands;
    };
    given = refl;
    cursor = sym (stays_put (visible_of v) v.cursor of.stands);
    aliases = refl;
  }
