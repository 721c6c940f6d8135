-- Where acts hide at most the messages that they change, the cursor goes behind those that are left
-- of what was seen before it.
use Rattle.std.proofs.Common.{◌≡◌, ◌∙◌, ◌++◌, ◌∷◌, [], ℕ, Bool, true, false, List, Option, None}
use Rattle.std.proofs.Common.{Some, ap, arith, length, nat_eq, refl, slice_get, subst, sym, take}
use Rattle.std.proofs.Common.{◌&&◌, ◌-◌, drop}
use Rattle.std.proofs.Math.Nat.{min-eq_left}
use Rattle.std.proofs.lemmas.Bool.{and_parts, false≢true}
use Rattle.std.proofs.lemmas.List.{length-take, take-append-drop}
use Rattle.std.specs.Prelude.{if◌then◌else◌, is_some, unwrap_or}
use Rattle.std.specs.List.{IsDistinct, count_by}
use Rattle.folder_letters.specs.Letters.{Mail}
use Rattle.mail_base.specs.declared.kind.Id.{Id}
use Rattle.index_items.specs.Acts.{acted_all as all_acted_items}
use Rattle.index_items.specs.declared.act.Act.{Act}
use Rattle.index_listed.specs.Cursor.{Stands, at_or_last, is_seen, moved}
use Rattle.index_listed.specs.Page.{cursor_place}
use Rattle.index_listed.specs.Places.{numbers, place_in}
use Rattle.index_listed.proofs.DistinctLemmas.{distinct_filtered}
use Rattle.index_listed.proofs.CursorLemmas.{stands_last, stands_nowhere}
use Rattle.index_view.specs.Answers.{PlainAnswers}
use Rattle.index_view.specs.Listing.{all_listed}
use Rattle.index_view.specs.View.{IsOf, PlainView, Turned, answers_over, facts_of, moved_to}
use Rattle.index_view.specs.View.{visible_of}
use Rattle.index_view.proofs.OneLemmas.{IsOwn, one_hides, open_acted, seen_any, seen_distinct}
use Rattle.index_view.proofs.OneLemmas.{stays_by}
use Rattle.index_view.proofs.StillLemmas.{AreBlind}
use Rattle.session_index.specs.Acts.{acted, acted_all}
use Rattle.session_index.specs.Hiding.{are_open, before_cursor, hide_alone, is_part}
use Rattle.session_index.specs.Hiding.{limit_is_alone, looks_alone}
use Rattle.session_index.specs.Index.{PlainIndex, Shows, answers_of, index_of, seen_of}
use Rattle.session_index.specs.Shown.{seen}
use Rattle.index_view.specs.Staying.{entries_stay}
use Rattle.session_index.proofs.AloneLemmas.{limit_own}
use Rattle.index_view.proofs.StayingLemmas.{entries_blind}
use Rattle.session_index.proofs.PartLemmas.{all_seen, count_left, left, moved_left, none_left}
use Rattle.session_index.proofs.PartLemmas.{not_left, get_placed, part_has, part_left, placed_low}
use Rattle.session_index.proofs.PartLemmas.{split_left}

-- acts on these messages hide at most each of them
pub record Alone (mails : List Mail) (ids : List Id) (i : PlainIndex) : Type 0 where
  own : IsOwn i.facts.limit
  blind : AreBlind i.facts.scores
  opens : are_open (answers_of mails i) ≡ true
  apart : IsDistinct nat_eq (numbers (seen_of mails i))
  part : is_part ids (seen_of mails i) ≡ true

-- what is seen behind acts, and where the cursor is then
record Ended (front back all : List Id) (cursor : Option Id) : Type 0 where
  gone : (x : Id) → is_seen (front ++ back) x ≡ false → is_seen all x ≡ false
  lands : cursor ≡ at_or_last all (count_by (is_seen all) front)

module _ (mails : List Mail) (act : Act) where
  abbrev after : List Id → PlainIndex → PlainIndex
  after ids i = acted_all mails act ids i

  -- one of these acts
  record Step (id : Id) (ids : List Id) (i : PlainIndex) (front back : List Id) : Type 0 where
    mark : Bool
    seen_is : seen_of mails (acted mails act id i) ≡ left mark id (front ++ back)
    cursor : (acted mails act id i).cursor
        ≡ at_or_last (left mark id (front ++ back)) (length (left mark id front))
    alone : Alone mails ids (acted mails act id i)

  step : (id : Id) (ids : List Id) (i : PlainIndex) (front back : List Id)
      → Alone mails (id ∷ ids) i → seen_of mails i ≡ front ++ back
      → i.cursor ≡ at_or_last (front ++ back) (length front) → Step id ids i front back
  step id ids i front back alone is at =
      let all = front ++ back in
      let hides = one_hides mails i.facts act id alone.blind alone.own alone.opens
      (part_has id ids (seen_of mails i) alone.part) in
      let mark = hides.0 in
      let now : seen_of mails (acted mails act id i) ≡ left mark id all =
      hides.1 ∙ ap (left mark id) is in
      let apart : IsDistinct nat_eq (numbers all) =
      subst (λ (l : List Id). IsDistinct nat_eq (numbers l)) is alone.apart in
      record {
        mark = mark;
        seen_is = now;
        cursor = (λ k. moved (is k) (now k) (at k)) ∙ moved_left mark id front back apart;
        alone = record {
          own = alone.own;
          blind = alone.blind;
          opens = open_acted mails i.facts act id alone.blind alone.opens;
          apart = subst (λ (l : List Id). IsDistinct nat_eq (numbers l)) (sym now)
              (distinct_filtered (λ (x : Id). x.0) (stays_by mark id) all apart);
          part = subst (λ (l : List Id). is_part ids l ≡ true) (sym hides.1)
              (part_left mark id ids (seen_of mails i) alone.apart alone.part);
        };
      }

  -- what is left before the cursor, of what was seen before it
  ended : (ids : List Id) (i : PlainIndex) (front back : List Id) → Alone mails ids i
      → seen_of mails i ≡ front ++ back → i.cursor ≡ at_or_last (front ++ back) (length front)
      → Ended front back (seen_of mails (after ids i)) (after ids i).cursor
  ended [] i front back alone is at = record {
    gone = λ x none. ap (λ (l : List Id). is_seen l x) is ∙ none;
    lands = at ∙ (λ k. at_or_last (sym is k) (same k));
  }
    where
      same : length front ≡ count_by (is_seen (seen_of mails i)) front
      same = sym (all_seen front back) ∙ ap (λ (l : List Id). count_by (is_seen l) front) (sym is)
  ended (id ∷ ids) i front back alone is at =
      let next = step id ids i front back alone is at in
      let mark = next.mark in
      let split = split_left mark id front back in
      let more = ended ids (acted mails act id i) (left mark id front) (left mark id back)
      next.alone (next.seen_is ∙ split)
      (next.cursor ∙ ap (λ (l : List Id). at_or_last l (length (left mark id front))) split) in
      let all = seen_of mails (after (id ∷ ids) i) in
      let gone_now : (x : Id) → is_seen (left mark id (front ++ back)) x ≡ false
      → is_seen all x ≡ false =
      λ x none. more.gone x (ap (λ (l : List Id). is_seen l x) (sym split) ∙ none) in
      record {
        gone = λ x none. gone_now x (seen_any (left mark id (front ++ back)) x
            ∙ not_left mark id x (front ++ back) (sym (seen_any (front ++ back) x) ∙ none));
        lands = more.lands ∙ ap (at_or_last all) (sym (count_left mark id (is_seen all)
            (λ x goes. gone_now x (seen_any (left mark id (front ++ back)) x
            ∙ none_left mark id x goes (front ++ back))) front));
      }

  -- the facts are those of all acts at once
  pub facts_after : (ids : List Id) (i : PlainIndex) → (after ids i).facts
      ≡ record i.facts { items = all_acted_items act ids i.facts.items }
  facts_after [] i = refl
  facts_after (id ∷ ids) i = facts_after ids (acted mails act id i)

  pub aliases_after : (ids : List Id) (i : PlainIndex) → (after ids i).aliases ≡ i.aliases
  aliases_after [] i = refl
  aliases_after (id ∷ ids) i = aliases_after ids (acted mails act id i)

  -- a cursor that stands is the message behind those that are seen before it
  at_place : (ids : List Id) (cursor : Option Id) → Stands ids cursor
      → cursor ≡ at_or_last ids (length (before_cursor ids cursor))
  at_place ids None none =
      ap (λ (l : List Id). at_or_last l (length (before_cursor l None))) (sym none)
  at_place ids (Some id) stands = by_place (place_in ids id) refl stands
    where
      by_place : (o : Option ℕ) → place_in ids id ≡ o → is_some o ≡ true
          → Some id ≡ at_or_last ids (length (before_cursor ids (Some id)))
      by_place None is h = absurd (false≢true h)
      by_place (Some p) is h =
          let low = placed_low ids id p is in
          let long : length (before_cursor ids (Some id)) ≡ p =
          ap (λ (o : Option ℕ). length (take (unwrap_or o 0) ids)) is
          ∙ length-take p ids ∙ min-eq_left {n = p} {m = length ids} (omega (arith, low)) in
          sym (ap (at_or_last ids) long
          ∙ ap (slice_get ids) (min-eq_left {n = p} {m = length ids - 1} (omega (arith, low)))
          ∙ get_placed ids id p is)

  pub cursor_after : (ids : List Id) (i : PlainIndex) → Alone mails ids i
      → Stands (seen_of mails i) i.cursor
      → (after ids i).cursor ≡ at_or_last (seen_of mails (after ids i))
      (count_by (is_seen (seen_of mails (after ids i))) (before_cursor (seen_of mails i) i.cursor))
  cursor_after ids i alone stands =
      let all = seen_of mails i in
      let p = cursor_place all i.cursor in
      let whole : all ≡ take p all ++ drop p all = sym (take-append-drop p all) in
      (ended ids i (take p all) (drop p all) alone whole
      (at_place all i.cursor stands
      ∙ ap (λ (l : List Id). at_or_last l (length (take p all))) whole)).lands

-- Acts on messages, each of which they hide at most, put into a view at once; the cursor goes then
-- behind those that are left before it.
module _ (mails : List Mail) (act : Act) (ids : List Id) (v w : PlainView) (is : IsOf mails v)
    (alone : hide_alone (facts_of v) v.answers ids ≡ true)
    (apart : IsDistinct nat_eq (numbers v.answers.sight.order))
    (turned : Turned mails v w
    (record (facts_of v) { items = all_acted_items act ids v.items })) where
  abbrev i : PlainIndex
  i = index_of v

  abbrev j : PlainIndex
  j = acted_all mails act ids i

  all_alone : Alone mails ids i
  all_alone =
      let f = facts_of v in
      let a = answers_over mails f in
      let here : hide_alone f a ids ≡ true =
      ap (λ (b : PlainAnswers). hide_alone f b ids) (sym is.answered) ∙ alone in
      let halves = and_parts (looks_alone f) (are_open a && is_part ids (seen a)) here in
      let looks = and_parts (entries_stay f.scores) (limit_is_alone f.limit) halves.0 in
      let rest = and_parts (are_open a) (is_part ids (seen a)) halves.1 in
      record {
        own = limit_own f.limit looks.1;
        blind = entries_blind f.scores looks.0;
        opens = rest.0;
        apart = seen_distinct (all_listed mails f.items) f
            (subst (λ (b : PlainAnswers). IsDistinct nat_eq (numbers b.sight.order)) is.answered
            apart);
        part = rest.1;
      }

  same_facts : facts_of w ≡ j.facts
  same_facts = turned.given ∙ sym (facts_after mails act ids i)

  same_seen : visible_of w ≡ seen_of mails j
  same_seen = ap seen (turned.is_of.answered ∙ ap (answers_over mails) same_facts)

  abbrev left_before : ℕ
  left_before = count_by (is_seen (visible_of w)) (before_cursor (visible_of v) v.cursor)

  same_cursor : at_or_last (visible_of w) left_before ≡ j.cursor
  same_cursor = (λ k. at_or_last (same_seen k) (count_by (is_seen (same_seen k))
      (before_cursor (seen (is.answered k)) v.cursor)))
      ∙ sym (cursor_after mails act ids i all_alone
      (subst (λ (a : PlainAnswers). Stands (seen a) v.cursor) is.answered is.stands))

  -- a view that is like this one but for its cursor
  moved_shows : (u : PlainView) → IsOf mails u → facts_of u ≡ facts_of w
      → u.aliases ≡ w.aliases → u.cursor ≡ at_or_last (visible_of w) left_before → Shows mails j u
  moved_shows u of facts aliases cursor = record {
    is_of = of;
    same = λ k. record {
      facts = (facts ∙ same_facts) k;
      cursor = (cursor ∙ same_cursor) k;
      aliases = (aliases ∙ turned.aliases ∙ sym (aliases_after mails act ids i)) k;
    };
  }

  pub shows_at : (id : Id) → at_or_last (visible_of w) left_before ≡ Some id
      → IsOf mails (moved_to w id) → Shows mails j (moved_to w id)
  shows_at id at of =
      let seen_here : is_seen (visible_of w) id ≡ true =
      subst (Stands (visible_of w)) at (stands_last (visible_of w) left_before) in
      let is_moved : moved_to w id ≡ record w { cursor = Some id } =
      ap (λ (b : Bool). if b then record w { cursor = Some id } else w) seen_here in
      moved_shows (moved_to w id) of (ap facts_of is_moved)
      (ap (λ (u : PlainView). u.aliases) is_moved)
      (ap (λ (u : PlainView). u.cursor) is_moved ∙ sym at)

  pub shows_nowhere : at_or_last (visible_of w) left_before ≡ None → Shows mails j w
  shows_nowhere none =
      let empty : visible_of w ≡ [] =
      subst (Stands (visible_of w)) none (stands_last (visible_of w) left_before) in
      moved_shows w turned.is_of refl refl
      ((stands_nowhere (visible_of w) w.cursor turned.is_of.stands).1 empty ∙ sym none)
