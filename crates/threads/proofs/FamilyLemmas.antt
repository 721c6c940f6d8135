-- Families of places that are in order, and the walk over them.
use Rattle.std.proofs.Common.{◌≡◌, ◌∙◌, ℕ, ◌<◌, Bool, true, false, List, []}
use Rattle.std.proofs.Common.{◌∷◌, ◌++◌, length, map, reverse, Option, Some, None, Vec}
use Rattle.std.proofs.Common.{refl, sym, ap, subst, ⊎_elim, arith}
use Rattle.std.proofs.Common.{if◌then◌else◌}
use Rattle.std.proofs.lemmas.Bool.{cases_lt}
use Rattle.std.proofs.lemmas.List.{append-nil, get_or-map, get_or_past, length-map, reverse-append}
use Rattle.std.proofs.lemmas.List.{reverse-reverse}
use Rattle.std.proofs.lemmas.List.Elements.{filter-append}
use Rattle.std.proofs.lemmas.List.FromFn.{fill_by_all}
use Rattle.std.proofs.lemmas.List.Sorted.{IsPermutation-map}
use Rattle.std.specs.List.Sorted.{IsPermutation}
use Rattle.std.specs.Cmp.{IsStrictWeakOrder}
use Rattle.std.specs.List.{filter, flat_map, range_with_len}
use Rattle.std.specs.declared.alloc.Global.{Global}
use Rattle.mail_base.specs.declared.kind.Id.{Id}
use Rattle.threads.specs.Families.{AreEntries, AreFamilies, ArePut, CanOrder, CanWalk, below}
use Rattle.threads.specs.Families.{lists, places}
use Rattle.threads.specs.Links.{target}
use Rattle.threads.specs.Message.{PlainMessage, no_message}
use Rattle.threads.specs.Order.{IsStrictOrder, by_id, children, id_at, is_child}
use Rattle.mail_base.specs.Ordered.{in_order_by}
use Rattle.threads.specs.Order.{is_root, roots, thread_order, tree_of}
use Rattle.threads.specs.Walk.{Each}
use Rattle.threads.specs.declared.order.Entry.{Entry}
use Rattle.threads.specs.declared.order.Families.{Families}
use Rattle.threads.specs.declared.step.Step.{Step}
use Rattle.threads.specs.Found.{AreDistinct, LeadsBelow}
use Rattle.threads.specs.Subjects.{parents}
use Rattle.threads.specs.Threads.{root_of}
use Rattle.threads.specs.declared.options.ThreadOptions.{ThreadOptions}
use Rattle.threads.proofs.FoundLemmas.{all_parents_long, parents_below}
use Rattle.threads.proofs.BackLemmas.{all_within, trees_back}
use Rattle.threads.proofs.CloseLemmas.{Each-both}
use Rattle.threads.proofs.OnceLemmas.{all_once}
use Rattle.threads.proofs.SortLemmas.{in_order_filter, places_within}
use Rattle.threads.proofs.TreeLemmas.{can_walk, children_follow, ends_there, filter_within}
use Rattle.threads.proofs.TreeLemmas.{none_below, roots_end}

-- a list the other way round

filter-reverse : (test : ℕ → Bool) (xs : List ℕ)
    → filter test (reverse xs) ≡ reverse (filter test xs)
filter-reverse test [] = refl
filter-reverse test (x ∷ xs) =
    ap (filter test) (reverse-append (x ∷ []) xs)
    ∙ filter-append test (reverse xs) (x ∷ [])
    ∙ ap (λ l. l ++ filter test (x ∷ [])) (filter-reverse test xs)
    ∙ by_test (test x)
  where
    by_test : (b : Bool) → reverse (filter test xs) ++ (if b then x ∷ [] else [])
        ≡ reverse (if b then x ∷ filter test xs else filter test xs)
    by_test true = sym (reverse-append (x ∷ []) (filter test xs))
    by_test false = append-nil (reverse (filter test xs))

places-reverse : (es : List Entry) → places (reverse es) ≡ reverse (places es)
places-reverse [] = refl
places-reverse (e ∷ es) =
    ap places (reverse-append (e ∷ []) es)
    ∙ places-append (reverse es) (e ∷ [])
    ∙ ap (λ l. l ++ e.place ∷ []) (places-reverse es)
    ∙ sym (reverse-append (e.place ∷ []) (places es))
  where
    places-append : (xs ys : List Entry) → places (xs ++ ys) ≡ places xs ++ places ys
    places-append [] ys = refl
    places-append (x ∷ xs) ys = ap (λ l. x.place ∷ l) (places-append xs ys)

-- what passes, where a list was gone over from the last on
turned : (test : ℕ → Bool) (es : List Entry)
    → reverse (filter test (places (reverse es))) ≡ filter test (places es)
turned test es =
    ap (λ l. reverse (filter test l)) (places-reverse es)
    ∙ ap reverse (filter-reverse test (places es))
    ∙ reverse-reverse (filter test (places es))

all_ids : (messages : List PlainMessage)
    → map (λ m. m.id) messages ≡ map (id_at messages) (range_with_len 0 (length messages))
all_ids messages =
    fill_by_all (id_at messages) (map (λ m. m.id) messages) (length messages) no_message.id
    (length-map messages (λ m. m.id))
    (λ k lt. get_or-map (λ (m : PlainMessage). m.id) messages k no_message no_message.id lt)

module _ (messages : List PlainMessage) (above : List (Option Step)) (es : List Entry)
    (families : Families) (fits : CanOrder messages above) (entries : AreEntries messages es)
    (made : AreFamilies above (places (reverse es)) families) where
  kids : ℕ → List ℕ
  kids = below families.children.items

  pub roots_are : reverse families.roots.items ≡ filter (is_root above) (places es)
  roots_are = ap reverse made.roots ∙ turned (is_root above) es

  kids_are : (p : ℕ) → kids p ≡ filter (is_child above p) (places es)
  unfolding kids
  kids_are p = ⊎_elim
      (λ lt. ap reverse (made.children p lt) ∙ turned (is_child above p) es)
      (λ past.
      ap reverse (get_or_past (lists families.children.items) p []
      (omega (
        arith,
        past,
        made.long,
        length-map families.children.items
            (λ (v : Vec ℕ Global). v.items),
      )))
      ∙ sym (none_below above p (places es) fits.leads past))
      (cases_lt p (length above))

  follow : (p : ℕ) → Each (λ c. target above c ≡ Some p) (kids p)
  follow p = subst (Each (λ c. target above c ≡ Some p)) (sym (kids_are p))
      (children_follow above p (places es))

  pub walks : CanWalk (below families.children.items) (length messages)
  unfolding kids
  walks = subst (CanWalk (below families.children.items)) fits.long
      (can_walk above (below families.children.items) fits.forest follow)

  pub roots_within : Each (λ p. p < length messages) (reverse families.roots.items)
  roots_within = subst (Each (λ p. p < length messages)) (sym roots_are)
      (filter_within (is_root above) (length messages) (places es)
      (places_within messages es entries))

  pub kids_long : length families.children.items ≡ length messages
  kids_long = made.long ∙ fits.long

  pub ordered : (before : Id → Id → Bool) → IsStrictOrder before
      → places es ≡ in_order_by (by_id before messages) (range_with_len 0 (length messages))
      → map (id_at messages) (flat_map (tree_of (below families.children.items) (length messages))
      (reverse families.roots.items))
      ≡ map (id_at messages) (thread_order (by_id before messages) above)
  unfolding kids
  ordered before strict sorted =
      let by = by_id before messages in
      let weak : IsStrictWeakOrder by = record {
        one_way = λ a b. strict.order.one_way (id_at messages a) (id_at messages b);
        chain = λ a b c. strict.order.chain (id_at messages a) (id_at messages b)
            (id_at messages c);
      } in
      let passed : (test : ℕ → Bool) → filter test (places es)
      ≡ in_order_by by (filter test (range_with_len 0 (length above))) =
      λ test. ap (filter test) (sorted
      ∙ ap (λ n. in_order_by by (range_with_len 0 n)) (sym fits.long))
      ∙ in_order_filter by weak test (range_with_len 0 (length above)) in
      let all_kids : below families.children.items ≡ children by above =
      λ i p. (kids_are p ∙ passed (is_child above p)) i in
      ap (λ r. map (id_at messages)
      (flat_map (tree_of (below families.children.items) (length messages)) r))
      (roots_are ∙ passed (is_root above))
      ∙ ap (λ k. map (id_at messages) (flat_map (tree_of k (length messages)) (roots by above)))
      all_kids
      ∙ ap (λ n. map (id_at messages) (flat_map (tree_of (children by above) n)
      (roots by above))) (sym fits.long)

  pub once : IsPermutation (range_with_len 0 (length messages)) (places es)
      → IsPermutation (map (λ m. m.id) messages)
      (map (id_at messages) (flat_map (tree_of (below families.children.items) (length messages))
      (reverse families.roots.items)))
  unfolding kids
  once moved =
      let kids = below families.children.items in
      let within : Each (λ p. p < length above) (places es) =
      subst (λ n. Each (λ p. p < n) (places es)) (sym fits.long)
      (places_within messages es entries) in
      let leads : (p : ℕ) → Each (λ c. (c < length above) × (target above c ≡ Some p)) (kids p) =
      λ p. Each-both (λ c. c < length above) (λ c. target above c ≡ Some p) (kids p)
      (subst (Each (λ c. c < length above)) (sym (kids_are p))
      (filter_within (is_child above p) (length above) (places es) within)) (follow p) in
      let all : IsPermutation (range_with_len 0 (length above))
      (flat_map (tree_of kids (length above)) (filter (is_root above) (places es))) =
      all_once above kids leads fits.forest fits.leads (places es)
      (subst (λ n. IsPermutation (range_with_len 0 n) (places es)) (sym fits.long) moved)
      within kids_are in
      let here : IsPermutation (range_with_len 0 (length messages))
      (flat_map (tree_of kids (length messages)) (reverse families.roots.items)) =
      subst (λ n. IsPermutation (range_with_len 0 n)
      (flat_map (tree_of kids n) (reverse families.roots.items))) fits.long
      (subst (λ r. IsPermutation (range_with_len 0 (length above))
      (flat_map (tree_of kids (length above)) r)) (sym roots_are) all) in
      subst (λ l. IsPermutation l (map (id_at messages)
      (flat_map (tree_of kids (length messages)) (reverse families.roots.items))))
      (sym (all_ids messages))
      (IsPermutation-map (id_at messages) (range_with_len 0 (length messages))
      (flat_map (tree_of kids (length messages)) (reverse families.roots.items)) here)

  pub put : ArePut messages above
      (map (id_at messages) (flat_map (tree_of (below families.children.items) (length messages))
      (reverse families.roots.items)))
  unfolding kids
  put =
      let kids = below families.children.items in
      let roots = reverse families.roots.items in
      record {
        places = flat_map (tree_of kids (length messages)) roots;
        the_ids = refl;
        within = all_within kids (length messages) walks (length messages) roots roots_within;
        back = trees_back (target above) kids follow (length messages) roots
            (subst (Each (λ r. target above r ≡ None)) (sym roots_are)
            (roots_end above (places es)));
      }

-- what was worked out can be put in order
pub can_order : (options : ThreadOptions) (messages : List PlainMessage) → AreDistinct messages
    → (ps : List (Option Step)) → ps ≡ parents options messages
    → ((p : ℕ) → p < length (parents options messages)
    → target (parents options messages) (root_of (parents options messages) p) ≡ None)
    → CanOrder messages ps
can_order options messages distinct ps is ends =
    let all = parents options messages in
    subst (CanOrder messages) (sym is) (record {
      distinct = distinct;
      long = all_parents_long options messages;
      leads = subst (λ n. LeadsBelow n all) (sym (all_parents_long options messages))
          (parents_below options messages);
      forest = λ p lt. ends_there all (length all) p (ends p lt);
    })
