-- What a change of the names or of the files leaves of a row.
use Rattle.std.proofs.Common.{List, None, Option, Some, ap, inl, inr, refl, subst, sym, true, ℕ}
use Rattle.std.proofs.Common.{⊎_elim, ◌∙◌, ◌∷◌, ◌≡◌, ◌≢◌}
use Rattle.disk_model.specs.State.{File, Name, durable, file_at, without}
use Rattle.folder_stops.specs.Messages.{IsLooser, Must, StoredMessage, loosen, loosened, taken}
use Rattle.folder_stops.specs.Messages.{with_message}
use Rattle.folder_stops.specs.Rows.{IsBlank, IsDurable, IsKnown, IsOfKey, IsPresent, IsUnused, Row}
use Rattle.folder_stops.specs.Shape.{Shape}
use Rattle.folder_stops.specs.Words.{Among}
use Rattle.folder_stops.proofs.Messages.{among_loosened, among_taken, among_with, loosened_among}
use Rattle.folder_stops.proofs.Messages.{looser_back, looser_there, taken_among, tight, with_new}
use Rattle.folder_stops.proofs.Messages.{with_old}
use Rattle.folder_stops.proofs.Words.{among_without, cases_path, same, without_among}

-- a file's name
abbrev pub named : List ℕ → ℕ → Name
named path n = record { path = path; file = Some n }

-- nothing stands at the path
abbrev pub IsAbsent : List ℕ → List Name → Type 0
IsAbsent path names = (y : Name) → Among y names → y.path ≢ path

module _ (shape : Shape) where
  -- nothing else stands at the path of a file under a key
  abbrev pub AreAlone : List Name → Type 0
  AreAlone names = (x y : Name) (key : List ℕ) (n : ℕ) → Among x names → Among y names
      → IsOfKey shape x key n → y.path ≡ x.path → y ≡ x

  pub alone_with : (names : List Name) (path : List ℕ) (file : Option ℕ) → IsAbsent path names
      → AreAlone names → AreAlone (record { path = path; file = file } ∷ names)
  alone_with names path file free alone x y key n (inl is) (inl is') at_x e = is' ∙ sym is
  alone_with names path file free alone x y key n (inl is) (inr later) at_x e =
      absurd (free y later (e ∙ ap (λ (z : Name). z.path) is))
  alone_with names path file free alone x y key n (inr later) (inl is) at_x e =
      absurd (free x later (sym e ∙ ap (λ (z : Name). z.path) is))
  alone_with names path file free alone x y key n (inr later) (inr later') at_x e =
      alone x y key n later later' at_x e

  same_key : (x : Name) (p key key' : List ℕ) (n k : ℕ) → x ≡ named p n → shape.slot p ≡ Some key
      → IsOfKey shape x key' k → (key ≡ key') × (n ≡ k)
  same_key x p key key' n k is slot of_key =
      let path : shape.slot x.path ≡ shape.slot p = ap (λ (y : Name). shape.slot y.path) is in
      let file : x.file ≡ Some n = ap (λ (y : Name). y.file) is in
      let a : shape.slot x.path ≡ Some key' = of_key.0 in
      let b : x.file ≡ Some k = of_key.1 in
      (cc, cc)

  known_at : (all : List StoredMessage) (files : List File) (key key' : List ℕ) (n k : ℕ)
      → (key ≡ key') × (n ≡ k) → IsKnown shape all files key n → IsKnown shape all files key' k
  known_at all files key key' n k e known =
      subst (λ (j : ℕ). IsKnown shape all files key' j) e.1
      (subst (λ (l : List ℕ). IsKnown shape all files l n) e.0 known)

  -- a name goes away, of no message that must stay
  pub dropped_row : (all : List StoredMessage) (files : List File) (names : List Name)
      (path : List ℕ) → ((m : StoredMessage) → Among m all → Must m → shape.slot path ≡ Some m.key
      → ⊥)
      → Row shape all files names → Row shape all files (without path names)
  dropped_row all files names path free row = record {
    known = λ x key n in_it. row.known x key n (among_without x path names in_it).0;
    once = λ x y key n k in_x in_y.
        row.once x y key n k (among_without x path names in_x).0
        (among_without y path names in_y).0;
    alone = λ x y key n in_x in_y.
        row.alone x y key n (among_without x path names in_x).0 (among_without y path names in_y).0;
    present = λ m in_all must. let at = row.present m in_all must in (
      at.0,
      at.1,
      without_among at.0 path names at.2 (λ e.
          free m in_all must (ap shape.slot (sym e) ∙ at.3.0)),
      at.3,
      at.4,
      at.5,
    );
  }

  -- a name of no message comes
  pub plain_row : (all : List StoredMessage) (files : List File) (names : List Name) (path : List ℕ)
      (file : Option ℕ) → shape.slot path ≡ None
      → Row shape all files names
      → Row shape all files (record { path = path; file = file } ∷ names)
  plain_row all files names path file none row =
      record {
        known = λ x key n in_it of_key. row.known x key n (old x key in_it of_key.0) of_key;
        once = λ x y key n k in_x in_y at_x at_y.
            row.once x y key n k (old x key in_x at_x.0) (old y key in_y at_y.0) at_x at_y;
        alone = λ x y key n in_x in_y at_x e.
            row.alone x y key n (old x key in_x at_x.0) (old y key in_y (ap shape.slot e ∙ at_x.0))
            at_x e;
        present = λ m in_all must. let at = row.present m in_all must in
            (at.0, at.1, inr at.2, at.3, at.4, at.5);
      }
    where
      old : (x : Name) (key : List ℕ) → Among x (record { path = path; file = file } ∷ names)
          → shape.slot x.path ≡ Some key → Among x names
      old x key (inl is) some =
          let at : shape.slot x.path ≡ shape.slot path = ap (λ (y : Name). shape.slot y.path) is in
          absurd (cc)
      old x key (inr later) some = later

  -- files change that are no message's
  pub files_row : (all : List StoredMessage) (files files' : List File) (names : List Name)
      → ((x : Name) (key : List ℕ) (n : ℕ) → Among x names → IsOfKey shape x key n → file_at files'
      n ≡ file_at files n)
      → Row shape all files names → Row shape all files' names
  files_row all files files' names same row = record {
    known = λ x key n in_it of_key. ⊎_elim {C = IsKnown shape all files' key n}
        (λ (blank : IsBlank shape files n). inl
        (blank.0, subst (IsDurable blank.0) (sym (same x key n in_it of_key)) blank.1, blank.2))
        (λ (at : (m : StoredMessage) × Among m all × (m.key ≡ key) × IsDurable m.core
        (file_at files n)). inr (
          at.0,
          at.1,
          at.2,
          subst (IsDurable at.0.core) (sym (same x key n in_it of_key)) at.3,
        ))
        (row.known x key n in_it of_key);
    once = row.once;
    alone = row.alone;
    present = λ m in_all must. let at = row.present m in_all must in (
      at.0,
      at.1,
      at.2,
      at.3,
      subst (IsDurable m.core) (sym (same at.0 m.key at.1 at.2 at.3))
          at.4,
      at.5,
    );
  }

  pub known_more : (all more : List StoredMessage) (files : List File) (key : List ℕ) (n : ℕ)
      → ((m : StoredMessage) → Among m all → Among m more) → IsKnown shape all files key n
      → IsKnown shape more files key n
  known_more all more files key n up (inl blank) = inl blank
  known_more all more files key n up (inr at) = inr (at.0, up at.0 at.1, at.2, at.3)

  known_loosened : (keys : List (List ℕ)) (all : List StoredMessage) (files : List File)
      (key : List ℕ) (n : ℕ) → IsKnown shape all files key n
      → IsKnown shape (loosened keys all) files key n
  known_loosened keys all files key n (inl blank) = inl blank
  known_loosened keys all files key n (inr at) =
      inr (loosen keys at.0, loosened_among keys at.0 all at.1, at.2, at.3)

  pub known_tight : (keys : List (List ℕ)) (all : List StoredMessage) (files : List File)
      (key : List ℕ) (n : ℕ) → IsKnown shape (loosened keys all) files key n
      → IsKnown shape all files key n
  known_tight keys all files key n (inl blank) = inl blank
  known_tight keys all files key n (inr was) = let strict = among_loosened keys was.0 all was.1 in
      inr (
        strict.0,
        strict.1,
        sym (ap (λ (y : StoredMessage). y.key) strict.2) ∙ was.2,
        subst (λ (l : List ℕ). IsDurable l (file_at files n))
            (ap (λ (y : StoredMessage). y.core) strict.2) was.3,
      )

  -- more messages that may go
  pub more_row : (all more : List StoredMessage) (files : List File) (names : List Name)
      → ((m : StoredMessage) → Among m all → Among m more)
      → ((m : StoredMessage) → Among m more → Must m → Among m all)
      → Row shape all files names → Row shape more files names
  more_row all more files names up down row = record {
    known = λ x key n in_it of_key.
        known_more all more files key n up (row.known x key n in_it of_key);
    once = row.once;
    alone = row.alone;
    present = λ m in_more must. row.present m (down m in_more must) must;
  }

  pub loosened_row : (keys : List (List ℕ)) (all : List StoredMessage) (files : List File)
      (names : List Name) → Row shape all files names → Row shape (loosened keys all) files names
  loosened_row keys all files names row = record {
    known = λ x key n in_it of_key.
        known_loosened keys all files key n (row.known x key n in_it of_key);
    once = row.once;
    alone = row.alone;
    present = λ m in_it must. let was = among_loosened keys m all in_it in
        let must_was : Must (loosen keys was.0) = sym (ap (λ (y : StoredMessage). y.may_go) was.2)
        ∙ must in
        subst (IsPresent shape files names) (sym was.2)
        (row.present was.0 was.1 (tight keys was.0 must_was));
  }

  -- a file gets another name and keeps its key
  pub moved_row : (all : List StoredMessage) (files : List File) (names : List Name)
      (from to key : List ℕ) (n : ℕ) → Among (named from n) names → shape.slot from ≡ Some key
      → shape.slot to ≡ Some key
      → Row shape all files names
      → Row shape all files (named to n ∷ without to (without from names))
  moved_row all files names from to key n there at_from at_to row =
      record {
        known = λ x k j in_it of_key. ⊎_elim
            (λ (is : x ≡ named to n). known_at all files key k n j
            (same_key x to key k n j is at_to of_key)
            (row.known (named from n) key n there (at_from, refl)))
            (λ (later : Among x (without to (without from names))). row.known x k j (old x later).0
            of_key)
            in_it;
        once = λ x y k i j in_x in_y at_x at_y. ⊎_elim
            (λ (is : x ≡ named to n). ⊎_elim
            (λ (is' : y ≡ named to n). is ∙ sym is')
            (λ (later : Among y (without to (without from names))). absurd
            (not_both x y k i j is later at_x at_y))
            in_y)
            (λ (later : Among x (without to (without from names))). ⊎_elim
            (λ (is' : y ≡ named to n). absurd (not_both y x k j i is' later at_y at_x))
            (λ (later' : Among y (without to (without from names))). row.once x y k i j
            (old x later).0 (old y later').0 at_x at_y)
            in_y)
            in_x;
        alone = alone_with (without to (without from names)) to (Some n) (λ y later.
            (among_without y to (without from names) later).1) (λ x y k j in_x in_y.
            row.alone x y k j (old x in_x).0 (old y in_y).0);
        present = λ m in_all must. let at = row.present m in_all must in
            ⊎_elim {C = IsPresent shape files (named to n ∷ without to (without from names)) m}
            (λ (e : at.0.path ≡ from).
            let eq = same_key (named from n) from key key n n refl at_from (at_from, refl) in
            let k : key ≡ m.key =
            (let a : shape.slot at.0.path ≡ shape.slot from = ap shape.slot e in
            let b : shape.slot at.0.path ≡ Some m.key = at.3.0 in cc) in
            let same_name : at.0 ≡ named from n =
            row.once at.0 (named from n) key at.1 n at.2 there
            (subst (λ (l : List ℕ). IsOfKey shape at.0 l at.1) (sym k) at.3)
            (at_from, refl) in
            let j : n ≡ at.1 = (let a : at.0.file ≡ Some n = ap (λ (y : Name). y.file) same_name in
            let b : at.0.file ≡ Some at.1 = at.3.1 in cc) in (
              named to n,
              n,
              inl refl,
              (at_to ∙ ap Some k, refl),
              subst (λ (i : ℕ). IsDurable m.core (file_at files i)) (sym j) at.4,
              at.5,
            ))
            (λ (ne : at.0.path ≢ from). (
              at.0,
              at.1,
              inr (without_among at.0 to (without from names)
                  (without_among at.0 from names at.2 ne)
                  (λ e. ne (ap (λ (y : Name). y.path)
                  (row.once at.0 (named from n) m.key at.1 n at.2 there at.3
                  (at_from ∙ sym at_to ∙ ap shape.slot (sym e) ∙ at.3.0, refl))))),
              at.3,
              at.4,
              at.5,
            ))
            (cases_path at.0.path from);
      }
    where
      old : (x : Name) → Among x (without to (without from names)) → Among x names × (x.path ≢ from)
      old x later = among_without x from names (among_without x to (without from names) later).0

      not_both : (x y : Name) (k : List ℕ) (i j : ℕ) → x ≡ named to n
          → Among y (without to (without from names)) → IsOfKey shape x k i → IsOfKey shape y k j
          → ⊥
      not_both x y k i j is later at_x at_y =
          let eq = same_key x to key k n i is at_to at_x in
          (old y later).1 (ap (λ (z : Name). z.path)
          (row.once y (named from n) k j n (old y later).0 there at_y (
            at_from ∙ ap Some eq.0,
            refl,
          )))

  -- a message comes under a key that no file has
  pub came_row : (all : List StoredMessage) (files : List File) (names : List Name)
      (m : StoredMessage) (path : List ℕ) (n : ℕ) → shape.slot path ≡ Some m.key
      → IsUnused shape m.key names → IsAbsent path names → IsDurable m.core (file_at files n)
      → shape.counts m.core ≡ true
      → Row shape all files names
      → Row shape (with_message shape.before m all) files (named path n ∷ names)
  came_row all files names m path n at unused free durable counts row =
      record {
        known = λ x k j in_it of_key.
            ⊎_elim {C = IsKnown shape (with_message shape.before m all) files k j}
            (λ (is : x ≡ named path n). known_at (with_message shape.before m all) files m.key k n j
            (same_key x path m.key k n j is at of_key)
            (inr (m, with_new shape.before m all, refl, durable)))
            (λ (later : Among x names). known_more all (with_message shape.before m all) files k j
            (λ p in_all. with_old shape.before p m all in_all) (row.known x k j later of_key))
            in_it;
        once = λ x y k i j in_x in_y at_x at_y. ⊎_elim
            (λ (is : x ≡ named path n). ⊎_elim
            (λ (is' : y ≡ named path n). is ∙ sym is')
            (λ (later : Among y names). absurd (not_both x y k i j is later at_x at_y))
            in_y)
            (λ (later : Among x names). ⊎_elim
            (λ (is' : y ≡ named path n). absurd (not_both y x k j i is' later at_y at_x))
            (λ (later' : Among y names). row.once x y k i j later later' at_x at_y)
            in_y)
            in_x;
        alone = alone_with names path (Some n) free row.alone;
        present = λ p in_all must. ⊎_elim {C = IsPresent shape files (named path n ∷ names) p}
            (λ (is : p ≡ m). subst (IsPresent shape files (named path n ∷ names)) (sym is)
            (named path n, n, inl refl, (at, refl), durable, counts))
            (λ (old : Among p all). let was = row.present p old must in
            (was.0, was.1, inr was.2, was.3, was.4, was.5))
            (among_with shape.before p m all in_all);
      }
    where
      not_both : (x y : Name) (k : List ℕ) (i j : ℕ) → x ≡ named path n → Among y names
          → IsOfKey shape x k i → IsOfKey shape y k j → ⊥
      not_both x y k i j is later at_x at_y =
          let eq = same_key x path m.key k n i is at at_x in
          unused y j later (at_y.0 ∙ ap Some (sym eq.0), at_y.1)

  -- a message's file goes away with the message
  pub gone_row : (all : List StoredMessage) (files : List File) (names : List Name)
      (path key : List ℕ) (n : ℕ) → Among (named path n) names → shape.slot path ≡ Some key
      → Row shape all files names → Row shape (taken key all) files (without path names)
  gone_row all files names path key n there at row = record {
    known = λ x k j in_it of_key. ⊎_elim {C = IsKnown shape (taken key all) files k j}
        (λ (blank : IsBlank shape files j). inl blank)
        (λ (was : (m : StoredMessage) × Among m all × (m.key ≡ k) × IsDurable m.core
        (file_at files j)). inr (
          was.0,
          taken_among was.0 key all was.1 (λ e. (among_without x path names in_it).1
              (ap (λ (y : Name). y.path)
              (row.once x (named path n) k j n (among_without x path names in_it).0 there of_key
              (at ∙ ap Some (sym e ∙ was.2), refl)))),
          was.2,
          was.3,
        ))
        (row.known x k j (among_without x path names in_it).0 of_key);
    once = λ x y k i j in_x in_y.
        row.once x y k i j (among_without x path names in_x).0 (among_without y path names in_y).0;
    alone = λ x y k i in_x in_y.
        row.alone x y k i (among_without x path names in_x).0 (among_without y path names in_y).0;
    present = λ m in_all must. let old = among_taken m key all in_all in let was =
        row.present m old.0 must in (
          was.0,
          was.1,
          without_among was.0 path names was.2 (λ e.
              old.1 (let a : shape.slot was.0.path ≡ shape.slot path = ap shape.slot e in
              let b : shape.slot was.0.path ≡ Some m.key = was.3.0 in
              let c : shape.slot path ≡ Some key = at in cc)),
          was.3,
          was.4,
          was.5,
        );
  }

  -- a file comes that is no message, under a key that no file has
  pub blank_row : (all : List StoredMessage) (files : List File) (names : List Name)
      (path key : List ℕ) (n : ℕ) → shape.slot path ≡ Some key → IsUnused shape key names
      → IsAbsent path names → IsBlank shape files n
      → Row shape all files names → Row shape all files (named path n ∷ names)
  blank_row all files names path key n at unused free blank row =
      record {
        known = λ x k j in_it of_key. ⊎_elim {C = IsKnown shape all files k j}
            (λ (is : x ≡ named path n). known_at all files key k n j
            (same_key x path key k n j is at of_key) (inl blank))
            (λ (later : Among x names). row.known x k j later of_key)
            in_it;
        once = λ x y k i j in_x in_y at_x at_y. ⊎_elim
            (λ (is : x ≡ named path n). ⊎_elim
            (λ (is' : y ≡ named path n). is ∙ sym is')
            (λ (later : Among y names). absurd (not_both x y k i j is later at_x at_y))
            in_y)
            (λ (later : Among x names). ⊎_elim
            (λ (is' : y ≡ named path n). absurd (not_both y x k j i is' later at_y at_x))
            (λ (later' : Among y names). row.once x y k i j later later' at_x at_y)
            in_y)
            in_x;
        alone = alone_with names path (Some n) free row.alone;
        present = λ p in_all must. let was = row.present p in_all must in
            (was.0, was.1, inr was.2, was.3, was.4, was.5);
      }
    where
      not_both : (x y : Name) (k : List ℕ) (i j : ℕ) → x ≡ named path n → Among y names
          → IsOfKey shape x k i → IsOfKey shape y k j → ⊥
      not_both x y k i j is later at_x at_y =
          let eq = same_key x path key k n i is at at_x in
          unused y j later (at_y.0 ∙ ap Some (sym eq.0), at_y.1)

  -- no fewer may go
  pub row_looser : (all more : List StoredMessage) (files : List File) (names : List Name)
      → IsLooser all more → Row shape all files names → Row shape more files names
  row_looser all more files names loose row = record {
    known = λ x key n in_it of_key. ⊎_elim {C = IsKnown shape more files key n}
        (λ (blank : IsBlank shape files n). inl blank)
        (λ (some : (m : StoredMessage) × Among m all × (m.key ≡ key) × IsDurable m.core
        (file_at files n)).
        let at = looser_there all more some.0 loose some.1 in
        inr (
          at.0,
          at.1,
          sym at.2 ∙ some.2,
          subst (λ (c : List ℕ). IsDurable c (file_at files n)) at.3 some.3,
        ))
        (row.known x key n in_it of_key);
    once = row.once;
    alone = row.alone;
    present = λ n in_it must.
        let at = looser_back all more n loose in_it in
        let is = row.present at.0 at.1 (at.4 must) in (
          is.0,
          is.1,
          is.2,
          subst (λ (k : List ℕ). IsOfKey shape is.0 k is.1) at.2 is.3,
          subst (λ (c : List ℕ). IsDurable c (file_at files is.1)) at.3 is.4,
          ap shape.counts (sym at.3) ∙ is.5,
        );
  }
