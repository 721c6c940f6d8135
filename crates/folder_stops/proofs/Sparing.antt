-- What others leave of an item that is not there yet: it stays among the messages, and its key
-- free.
use Rattle.std.proofs.Common.{Bool, List, None, Option, Some, [], ap, false, get_or-set_other}
use Rattle.std.proofs.Common.{if◌then◌else◌, inl, inr, length, refl, subst, sym, true, ℕ, ◌++◌, ◌+◌}
use Rattle.std.proofs.Common.{◌∙◌, ◌∷◌, ◌≡◌, ◌≢◌}
use Rattle.disk_model.specs.Journal.{Action, Appends, Puts, Removes, Renames, Writes}
use Rattle.disk_model.specs.State.{File, Name, State, after_action, can_make, can_take, changed}
use Rattle.disk_model.specs.State.{durable, file_at, is_file, moved, name_at, with_change}
use Rattle.disk_model.specs.State.{with_made, with_names, without}
use Rattle.folder_stops.specs.Appends.{IsVacant, NewItem, Spares, message}
use Rattle.folder_stops.specs.Messages.{StoredMessage, arrived}
use Rattle.folder_stops.specs.Others.{MayDo, MayMove, SparesPath, with_action, with_move, with_put}
use Rattle.folder_stops.specs.Rows.{IsBlank, IsDurable, IsOfKey, IsUnused, Sound}
use Rattle.folder_stops.specs.Shape.{Shape}
use Rattle.folder_stops.specs.Words.{Among}
use Rattle.folder_stops.proofs.Messages.{taken_among, with_old}
use Rattle.folder_stops.proofs.Rows.{named}
use Rattle.folder_stops.proofs.Sounds.{file_before}
use Rattle.folder_stops.proofs.Words.{among_without, found, same}

module _ (shape : Shape) (item : NewItem) where
  pub spares_beside : (action : Action) → Spares shape item action → SparesPath item.beside action
  spares_beside (Appends path piece) ne = ne
  spares_beside (Writes path bytes) ne = ne
  spares_beside (Puts path bytes) ne = ne.0
  spares_beside (Renames from to) ne = (ne.0, ne.1)
  spares_beside (Removes path) ne = ne

  -- others keep the item among the messages, and its key unused

  among_if : (b : Bool) (x y : List StoredMessage) → Among (message item) x
      → Among (message item) y → Among (message item) (if b then x else y)
  among_if true x y e f = e
  among_if false x y e f = f

  among_put : (at : Option (List ℕ)) (bytes : List ℕ) (all : List StoredMessage)
      → Among (message item) all → Among (message item) (with_put shape [] at bytes all)
  among_put None bytes all in_it = in_it
  among_put (Some key) bytes all in_it =
      among_if (shape.counts bytes) _ _
      (with_old shape.before (message item) (arrived [] key bytes) all in_it) in_it

  among_move : (file : Option (Option ℕ)) (from to : List ℕ) (a b : Option (List ℕ)) (s : State)
      (all : List StoredMessage) → name_at s.names from ≡ file → shape.slot from ≡ a
      → from ≢ item.place → IsVacant shape item s → Among (message item) all
      → Among (message item) (with_move shape [] file a b s.files all)
  among_move None from to a b s all is at ne vacant in_it = in_it
  among_move (Some None) from to a b s all is at ne vacant in_it = in_it
  among_move (Some (Some n)) from to None None s all is at ne vacant in_it = in_it
  among_move (Some (Some n)) from to None (Some key) s all is at ne vacant in_it =
      among_if (shape.counts (file_at s.files n).bytes) _ _
      (with_old shape.before (message item) (arrived [] key (file_at s.files n).bytes) all
      in_it) in_it
  among_move (Some (Some n)) from to (Some key) None s all is at ne vacant in_it =
      taken_among (message item) key all in_it (λ e.
      ne (vacant (named from n) n (found from s.names n is) (at ∙ ap Some (sym e), refl)).0)
  among_move (Some (Some n)) from to (Some key) (Some other) s all is at ne vacant in_it = in_it

  pub among_action : (action : Action) (s : State) (all : List StoredMessage)
      → Spares shape item action → IsVacant shape item s → Among (message item) all
      → Among (message item) (with_action shape [] action s all)
  among_action (Appends path piece) s all spares vacant in_it = in_it
  among_action (Writes path bytes) s all spares vacant in_it = in_it
  among_action (Removes path) s all spares vacant in_it = in_it
  among_action (Puts path bytes) s all spares vacant in_it =
      among_if (can_make s.names path) _ _ (among_put (shape.slot path) bytes all in_it) in_it
  among_action (Renames from to) s all spares vacant in_it =
      among_if (can_take s.names to) _ _
      (among_move (name_at s.names from) from to (shape.slot from) (shape.slot to) s all refl
      refl spares.3 vacant in_it) in_it

  -- others keep the key vacant

  pub vacant_named : (path : List ℕ) (n : ℕ) (s : State) (names : List Name)
      → shape.slot path ≢ Some item.key
      → ((x : Name) (k : ℕ) → Among x names → IsOfKey shape x item.key k → (x.path ≡ item.place)
      × IsBlank shape s.files k)
      → (x : Name) (k : ℕ) → Among x (named path n ∷ names) → IsOfKey shape x item.key k
      → (x.path ≡ item.place) × IsBlank shape s.files k
  vacant_named path n s names ne vacant x k (inl is) of_key =
      absurd (ne (sym (ap (λ (y : Name). shape.slot y.path) is) ∙ of_key.0))
  vacant_named path n s names ne vacant x k (inr later) of_key = vacant x k later of_key

  pub vacant_moved : (file : Option (Option ℕ)) (from to : List ℕ) (s : State)
      → name_at s.names from ≡ file
      → ((n : ℕ) → name_at s.names from ≡ Some (Some n) → shape.slot to ≢ Some item.key)
      → IsVacant shape item s → IsVacant shape item (moved file from to s)
  vacant_moved None from to s is ne vacant = vacant
  vacant_moved (Some None) from to s is ne vacant = vacant
  vacant_moved (Some (Some n)) from to s is ne vacant =
      vacant_named to n s (without to (without from s.names)) (ne n is)
      (λ x k in_it. vacant x k
      (among_without x from s.names (among_without x to (without from s.names) in_it).0).0)

  vacant_if : (b : Bool) (s t : State) → IsVacant shape item s → IsVacant shape item t
      → IsVacant shape item (if b then s else t)
  vacant_if true s t e f = e
  vacant_if false s t e f = f

  -- files change that are no message's
  pub vacant_files : (s : State) (files' : List File) (clock' : ℕ)
      → ((x : Name) (n : ℕ) → Among x s.names → IsOfKey shape x item.key n → file_at files' n
      ≡ file_at s.files n) → IsVacant shape item s → IsVacant shape item (record {
        names = s.names;
        earlier = s.earlier;
        files = files';
        clock = clock';
      })
  vacant_files s files' clock' same vacant x n in_it of_key = let at = vacant x n in_it of_key in
      (at.0, (at.1.0, subst (IsDurable at.1.0) (sym (same x n in_it of_key)) at.1.1, at.1.2))

  vacant_changed : (file : Option (Option ℕ)) (path : List ℕ) (change : ℕ → File → File)
      (s : State) → name_at s.names path ≡ file → shape.slot path ≡ None → Sound shape.home s
      → IsVacant shape item s → IsVacant shape item (changed file change s)
  vacant_changed None path change s is none sound vacant = vacant
  vacant_changed (Some None) path change s is none sound vacant = vacant
  vacant_changed (Some (Some n)) path change s is none sound vacant =
      vacant_files s (with_change n change s).files (s.clock + 1)
      (λ x k in_it of_key. get_or-set_other s.files n k (change s.clock (file_at s.files n))
      (durable [] 0)
      (λ e. let same : x.path ≡ path = sound.shared x (named path n) k in_it
      (found path s.names n is) of_key.1 (ap Some (sym e)) in
      let no : shape.slot x.path ≡ None = ap shape.slot same ∙ none in
      let some : shape.slot x.path ≡ Some item.key = of_key.0 in absurd (cc))) vacant

  pub vacant_made : (path bytes : List ℕ) (s : State) → shape.slot path ≢ Some item.key
      → Sound shape.home s → IsVacant shape item s → IsVacant shape item (with_made path bytes s)
  vacant_made path bytes s ne sound vacant =
      vacant_named path (length s.files) (with_made path bytes s) s.names ne
      (vacant_files s (s.files ++ durable bytes s.clock ∷ []) s.clock (λ x n in_it of_key.
      file_before s.files (durable bytes s.clock) n
      (sound.below s.names x n (inl refl) in_it of_key.1)) vacant)

  -- a file that keeps its key does not come under the item's
  pub not_come : (from to : List ℕ) (s : State) (a b : Option (List ℕ)) (n : ℕ) → shape.slot from
      ≡ a
      → shape.slot to ≡ b → name_at s.names from ≡ Some (Some n)
      → MayMove shape (Some (Some n)) a b s
      → (shape.slot from ≡ None → shape.slot to ≢ Some item.key) → from ≢ item.place
      → IsVacant shape item s → b ≢ Some item.key
  not_come from to s None b n at_from at_to is may spares ne vacant e = spares at_from (at_to ∙ e)
  not_come from to s (Some key) None n at_from at_to is may spares ne vacant e = cc
  not_come from to s (Some key) (Some other) n at_from at_to is may spares ne vacant e =
      ne (vacant (named from n) n (found from s.names n is) (at_from ∙ ap Some may ∙ e, refl)).0

  pub vacant_action : (action : Action) (s : State) → MayDo shape action s
      → Spares shape item action
      → Sound shape.home s → IsVacant shape item s → IsVacant shape item (after_action action s)
  vacant_action (Appends path piece) s may spares sound vacant =
      vacant_changed (name_at s.names path) path _ s refl may sound vacant
  vacant_action (Writes path bytes) s may spares sound vacant =
      vacant_changed (name_at s.names path) path _ s refl may sound vacant
  vacant_action (Removes path) s may spares sound vacant =
      vacant_if (is_file (name_at s.names path)) (with_names (without path s.names) s) s
      (λ x k in_it. vacant x k (among_without x path s.names in_it).0) vacant
  vacant_action (Puts path bytes) s may spares sound vacant =
      vacant_if (can_make s.names path) (with_made path bytes s) s
      (vacant_made path bytes s spares.1 sound vacant) vacant
  vacant_action (Renames from to) s may spares sound vacant =
      vacant_if (can_take s.names to) (moved (name_at s.names from) from to s) s
      (vacant_moved (name_at s.names from) from to s refl
      (λ n is. not_come from to s (shape.slot from) (shape.slot to) n refl refl is
      (subst (λ (o : Option (Option ℕ)). MayMove shape o (shape.slot from) (shape.slot to) s) is
      may.1) spares.2 spares.3 vacant) vacant) vacant

  pub unused_named : (path : List ℕ) (n : ℕ) (names : List Name) → shape.slot path ≢ Some item.key
      → IsUnused shape item.key names → IsUnused shape item.key (named path n ∷ names)
  unused_named path n names ne unused x k (inl is) of_key =
      ne (sym (ap (λ (y : Name). shape.slot y.path) is) ∙ of_key.0)
  unused_named path n names ne unused x k (inr later) of_key = unused x k later of_key

  unused_moved : (file : Option (Option ℕ)) (from to : List ℕ) (s : State) → name_at s.names from
      ≡ file → ((n : ℕ) → name_at s.names from ≡ Some (Some n) → shape.slot to ≢ Some item.key)
      → IsUnused shape item.key s.names → IsUnused shape item.key (moved file from to s).names
  unused_moved None from to s is ne unused = unused
  unused_moved (Some None) from to s is ne unused = unused
  unused_moved (Some (Some n)) from to s is ne unused =
      unused_named to n (without to (without from s.names)) (ne n is)
      (λ x k in_it. unused x k
      (among_without x from s.names (among_without x to (without from s.names) in_it).0).0)

  unused_if : (b : Bool) (s t : State) → IsUnused shape item.key s.names
      → IsUnused shape item.key t.names → IsUnused shape item.key (if b then s else t).names
  unused_if true s t e f = e
  unused_if false s t e f = f

  unused_changed : (file : Option (Option ℕ)) (change : ℕ → File → File) (s : State)
      → IsUnused shape item.key s.names → IsUnused shape item.key (changed file change s).names
  unused_changed None change s unused = unused
  unused_changed (Some None) change s unused = unused
  unused_changed (Some (Some n)) change s unused = unused

  -- a file that keeps its key does not come under an unused one
  pub not_brought : (from to : List ℕ) (s : State) (a b : Option (List ℕ)) (n : ℕ) → shape.slot from
      ≡ a → shape.slot to ≡ b → name_at s.names from ≡ Some (Some n)
      → MayMove shape (Some (Some n)) a b s
      → (shape.slot from ≡ None → shape.slot to ≢ Some item.key)
      → IsUnused shape item.key s.names → b ≢ Some item.key
  not_brought from to s None b n at_from at_to is may spares unused e = spares at_from (at_to ∙ e)
  not_brought from to s (Some key) None n at_from at_to is may spares unused e = cc
  not_brought from to s (Some key) (Some other) n at_from at_to is may spares unused e =
      unused (named from n) n (found from s.names n is) (at_from ∙ ap Some may ∙ e, refl)

  pub unused_action : (action : Action) (s : State) → MayDo shape action s
      → Spares shape item action
      → IsUnused shape item.key s.names → IsUnused shape item.key (after_action action s).names
  unused_action (Appends path piece) s may spares unused =
      unused_changed (name_at s.names path) _ s unused
  unused_action (Writes path bytes) s may spares unused =
      unused_changed (name_at s.names path) _ s unused
  unused_action (Removes path) s may spares unused =
      unused_if (is_file (name_at s.names path)) (with_names (without path s.names) s) s
      (λ x k in_it. unused x k (among_without x path s.names in_it).0) unused
  unused_action (Puts path bytes) s may spares unused =
      unused_if (can_make s.names path) (with_made path bytes s) s
      (unused_named path (length s.files) s.names spares.1 unused) unused
  unused_action (Renames from to) s may spares unused =
      unused_if (can_take s.names to) (moved (name_at s.names from) from to s) s
      (unused_moved (name_at s.names from) from to s refl
      (λ n is. not_brought from to s (shape.slot from) (shape.slot to) n refl refl is
      (subst (λ (o : Option (Option ℕ)). MayMove shape o (shape.slot from) (shape.slot to) s) is
      may.1) spares.2 unused) unused) unused
