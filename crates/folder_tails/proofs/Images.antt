-- To what each image settles.
use Rattle.std.proofs.Common.{Bool, List, Option, Some, [], ap, arith, false}
use Rattle.std.proofs.Common.{get_or-take, if◌then◌else◌, inl, inr, length, length-take, refl}
use Rattle.std.proofs.Common.{sym, take, true, ℕ, ◌++◌, ◌<◌, ◌≤◌, ◌∙◌, ◌∷◌, ◌≡◌, ◌⊎◌}
use Rattle.std.proofs.lemmas.Bool.{cond-true, le-leb}
use Rattle.std.proofs.lemmas.List.{ext_get_or}
use Rattle.disk_model.specs.Tree.{TreeNode, node_at}
use Rattle.disk_model.specs.State.{File, Name, State, file_at}
use Rattle.disk_model.specs.Images.{IsLeft, IsOneOf, IsTreeOf}
use Rattle.folder_stops.specs.Words.{Among}
use Rattle.folder_stops.proofs.Images.{left_durable}
use Rattle.folder_tails.specs.Sides.{lock_of, tail_of}
use Rattle.folder_tails.specs.Tails.{read_tail}
use Rattle.folder_tails.specs.Settled.{finished, held_by, is_ours, joined, settled_bytes}
use Rattle.folder_tails.specs.Settled.{settled_from}
use Rattle.folder_tails.specs.Rows.{HasNoTail, IsForeign, IsPlain, IsSafe, IsSound}
use Rattle.folder_tails.specs.Rows.{IsTailed, KeepsFront, MayRow, Row}
use Rattle.folder_tails.proofs.Names.{image_file, image_none}

left_front : (file : File) (front c : List ℕ) → KeepsFront front file → IsLeft file c
    → take (length front) c ≡ front
left_front file front c is left =
    let long : length front ≤ length c = omega (arith, left.no_shorter, is.least) in
    let size : length (take (length front) c) ≡ length front =
    omega (arith, length-take (length front) c, long) in
    ext_get_or 0 (take (length front) c) front size (λ i lt.
    let below : i < length front = omega (arith, size, lt) in
    get_or-take (length front) c i 0 below
    ∙ left.untouched i (omega (arith, below, long)) (is.untouched i below) ∙ is.holds i below)

one_of : (names : List Name) (all : List (List Name)) → IsOneOf names all → Among names all
one_of names [] is = absurd is
one_of names (first ∷ all) (inl is) = inl is
one_of names (first ∷ all) (inr later) = inr (one_of names all later)

either_same : {A : Type 0} (b : Bool) (x : A) → (if b then x else x) ≡ x
either_same true x = refl
either_same false x = refl

module _ (path : List ℕ) (ours : List ℕ → Bool) (files : List File) (names : List Name)
    (tree : List TreeNode) (contents : IsTreeOf files names tree) where
  -- no tail counts
  foreign_image : (c : List ℕ) (tail lock : Option (List ℕ)) → lock ≡ held_by
      (node_at tree (lock_of path))
      → IsForeign path ours files names → settled_from ours (Some c) tail lock ≡ Some c
  foreign_image c tail lock e (inl none) =
      ap (settled_from ours (Some c) tail) (e ∙ image_none (lock_of path) files names tree none
      contents)
  foreign_image c tail lock e (inr at) =
      let l = image_file (lock_of path) at.0 files names tree at.1 contents in
      let line = left_durable (file_at files at.0) at.2.0 l.0 at.2.1 l.2 in
      ap (settled_from ours (Some c) tail) (e ∙ l.1)
      ∙ ap (λ (b : Bool). Some (if b then finished c tail else c)) (ap ours line ∙ at.2.2)

  idle_image : (c : List ℕ) → HasNoTail path names ⊎ IsForeign path ours files names
      → settled_from ours (Some c) (held_by (node_at tree (tail_of path)))
      (held_by (node_at tree (lock_of path))) ≡ Some c
  idle_image c (inl none) =
      ap (λ (tail : Option (List ℕ)). settled_from ours (Some c) tail
      (held_by (node_at tree (lock_of path))))
      (image_none (tail_of path) files names tree none contents)
      ∙ ap Some (either_same (is_ours ours (held_by (node_at tree (lock_of path)))) c)
  idle_image c (inr foreign) =
      foreign_image c (held_by (node_at tree (tail_of path))) _ refl foreign

  pub plain_image : (bytes : List ℕ) → IsPlain path ours bytes files names
      → settled_bytes ours path tree ≡ Some bytes
  plain_image bytes is =
      let m = image_file path is.mail.0 files names tree is.mail.1 contents in
      ap (λ (mail : Option (List ℕ)). settled_from ours mail (held_by (node_at tree (tail_of path)))
      (held_by (node_at tree (lock_of path)))) m.1
      ∙ idle_image m.0 is.idle
      ∙ ap Some (left_durable (file_at files is.mail.0) bytes m.0 is.mail.2 m.2)

  pub tailed_image : (front end : List ℕ) → IsTailed path ours front end files names
      → settled_bytes ours path tree ≡ Some (front ++ end)
  tailed_image front end is =
      let m = image_file path is.mail.0 files names tree is.mail.1 contents in
      let t = image_file (tail_of path) is.tail.0 files names tree is.tail.1 contents in
      let l = image_file (lock_of path) is.lock.0 files names tree is.lock.1 contents in
      let text = left_durable (file_at files is.tail.0) is.tail.2.0 t.0 is.tail.2.1 t.2 in
      let line = left_durable (file_at files is.lock.0) is.lock.2.0 l.0 is.lock.2.1 l.2 in
      let least = is.mail.2.least in
      let long : length front ≤ length m.0 = omega (arith, m.2.no_shorter, least) in
      let there : settled_bytes ours path tree ≡ settled_from ours (Some m.0) (Some t.0) (Some l.0)
      =
      λ i. settled_from ours (m.1 i) (t.1 i) (l.1 i) in
      there
      ∙ ap (λ (b : Bool). Some (if b then finished m.0 (Some t.0) else m.0))
      (ap ours line ∙ is.lock.2.2)
      ∙ ap (λ (o : Option (ℕ × List ℕ)). Some (joined m.0 o)) (ap read_tail text ∙ is.tail.2.2)
      ∙ ap Some (cond-true _ _ _ (le-leb (length front) (length m.0) long))
      ∙ ap (λ (c : List ℕ). Some (c ++ end)) (left_front (file_at files is.mail.0) front m.0
      is.mail.2 m.2)

  pub row_image : (bytes : List ℕ) → Row path ours bytes files names
      → settled_bytes ours path tree ≡ Some bytes
  row_image bytes (inl is) = plain_image bytes is
  row_image bytes (inr is) = tailed_image is.0 is.1 is.3 ∙ ap Some (sym is.2)

-- what the rows say of each image
pub safe : (path : List ℕ) (ours may : List ℕ → Bool) (s : State) → IsSound s
    → ((names : List Name) → Among names (s.names ∷ s.earlier) → MayRow path ours may s.files names)
    → IsSafe path ours may s
safe path ours may s sound rows = record {
  sound = sound;
  rows = rows;
  images = λ tree image.
      let row = rows image.names (one_of image.names (s.names ∷ s.earlier) image.stand) in
      (row.0, row.1, row_image path ours s.files image.names tree image.contents row.0 row.2);
}
