-- What a disk shows as an image is one.
use Rattle.std.proofs.Common.{◌≡◌, ◌&&◌, ◌<◌, ◌≤◌, ◌+◌, ◌-◌, ◌⊎◌, ◌++◌, ◌∷◌, ◌∙◌, [], ℕ, Bool, true}
use Rattle.std.proofs.Common.{false, not, List, length, min, max, take, drop, replicate, nat_lt}
use Rattle.std.proofs.Common.{slice_index, if◌then◌else◌, refl, sym, ap, arith, inl, inr}
use Rattle.std.proofs.Common.{length-append, length-drop}
use Rattle.std.proofs.Math.ListN.{get_or-append}
use Rattle.std.proofs.lemmas.List.{get_or-append_right, get_or-drop, get_or-take, get_or_past}
use Rattle.std.proofs.lemmas.List.{length-replicate, length-take}
use Rattle.std.proofs.lemmas.List.FromFn.{get_or-map-range_with_len, length-map-range_with_len}
use borrow.Author.Tests.{ltb-true, ltb-false}
use Rattle.disk_model.specs.State.{File, closed, cut_to, durable, kept_within, of_length, opened}
use Rattle.disk_model.specs.State.{written, appended}
use Rattle.disk_model.specs.Images.{IsLeft, is_touched}
use Rattle.disk_model.specs.Fills.{filled, filled_byte}
use Rattle.disk_model.specs.declared.fill.Fill.{Fill}
use Rattle.disk_model.specs.declared.fill.Fill.TheVariants.{Kept, Written, Byte}

-- What a stop surely leaves agrees with the bytes, and is as long as a stop may leave them.
pub record IsKept (file : File) : Type 0 where
  pub no_shorter : file.least ≤ length file.kept
  pub no_longer : length file.kept ≤ file.greatest
  pub shorter : file.least ≤ file.greatest
  pub bytes : length file.bytes ≤ file.greatest
  pub above : file.least ≤ length file.bytes
  pub same : (place : ℕ) → place < length file.kept → is_touched file.touched place ≡ false
      → slice_index file.kept place ≡ slice_index file.bytes place

-- outside of these places the bytes are the same
abbrev pub Outside : ℕ → ℕ → List ℕ → List ℕ → Type 0
Outside low high old new =
    (place : ℕ) → (place < low) ⊎ (high ≤ place) → slice_index new place ≡ slice_index old place

pub touched_if : (low high place : ℕ) (open_ one two rest : Bool) → nat_lt place low ≡ one
    → nat_lt place high ≡ two
    → (if not one && two then open_ else rest) ≡ false → open_ ≡ true
    → ((place < low) ⊎ (high ≤ place)) × (rest ≡ false)
touched_if low high place open_ true two rest a b is fact = (inl (ltb-true place low a), is)
touched_if low high place open_ false true rest a b is fact = absurd (true_false (sym fact ∙ is))
  where
    true_false : ◌≡◌ {A = Bool} true false → ⊥
    true_false e = cc
touched_if low high place open_ false false rest a b is fact = (inr (ltb-false place high b), is)

-- our write or cut
kept_opened : (bytes : List ℕ) (low high stamp : ℕ) (file : File) → IsKept file
    → Outside low high file.bytes bytes
    → IsKept (opened bytes low high stamp file)
kept_opened bytes low high stamp file h outside = record {
  no_shorter = omega (arith, h.no_shorter);
  no_longer = omega (arith, h.no_longer);
  shorter = omega (arith, h.shorter);
  bytes = omega arith;
  above = omega arith;
  same = λ place there free.
      let t = touched_if low high place true (nat_lt place low) (nat_lt place high)
      (is_touched file.touched place) refl refl
      free refl in
      h.same place there t.1 ∙ sym (outside place t.0);
}

length-of_length : (size : ℕ) (bytes : List ℕ) → length (of_length size bytes) ≡ size
length-of_length size bytes =
    length-take size (bytes ++ replicate size 0)
    ∙ (omega (arith, length-append bytes (replicate size 0), length-replicate {A = ℕ} size 0))

of_length-below : (size : ℕ) (bytes : List ℕ) (place : ℕ) → place < size → place < length bytes
    → slice_index (of_length size bytes) place ≡ slice_index bytes place
of_length-below size bytes place small there =
    get_or-take size (bytes ++ replicate size 0) place 0 small
    ∙ get_or-append bytes (replicate size 0) 0 place there

back : (low place : ℕ) → low ≤ place → low + (place - low) ≡ place
back low place above = omega arith

pub outside_written : (at : ℕ) (piece bytes : List ℕ)
    → Outside (min at (length bytes)) (at + length piece) bytes
    (of_length at bytes ++ piece ++ drop (at + length piece) bytes)
outside_written at piece bytes place (inl below) =
    let front : List ℕ = of_length at bytes in
    let long : place < length front = omega (arith, length-of_length at bytes, below) in
    let longer : place < length (front ++ piece) = omega (arith, long, length-append front piece) in
    get_or-append (front ++ piece) (drop (at + length piece) bytes) 0 place longer
    ∙ get_or-append front piece 0 place long
    ∙ of_length-below at bytes place (omega arith) (omega arith)
outside_written at piece bytes place (inr above) =
    let front : List ℕ = of_length at bytes ++ piece in
    let long : length front ≡ at + length piece =
    omega (arith, length-append (of_length at bytes) piece, length-of_length at bytes) in
    get_or-append_right front (drop (at + length piece) bytes) (at + length piece) place 0 long
    above
    ∙ get_or-drop (at + length piece) bytes (place - (at + length piece)) 0
    ∙ ap (λ (n : ℕ). slice_index bytes n) (back _ place above)

outside_cut : (size : ℕ) (bytes : List ℕ)
    → Outside (min size (length bytes)) (max size (length bytes)) bytes (of_length size bytes)
outside_cut size bytes place (inl below) =
    of_length-below size bytes place (omega arith) (omega arith)
outside_cut size bytes place (inr above) =
    get_or_past (of_length size bytes) place 0 (omega (arith, length-of_length size bytes, above))
    ∙ sym (get_or_past bytes place 0 (omega arith))

pub kept_written : (at : ℕ) (piece : List ℕ) (stamp : ℕ) (file : File) → IsKept file
    → IsKept (written at piece stamp file)
kept_written at piece stamp file h =
    kept_opened (of_length at file.bytes ++ piece ++ drop (at + length piece) file.bytes)
    (min at (length file.bytes))
    (at + length piece) stamp file h (outside_written at piece file.bytes)

pub kept_cut : (size stamp : ℕ) (file : File) → IsKept file → IsKept (cut_to size stamp file)
kept_cut size stamp file h =
    kept_opened (of_length size file.bytes) (min size (length file.bytes))
    (max size (length file.bytes)) stamp file h
    (outside_cut size file.bytes)

pub kept_durable : (bytes : List ℕ) (stamp : ℕ) → IsKept (durable bytes stamp)
kept_durable bytes stamp = record {
  no_shorter = omega arith;
  no_longer = omega arith;
  shorter = omega arith;
  bytes = omega arith;
  above = omega arith;
  same = λ place there free. refl;
}

-- Others put bytes at the end.

length-kept_within : (file : File) → length (kept_within file) ≡ length file.bytes
length-kept_within file =
    omega (
      arith,
      length-append (take (length file.bytes) file.kept) (drop (length file.kept) file.bytes),
      length-take (length file.bytes) file.kept,
      length-drop (length file.kept) file.bytes,
    )

within_same : (file : File) (place : ℕ) → IsKept file → place < length file.bytes
    → is_touched file.touched place ≡ false
    → slice_index (kept_within file) place ≡ slice_index file.bytes place
within_same file place h there free = by_test (nat_lt place (length file.kept)) refl
  where
    by_test : (b : Bool) → nat_lt place (length file.kept) ≡ b
        → slice_index (take (length file.bytes) file.kept ++ drop (length file.kept) file.bytes)
        place
        ≡ slice_index file.bytes place
    by_test true is =
        let below : place < length file.kept = ltb-true place (length file.kept) is in
        let long : place < length (take (length file.bytes) file.kept) =
        omega (arith, length-take (length file.bytes) file.kept, below, there) in
        get_or-append (take (length file.bytes) file.kept) (drop (length file.kept) file.bytes) 0
        place long
        ∙ get_or-take (length file.bytes) file.kept place 0 there ∙ h.same place below free
    by_test false is =
        let above : length file.kept ≤ place = ltb-false place (length file.kept) is in
        let long : length (take (length file.bytes) file.kept) ≡ length file.kept =
        omega (arith, length-take (length file.bytes) file.kept, above, there) in
        get_or-append_right (take (length file.bytes) file.kept)
        (drop (length file.kept) file.bytes)
        (length file.kept) place 0 long above
        ∙ get_or-drop (length file.kept) file.bytes (place - length file.kept) 0
        ∙ ap (λ (n : ℕ). slice_index file.bytes n) (back _ place above)

-- a place that others wrote, or one of before
closed_if : (low high place : ℕ) (one two rest : Bool) → nat_lt place low ≡ one
    → nat_lt place high ≡ two
    → place < high → (if not one && two then false else rest) ≡ false
    → (low ≤ place) ⊎ ((place < low) × (rest ≡ false))
closed_if low high place true two rest a b there is = inr (ltb-true place low a, is)
closed_if low high place false true rest a b there is = inl (ltb-false place low a)
closed_if low high place false false rest a b there is =
    absurd (omega (arith, ltb-false place high b, there))

appended_same : (file : File) (piece : List ℕ) (place : ℕ) → IsKept file
    → (length file.bytes ≤ place) ⊎
    ((place < length file.bytes) × (is_touched file.touched place ≡ false))
    → slice_index (kept_within file ++ piece) place ≡ slice_index (file.bytes ++ piece) place
appended_same file piece place h (inl above) =
    get_or-append_right (kept_within file) piece (length file.bytes) place 0
    (length-kept_within file) above
    ∙ sym (get_or-append_right file.bytes piece (length file.bytes) place 0 refl above)
appended_same file piece place h (inr below) =
    get_or-append (kept_within file) piece 0 place (omega (arith, length-kept_within file, below.0))
    ∙ within_same file place h below.0 below.1
    ∙ sym (get_or-append file.bytes piece 0 place below.0)

kept_closed : (file : File) (piece : List ℕ) (stamp : ℕ) → IsKept file
    → IsKept (closed (file.bytes ++ piece) (kept_within file ++ piece) stamp file)
kept_closed file piece stamp h =
    let long : length (kept_within file ++ piece) ≡ length (file.bytes ++ piece) =
    omega (
      arith,
      length-append (kept_within file) piece,
      length-append file.bytes piece,
      length-kept_within file,
    ) in
    record {
      no_shorter = omega (arith, long);
      no_longer = omega (arith, long);
      shorter = omega arith;
      bytes = omega arith;
      above = omega arith;
      same = λ place there free. appended_same file piece place h
          (closed_if (length file.bytes) (length (file.bytes ++ piece)) place
          (nat_lt place (length file.bytes))
          (nat_lt place (length (file.bytes ++ piece))) (is_touched file.touched place) refl refl
          (omega (arith, long, there)) free);
    }

pub kept_appended : (piece : List ℕ) (stamp : ℕ) (file : File) → IsKept file
    → IsKept (appended piece stamp file)
kept_appended [] stamp file h = record {
  no_shorter = h.no_shorter;
  no_longer = h.no_longer;
  shorter = h.shorter;
  bytes = h.bytes;
  above = h.above;
  same = h.same;
}
kept_appended (b ∷ piece) stamp file h = kept_closed file (b ∷ piece) stamp h

-- What is shown of a file may be left of it.

filled_places : (byte : ℕ) (file : File) (place : ℕ) → place < file.greatest
    → is_touched file.touched place ≡ false
    → slice_index (filled (Byte byte) file) place ≡ slice_index file.bytes place
filled_places byte file place there free =
    get_or-map-range_with_len (filled_byte file byte) 0 file.greatest place place 0 there
    (omega arith)
    ∙ ap (λ (b : Bool). if b then byte else slice_index file.bytes place) free

pub filled_left : (fill : Fill) (file : File) → IsKept file → IsLeft file (filled fill file)
filled_left Kept file h =
    record { no_shorter = h.no_shorter; no_longer = h.no_longer; untouched = h.same }
filled_left Written file h =
    record { no_shorter = h.above; no_longer = h.bytes; untouched = λ place there free. refl }
filled_left (Byte byte) file h =
    let long : length (filled (Byte byte) file) ≡ file.greatest =
    length-map-range_with_len (filled_byte file byte) 0 file.greatest in
    record {
      no_shorter = omega (arith, long, h.shorter);
      no_longer = omega (arith, long);
      untouched =
          λ place there free. filled_places byte file place (omega (arith, long, there)) free;
    }
