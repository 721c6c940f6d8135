-- What a write, a cut, a sync and others leave of a file.
use Rattle.std.proofs.Common.{List, [], ap, arith, false, get_or}
use Rattle.std.proofs.Common.{length, length-append, nat_lt, not, refl, replicate, subst, sym, take}
use Rattle.std.proofs.Common.{append_assoc, drop, get_or-take, length-take, true, ℕ, ⊎_elim}
use Rattle.std.proofs.Common.{◌+◌, ◌++◌, ◌<◌, ◌≤◌, ◌∙◌, ◌∷◌, ◌≡◌}
use Rattle.std.proofs.Math.ListN.{get_or-append}
use Rattle.std.proofs.lemmas.Bool.{and_from, and_left, cases_lt, cond-false, cond-true, le-ltb}
use Rattle.std.proofs.lemmas.Bool.{lt-ltb}
use Rattle.std.proofs.lemmas.List.{append-nil, ext_get_or, take-append-le, take_at}
use Rattle.disk_model.specs.State.{File, appended, closed, cut_to, of_length, opened, synced}
use Rattle.disk_model.specs.State.{written}
use Rattle.folder_stops.specs.Rows.{IsDurable}
use Rattle.folder_tails.specs.Rows.{KeepsFront}

-- a file that is changed behind its front keeps it
opened_front : (front bytes : List ℕ) (low high stamp : ℕ) (file : File) → KeepsFront front file
    → length front ≤ low → length front ≤ length bytes
    → ((i : ℕ) → i < length front → get_or bytes i 0 ≡ get_or front i 0)
    → KeepsFront front (opened bytes low high stamp file)
opened_front front bytes low high stamp file k behind long same = record {
  holds = same;
  long = long;
  least = let l = k.least in omega (arith, l, long);
  untouched = λ i lt. cond-false _ true _
      (and_left (not (nat_lt i low)) (nat_lt i high)
      (ap not (lt-ltb i low (omega (arith, lt, behind)))))
      ∙ k.untouched i lt;
}

front_is : (front : List ℕ) (file : File) → KeepsFront front file
    → of_length (length front) file.bytes ≡ front
front_is front file k =
    let long : length front ≤ length file.bytes = k.long in
    let short : of_length (length front) file.bytes ≡ take (length front) file.bytes =
    take-append-le (length front) file.bytes (replicate (length front) 0) long in
    let size : length (take (length front) file.bytes) ≡ length front =
    omega (arith, length-take (length front) file.bytes, long) in
    short ∙ ext_get_or 0 (take (length front) file.bytes) front size (λ i lt.
    let below : i < length front = omega (arith, size, lt) in
    get_or-take (length front) file.bytes i 0 below ∙ k.holds i below)

pub written_is : (front piece : List ℕ) (stamp : ℕ) (file : File) → KeepsFront front file
    → (written (length front) piece stamp file).bytes
    ≡ front ++ (piece ++ drop (length front + length piece) file.bytes)
written_is front piece stamp file k =
    ap (λ (l : List ℕ). l ++ piece ++ drop (length front + length piece) file.bytes)
    (front_is front file k)
    ∙ append_assoc front piece (drop (length front + length piece) file.bytes)

starts : (front rest bytes : List ℕ) → bytes ≡ front ++ rest
    → (length front ≤ length bytes)
    × ((i : ℕ) → i < length front → get_or bytes i 0 ≡ get_or front i 0)
starts front rest bytes is = (
  omega (arith, ap length is, length-append front rest),
  λ i lt. ap (λ (l : List ℕ). get_or l i 0) is ∙ get_or-append front rest 0 i lt,
)

-- a write from the front's end on keeps the front, whole or cut short
pub written_front : (front piece : List ℕ) (stamp : ℕ) (file : File) → KeepsFront front file
    → KeepsFront front (written (length front) piece stamp file)
written_front front piece stamp file k =
    let s = starts front (piece ++ drop (length front + length piece) file.bytes) _
    (written_is front piece stamp file k) in
    let long : length front ≤ length file.bytes = k.long in
    opened_front front _ _ _ stamp file k (omega (arith, long)) s.0 s.1

cut_is : (size : ℕ) (front rest bytes : List ℕ) → size ≡ length front → bytes ≡ front ++ rest
    → of_length size bytes ≡ front
cut_is size front rest bytes e is =
    ap (λ (l : List ℕ). take size (l ++ replicate size 0)) is
    ∙ ap (take size) (append_assoc front rest (replicate size 0))
    ∙ take_at front (rest ++ replicate size 0) size (sym e)

-- a file that begins so is cut behind that
pub cut_front : (front end more : List ℕ) (stamp : ℕ) (file : File) → KeepsFront front file
    → file.bytes ≡ (front ++ end) ++ more
    → KeepsFront front (cut_to (length (front ++ end)) stamp file)
    × ((cut_to (length (front ++ end)) stamp file).bytes ≡ front ++ end)
cut_front front end more stamp file k is =
    let cut = cut_is (length (front ++ end)) (front ++ end) more file.bytes refl is in
    let s = starts front end _ cut in
    let size = length-append front end in
    let long : length front ≤ length file.bytes = k.long in
    (opened_front front _ _ _ stamp file k (omega (arith, size, long)) s.0 s.1, cut)

pub synced_is : (bytes : List ℕ) (file : File) → file.bytes ≡ bytes → IsDurable bytes (synced file)
synced_is bytes file is = record {
  holds = is;
  least = ap length is;
  greatest = ap length is;
  untouched = λ i lt. refl;
}

pub durable_front : (front end : List ℕ) (file : File) → IsDurable (front ++ end) file
    → KeepsFront front file
durable_front front end file is =
    let size = length-append front end in
    let s = starts front end file.bytes is.holds in
    record {
      holds = s.1;
      long = s.0;
      least = omega (arith, size, is.least);
      untouched = λ i lt. is.untouched i (omega (arith, size, lt));
    }

-- what others put at the end is on the disk

closed_durable : (bytes piece kept : List ℕ) (stamp : ℕ) (file : File) → IsDurable bytes file
    → IsDurable (bytes ++ piece) (closed (file.bytes ++ piece) kept stamp file)
closed_durable bytes piece kept stamp file is = record {
  holds = holds;
  least = ap length holds;
  greatest = ap length holds;
  untouched = λ i lt. ⊎_elim
      (λ (below : i < length bytes).
      cond-false _ false _
      (and_left (not (nat_lt i (length file.bytes))) (nat_lt i (length (file.bytes ++ piece)))
      (ap not (lt-ltb i (length file.bytes) (omega (arith, size, below)))))
      ∙ is.untouched i below)
      (λ (above : length bytes ≤ i).
      cond-true _ false _
      (and_from (not (nat_lt i (length file.bytes))) (nat_lt i (length (file.bytes ++ piece)))
      (ap not (le-ltb i (length file.bytes) (omega (arith, size, above))))
      (lt-ltb i (length (file.bytes ++ piece)) (omega (arith, ap length holds, lt)))))
      (cases_lt i (length bytes));
}
  where
    holds : file.bytes ++ piece ≡ bytes ++ piece
    holds = ap (λ (l : List ℕ). l ++ piece) is.holds

    size : length file.bytes ≡ length bytes
    size = ap length is.holds

pub appended_durable : (bytes piece : List ℕ) (stamp : ℕ) (file : File) → IsDurable bytes file
    → IsDurable (bytes ++ piece) (appended piece stamp file)
appended_durable bytes [] stamp file is = record {
  holds = is.holds ∙ sym (append-nil bytes);
  least = is.least ∙ ap length (sym (append-nil bytes));
  greatest = is.greatest ∙ ap length (sym (append-nil bytes));
  untouched = λ i lt. is.untouched i (subst (λ (l : List ℕ). i < length l) (append-nil bytes) lt);
}
appended_durable bytes (b ∷ piece) stamp file is = closed_durable bytes (b ∷ piece) _ stamp file is
