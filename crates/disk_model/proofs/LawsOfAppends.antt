-- What a stop leaves of a piece that we put at the end of a file.
use Rattle.std.proofs.Common.{◌≡◌, ◌==◌, ◌&&◌, ◌<◌, ◌≤◌, ◌⊎◌, ◌+◌, ◌++◌, ◌∙◌, [], ℕ, Bool, true}
use Rattle.std.proofs.Common.{false, not, List, Option, length, min, take, drop, replicate}
use Rattle.std.proofs.Common.{slice_index, nat_lt, if◌then◌else◌, refl, sym, ap, subst, arith, inl}
use Rattle.std.proofs.Common.{inr, length-append, length-drop}
use Rattle.std.proofs.Math.ListN.{get_or-append}
use Rattle.std.proofs.Math.Seq.{take-append_seam}
use Rattle.std.proofs.lemmas.Bool.{lt-ltb}
use Rattle.std.proofs.lemmas.List.{append-nil, drop_all, get_or-set_same, get_or-take, length-set}
use Rattle.std.proofs.lemmas.List.{length-take, take-append-drop}
use Rattle.disk_model.specs.Journal.{Done, Refused}
use Rattle.disk_model.specs.State.{File, Patch, State, changed, durable, file_at, name_at}
use Rattle.disk_model.specs.State.{of_length, settled, synced, written}
use Rattle.disk_model.specs.Images.{IsLeft, is_touched}
use Rattle.disk_model.specs.Laws.{AppendedIsTorn, AppendedMayBeTorn, IsDurable, IsNamed, IsTorn}
use Rattle.disk_model.specs.Laws.{SyncedAppendStands, bytes_in}
use Rattle.disk_model.proofs.LawsOfFills.{outside_written, touched_if}
use Rattle.disk_model.proofs.LawsOfImages.{left_durable, same_bytes}

-- The bytes of before and the piece.
end_bytes : (bytes piece : List ℕ)
    → of_length (length bytes) bytes ++ piece ++ drop (length bytes + length piece) bytes ≡ bytes
    ++ piece
end_bytes bytes piece =
    ap (λ (l : List ℕ). l ++ piece ++ drop (length bytes + length piece) bytes)
    (take-append_seam bytes (replicate (length bytes) 0))
    ∙ ap (λ (l : List ℕ). bytes ++ piece ++ l)
    (drop_all (length bytes + length piece) bytes (omega arith))
    ∙ append-nil (bytes ++ piece)

-- Of one file.

untouched_if : (one two rest : Bool) → one ≡ true → rest ≡ false
    → (if not one && two then true else rest) ≡ false
untouched_if true two rest is free = free
untouched_if false two rest is free = absurd (false_true is)
  where
    false_true : ◌≡◌ {A = Bool} false true → ⊥
    false_true e = cc

front_left : (file : File) (piece left : List ℕ) (stamp : ℕ) → IsDurable file
    → IsLeft (written (length file.bytes) piece stamp file) left
    → take (length file.bytes) left ≡ file.bytes
front_left file piece left stamp d h =
    let long : length file.bytes ≤ length left =
    omega (
      arith,
      d.least,
      h.no_shorter,
      length-append file.bytes piece,
      ap length
          (end_bytes file.bytes piece),
    ) in
    same_bytes (take (length file.bytes) left) file.bytes
    (omega (arith, length-take (length file.bytes) left, long))
    (λ place there. get_or-take (length file.bytes) left place 0 there
    ∙ h.untouched place (omega (arith, long, there))
    (untouched_if (nat_lt place (min (length file.bytes) (length file.bytes)))
    (nat_lt place (length file.bytes + length piece)) (is_touched file.touched place)
    (lt-ltb place (min (length file.bytes) (length file.bytes)) (omega (arith, there)))
    (ap (λ (patches : List Patch). is_touched patches place) d.untouched))
    ∙ outside_written (length file.bytes) piece file.bytes place (inl (omega (arith, there))))

torn : (file : File) (piece left : List ℕ) (stamp : ℕ) → IsDurable file
    → IsLeft (written (length file.bytes) piece stamp file) left
    → IsTorn file.bytes (length piece) left
torn file piece left stamp d h = record {
  tail = drop (length file.bytes) left;
  bytes = sym (take-append-drop (length file.bytes) left)
      ∙ ap (λ (l : List ℕ). l ++ drop (length file.bytes) left)
      (front_left file piece left stamp d h);
  within = omega (
    arith,
    length-drop (length file.bytes) left,
    h.no_longer,
    d.greatest,
    length-append file.bytes piece,
    ap length (end_bytes file.bytes piece),
  );
}

tail_left : (file : File) (piece tail : List ℕ) (stamp place : ℕ) → length tail ≤ length piece
    → place < length (file.bytes ++ tail)
    → is_touched (written (length file.bytes) piece stamp file).touched place ≡ false
    → slice_index (file.bytes ++ tail) place
    ≡ slice_index (written (length file.bytes) piece stamp file).bytes place
tail_left file piece tail stamp place within there free =
    by_side (touched_if (min (length file.bytes) (length file.bytes))
    (length file.bytes + length piece) place true
    (nat_lt place (min (length file.bytes) (length file.bytes)))
    (nat_lt place (length file.bytes + length piece))
    (is_touched file.touched place) refl refl free refl).0
  where
    by_side : (place < min (length file.bytes) (length file.bytes)) ⊎
        (length file.bytes + length piece ≤ place)
        → slice_index (file.bytes ++ tail) place
        ≡ slice_index (written (length file.bytes) piece stamp file).bytes place
    by_side (inl below) =
        get_or-append file.bytes tail 0 place (omega (arith, below))
        ∙ sym (outside_written (length file.bytes) piece file.bytes place (inl below))
    by_side (inr above) =
        absurd (omega (arith, above, there, within, length-append file.bytes tail))

tail_may_be_left : (file : File) (piece tail : List ℕ) (stamp : ℕ) → IsDurable file
    → length tail ≤ length piece
    → IsLeft (written (length file.bytes) piece stamp file) (file.bytes ++ tail)
tail_may_be_left file piece tail stamp d within = record {
  no_shorter = omega (arith, d.least, length-append file.bytes tail);
  no_longer = omega (
    arith,
    within,
    length-append file.bytes tail,
    length-append file.bytes piece,
    ap length (end_bytes file.bytes piece),
  );
  untouched = λ place there free. tail_left file piece tail stamp place within there free;
}

may_be_torn : (file : File) (piece left : List ℕ) (stamp : ℕ) → IsDurable file
    → IsTorn file.bytes (length piece) left
    → IsLeft (written (length file.bytes) piece stamp file) left
may_be_torn file piece left stamp d h =
    subst (λ (l : List ℕ). IsLeft (written (length file.bytes) piece stamp file) l) (sym h.bytes)
    (tail_may_be_left file piece h.tail stamp d h.within)

-- Of a file in a state.

file_changed : (state : State) (path : List ℕ) (number : ℕ) (change : ℕ → File → File)
    → IsNamed state path number
    → file_at (changed (name_at state.names path) change state).files number
    ≡ change state.clock (file_at state.files number)
file_changed state path number change named =
    ap (λ (at : Option (Option ℕ)). file_at (changed at change state).files number) named.name
    ∙ get_or-set_same state.files number _ (durable [] 0) named.below

file_settled : (state : State) (path : List ℕ) (number : ℕ) → IsNamed state path number
    → file_at (settled (name_at state.names path) state).files number
    ≡ synced (file_at state.files number)
file_settled state path number named =
    ap (λ (at : Option (Option ℕ)). file_at (settled at state).files number) named.name
    ∙ get_or-set_same state.files number _ (durable [] 0) named.below

-- the name is that of the same file behind a change
named_changed : (state : State) (path : List ℕ) (number : ℕ) (change : ℕ → File → File)
    → IsNamed state path number
    → IsNamed (changed (name_at state.names path) change state) path number
named_changed state path number change named =
    subst (λ (at : Option (Option ℕ)). IsNamed (changed at change state) path number)
    (sym named.name) (record {
      name = named.name;
      below = omega (
        arith,
        named.below,
        length-set state.files number
            (change state.clock (file_at state.files number)),
      );
    })

torn_by : (state : State) (path piece shorter left : List ℕ) (number : ℕ)
    → length shorter ≤ length piece
    → IsNamed state path number → IsDurable (file_at state.files number)
    → IsLeft (file_at
    (changed (name_at state.names path) (written (length (bytes_in state number)) shorter)
    state).files
    number) left
    → IsTorn (bytes_in state number) (length piece) left
torn_by state path piece shorter left number fewer named d h =
    let t = torn (file_at state.files number) shorter left state.clock d
    (subst (λ (file : File). IsLeft file left)
    (file_changed state path number (written (length (bytes_in state number)) shorter) named) h) in
    record { tail = t.tail; bytes = t.bytes; within = omega (arith, t.within, fewer) }

torn_if : (b : Bool) (state : State) (path piece shorter left : List ℕ) (number : ℕ)
    → length shorter ≤ length piece
    → IsNamed state path number → IsDurable (file_at state.files number)
    → IsLeft (file_at (if b then state
    else changed (name_at state.names path) (written (length (bytes_in state number)) shorter)
    state).files number) left
    → IsTorn (bytes_in state number) (length piece) left
torn_if true state path piece shorter left number fewer named d h = record {
  tail = [];
  bytes = left_durable (file_at state.files number) left d h
      ∙ sym (append-nil (bytes_in state number));
  within = omega arith;
}
torn_if false state path piece shorter left number fewer named d h =
    torn_by state path piece shorter left number fewer named d h

pub appended_is_torn : AppendedIsTorn
appended_is_torn state path piece left number Done named d h =
    torn_by state path piece piece left number (omega arith) named d h
appended_is_torn state path piece left number (Refused why wrote) named d h =
    torn_if (wrote == 0) state path piece (take wrote piece) left number
    (omega (arith, length-take wrote piece)) named d h

pub appended_may_be_torn : AppendedMayBeTorn
appended_may_be_torn state path piece left number named d h =
    subst (λ (file : File). IsLeft file left)
    (sym (file_changed state path number (written (length (bytes_in state number)) piece) named))
    (may_be_torn (file_at state.files number) piece left state.clock d h)

pub synced_append_stands : SyncedAppendStands
synced_append_stands state path piece left number named h =
    let change : ℕ → File → File = written (length (bytes_in state number)) piece in
    let next : State = changed (name_at state.names path) change state in
    left_durable (synced (file_at next.files number)) left
    (record { untouched = refl; least = refl; greatest = refl })
    (subst (λ (file : File). IsLeft file left)
    (file_settled next path number (named_changed state path number change named)) h)
    ∙ ap (λ (file : File). file.bytes) (file_changed state path number change named)
    ∙ end_bytes (bytes_in state number) piece
