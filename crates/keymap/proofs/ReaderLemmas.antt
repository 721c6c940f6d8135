-- How a reader takes bytes and gives keys.
use Rattle.std.proofs.Common.{◌≡◌, ℕ, ◌+◌, ◌<◌, ◌≤◌, true, false, List, [], ◌∷◌, ◌++◌, drop, length}
use Rattle.std.proofs.Common.{Option, Some, None, refl, sym, ap, ◌∙◌, ⊎_elim, arith, append_assoc}
use Rattle.std.proofs.Common.{length-append}
use Rattle.std.proofs.Common.{subst}
use Rattle.std.specs.Prelude.{option_to_list}
use Rattle.std.specs.Io.KnownBytes.{Consumes, IsAtEnd, Keeps}
use Rattle.std.proofs.lemmas.Bool.{cases_Bool}
use Rattle.std.proofs.lemmas.List.{append-nil, drop-append-le}
use Rattle.keymap.specs.Reader.{AreNeeded, Begins, Filled, Gives, IsCause, IsFirst, PlainReader}
use Rattle.keymap.specs.Reader.{Stops}
use Rattle.keymap.specs.Reader.{most_bytes}
use Rattle.keymap.specs.Stream.{first_key, is_open, keys_of}
use Rattle.keymap.specs.declared.key.Key.{Key}
use Rattle.keymap.specs.declared.key_reader.KeyFault.{KeyFault}
use Rattle.keymap.specs.declared.key_reader.KeyFault.TheVariants as fault
use Rattle.keymap.proofs.PiecesLemmas.{pieces_step}
use Rattle.keymap.proofs.StreamLemmas.{first_told, first_within, open_short}

one_more : (before more : List ℕ) (b : ℕ) → AreNeeded before more → is_open (before ++ more) ≡ true
    → AreNeeded before (more ++ b ∷ [])
one_more before [] b needed open_is = (ap is_open (sym (append-nil before)) ∙ open_is, tt)
one_more before (x ∷ more) b needed open_is = (
  needed.0,
  one_more (before ++ x ∷ []) more b needed.1
      (ap is_open (append_assoc before (x ∷ []) more) ∙ open_is),
)

consumed_more : (a b c : Option (List ℕ)) (xs ys : List ℕ) → Consumes a b xs → Consumes b c ys
    → Consumes a c (xs ++ ys)
consumed_more None b c xs ys h k = tt
consumed_more (Some a) None c xs ys h k = absurd h
consumed_more (Some a) (Some b) None xs ys h k = absurd k
consumed_more (Some a) (Some b) (Some c) xs ys h k =
    h ∙ ap (λ l. xs ++ l) k ∙ sym (append_assoc xs ys c)

consumed_kept : (a b c : Option (List ℕ)) (xs : List ℕ) → Consumes a b xs → Keeps b c
    → Consumes a c xs
consumed_kept None b c xs h k = tt
consumed_kept (Some a) None c xs h k = absurd h
consumed_kept (Some a) (Some b) None xs h k = absurd k
consumed_kept (Some a) (Some b) (Some c) xs h k = h ∙ ap (λ l. xs ++ l) (sym k)

nothing_consumed : (a : Option (List ℕ)) → Consumes a a []
nothing_consumed None = tt
nothing_consumed (Some a) = refl

-- no byte was taken yet
pub filled_nothing : (r : PlainReader) (left : Option (List ℕ)) → r.taken ≤ most_bytes
    → Filled r r left left
filled_nothing r left within = record {
  more = [];
  takes = record {
    taken = nothing_consumed left;
    counted = omega arith;
    needed = tt;
    within = within;
  };
  pending = sym (append-nil r.pending);
}

-- one more byte was taken
pub filled_more : (old mid new : PlainReader) (a b c : Option (List ℕ)) (byte : ℕ)
    → Filled old mid a b → is_open mid.pending ≡ true → mid.taken < most_bytes
    → Consumes b c (byte ∷ []) → new.pending ≡ mid.pending ++ byte ∷ [] → new.taken ≡ mid.taken + 1
    → Filled old new a c
filled_more old mid new a b c byte filled open_is few takes pending taken = record {
  more = filled.more ++ byte ∷ [];
  takes = record {
    taken = consumed_more a b c filled.more (byte ∷ []) filled.takes.taken takes;
    counted = omega (arith, filled.takes.counted, length-append filled.more (byte ∷ []));
    needed = one_more old.pending filled.more byte filled.takes.needed
        (ap is_open (sym filled.pending) ∙ open_is);
    within = omega arith;
  };
  pending = pending ∙ ap (λ l. l ++ byte ∷ []) filled.pending
      ∙ append_assoc old.pending filled.more (byte ∷ []);
}

-- none was taken since
pub filled_kept : (old new : PlainReader) (a b c : Option (List ℕ)) → Filled old new a b → Keeps b c
    → Filled old new a c
filled_kept old new a b c filled kept = record {
  more = filled.more;
  takes = record {
    taken = consumed_kept a b c filled.more filled.takes.taken kept;
    counted = filled.takes.counted;
    needed = filled.takes.needed;
    within = filled.takes.within;
  };
  pending = filled.pending;
}

-- the first key of a stream whose first bytes tell it
first_of_stream : (bytes rest : List ℕ) → 0 < length bytes → is_open bytes ≡ false
    → keys_of (bytes ++ rest)
    ≡ (first_key bytes).value ∷ keys_of (drop (first_key bytes).more (drop 1 bytes) ++ rest)
first_of_stream [] rest some told = absurd (omega arith)
first_of_stream (b ∷ bytes) rest some told =
    let within = first_within (b ∷ bytes) some in
    pieces_step first_key ((b ∷ bytes) ++ rest) (omega arith)
    ∙ ap (λ p. p.value ∷ keys_of (drop p.more (bytes ++ rest))) (first_told (b ∷ bytes) rest told)
    ∙ ap (λ l. (first_key (b ∷ bytes)).value ∷ keys_of l)
    (drop-append-le (first_key (b ∷ bytes)).more bytes rest (omega arith))

-- the keys of the bytes of which one was given, and of what follows them
given_first : (key : Option Key) (bytes rest left : List ℕ) → IsFirst key bytes rest
    → (is_open bytes ≡ true → left ≡ [])
    → keys_of (bytes ++ left) ≡ option_to_list key ++ keys_of (rest ++ left)
given_first None bytes rest left first ended =
    ap (λ l. keys_of (l ++ left)) (first.0 ∙ sym first.1)
given_first (Some key) bytes rest left first ended = ⊎_elim
    (λ open_is.
    let none = ended open_is in
    ap (λ l. keys_of (bytes ++ l)) none ∙ ap keys_of (append-nil bytes)
    ∙ pieces_step first_key bytes first.0
    ∙ ap (λ k. k ∷ keys_of (drop (first_key bytes).more (drop 1 bytes))) (sym first.1)
    ∙ ap (λ l. key ∷ keys_of l) (sym first.2 ∙ sym (append-nil rest))
    ∙ ap (λ l. key ∷ keys_of (rest ++ l)) (sym none))
    (λ told. first_of_stream bytes left first.0 told
    ∙ ap (λ k. k ∷ keys_of (drop (first_key bytes).more (drop 1 bytes) ++ left)) (sym first.1)
    ∙ ap (λ l. key ∷ keys_of (l ++ left)) (sym first.2))
    (cases_Bool (is_open bytes))

given_begins : (key : Option Key) (pending more rest : List ℕ) (left left' : Option (List ℕ))
    → Consumes left left' more → IsFirst key (pending ++ more) rest
    → (is_open (pending ++ more) ≡ true → IsAtEnd left') → Begins key pending left rest left'
given_begins key pending more rest None left' taken first ended = tt
given_begins key pending more rest (Some left) None taken first ended = absurd taken
given_begins key pending more rest (Some left) (Some left') taken first ended =
    ap (λ l. keys_of (pending ++ l)) taken ∙ ap keys_of (sym (append_assoc pending more left'))
    ∙ given_first key (pending ++ more) rest left' first ended

-- a key is given of what was filled
pub gives : {key : Option Key} {old mid new : PlainReader} {left left' : Option (List ℕ)}
    → Filled old mid left left' → (is_open mid.pending ≡ true
    → IsAtEnd left' × (mid.taken < most_bytes))
    → IsFirst key mid.pending new.pending → new.taken ≡ mid.taken → Gives key old new left left'
gives {key} {old} {mid} {new} {left} {left'} filled ended first taken =
    let bytes = sym filled.pending in
    let at_end : is_open (old.pending ++ filled.more) ≡ true
    → IsAtEnd left' × (mid.taken < most_bytes) =
    λ open_is. ended (ap is_open filled.pending ∙ open_is) in
    let is_first : IsFirst key (old.pending ++ filled.more) new.pending =
    subst (λ l. IsFirst key l new.pending) filled.pending first in
    record {
      more = filled.more;
      takes = record {
        taken = filled.takes.taken;
        counted = taken ∙ filled.takes.counted;
        needed = filled.takes.needed;
        within = omega (arith, filled.takes.within);
      };
      first = is_first;
      ended = λ open_is. let is = at_end open_is in (is.0, omega (arith, is.1));
      begins = given_begins key old.pending filled.more new.pending left left' filled.takes.taken
          is_first
          (λ open_is. (at_end open_is).0);
    }

-- a cause of a fault is met with few bytes waiting
pub cause_open : (fault : KeyFault) (r : PlainReader) → IsCause fault r → length r.pending ≤ 3
cause_open fault.ReadFault r cause = open_short r.pending cause.0
cause_open fault.TooManyKeys r cause = open_short r.pending cause.0

-- nothing is given of what was filled
pub stops : (fault : KeyFault) (old new : PlainReader) (left left' : Option (List ℕ))
    → Filled old new left left' → IsCause fault new → Stops fault old new left left'
stops fault old new left left' filled cause =
    record { more = filled.more; takes = filled.takes; pending = filled.pending; cause = cause }
