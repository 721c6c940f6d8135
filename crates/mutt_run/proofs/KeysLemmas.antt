-- How keys and moments are taken.
use Rattle.std.proofs.Common.{◌≡◌, ◌+◌, ◌≤◌, ◌<◌, ◌⊎◌, inl, inr, ℕ, ℤ, true, List, [], ◌∷◌, ◌++◌}
use Rattle.std.proofs.Common.{Option, Some, None, length, drop, refl, sym, ◌∙◌, ap, subst}
use Rattle.std.proofs.Common.{append_assoc}
use Rattle.std.proofs.Common.{arith, length-append}
use Rattle.std.proofs.lemmas.List.{append-nil, length-drop}
use Rattle.std.specs.Io.KnownBytes.{Consumes, IsAtEnd}
use Rattle.keymap.specs.Reader.{PlainReader, most_bytes, Begins, Gives as GivesKey, Stops}
use Rattle.keymap.specs.Stream.{first_key, is_open, keys_of}
use Rattle.keymap.specs.declared.key.Key.{Key}
use Rattle.keymap.specs.declared.key_reader.KeyFault.{KeyFault}
use Rattle.session_events.specs.Events.{AreFiles, AreWorks, Happening, FileRead, FileRefused}
use Rattle.session_events.specs.Events.{KeyPressed}
use Rattle.session_events.specs.Events.{FolderOpened, FolderRefused, FolderChecked, CheckRefused}
use Rattle.session_state.specs.declared.stage.Stage.{Stage}
use Rattle.session_state.specs.declared.stage.Stage.TheVariants.{Idle, Over}
use Rattle.mail_base.specs.Faults.{Rose}
use Rattle.folder_letters.specs.Letters.{Mail}
use Rattle.patterns.specs.Causes.{Keeps}
use Rattle.people.specs.Judged.{PlainJudged}
use Rattle.session_events.specs.Happened.{AllMet}
use Rattle.session_events.specs.declared.event.Trace.{Trace}
use Rattle.session.specs.Calls.{KeepsGiven}
use Rattle.session.proofs.GivenLemmas.{keeps_on, keeps_same, keeps_still}
use Rattle.session.specs.Steps.{AddsCheck, AddsWorks, AreChecks, PressesKey, StaysMet}
use Rattle.mutt_run.specs.Going.{AreActs, CountsStreams, GoesToEnd, Presses, TurnsKey}
use Rattle.mutt_run.specs.declared.status.Status.{Status}
use Rattle.mutt_run.specs.declared.status.Status.TheVariants.{Done, KeysFault, OutFault}
use Rattle.mutt_run.specs.declared.status.Status.TheVariants.{NoMemory}
use Rattle.mutt_run.specs.declared.status.Status.TheVariants.{TooManyKeys}
use Rattle.mutt_run.specs.Taken.{AreFirst, Gives, IsGiven, TakesKeys, later_moments}
use Rattle.mutt_run.specs.Taken.{pressed_keys}
use Rattle.mutt_run.specs.Taken.{pressed_moments}

-- Lists of events that grow.

pub keys-append : (xs ys : List Happening)
    → pressed_keys (xs ++ ys) ≡ pressed_keys xs ++ pressed_keys ys
keys-append [] ys = refl
keys-append (KeyPressed key moment ∷ xs) ys =
    ap (λ (l : List Key). key ∷ l) (keys-append xs ys)
keys-append (_ ∷ xs) ys = keys-append xs ys

pub moments-append : (xs ys : List Happening)
    → pressed_moments (xs ++ ys) ≡ pressed_moments xs ++ pressed_moments ys
moments-append [] ys = refl
moments-append (KeyPressed key moment ∷ xs) ys =
    ap (λ (l : List ℤ). moment ∷ l) (moments-append xs ys)
moments-append (_ ∷ xs) ys = moments-append xs ys

acts-append : (xs ys : List Happening) → AreActs xs → AreActs ys → AreActs (xs ++ ys)
acts-append [] ys are more = more
acts-append (FolderOpened path kind at came marks ∷ xs) ys are more = absurd are
acts-append (FolderRefused path why marks ∷ xs) ys are more = absurd are
acts-append (_ ∷ xs) ys are more = acts-append xs ys are more

-- Files of commands are acts without keys.

pub files_acts : (files : List Happening) → AreFiles files → AreActs files
files_acts [] are = tt
files_acts (FileRead path text marks ∷ files) are = files_acts files are.1
files_acts (FileRefused path why marks ∷ files) are = files_acts files are.1
files_acts (_ ∷ files) are = absurd are.0

pub files_keyless : (files : List Happening) → AreFiles files
    → (pressed_keys files ≡ []) × (pressed_moments files ≡ [])
files_keyless [] are = (refl, refl)
files_keyless (FileRead path text marks ∷ files) are = files_keyless files are.1
files_keyless (FileRefused path why marks ∷ files) are = files_keyless files are.1
files_keyless (_ ∷ files) are = absurd are.0

-- So are files, checks and syncs that keys come to.

works_acts : (works : List Happening) → AreWorks works → AreActs works
works_acts [] are = tt
works_acts (FolderOpened path kind at came marks ∷ works) are = absurd are.0
works_acts (FolderRefused path why marks ∷ works) are = absurd are.0
works_acts (_ ∷ works) are = works_acts works are.1

works_keyless : (works : List Happening) → AreWorks works
    → (pressed_keys works ≡ []) × (pressed_moments works ≡ [])
works_keyless [] are = (refl, refl)
works_keyless (KeyPressed key moment ∷ works) are = absurd are.0
works_keyless (_ ∷ works) are = works_keyless works are.1

-- Checks are acts without keys.

checks_acts : (checks : List Happening) → AreChecks checks → AreActs checks
checks_acts [] are = tt
checks_acts (FolderChecked moment found marks ∷ checks) are = checks_acts checks are.1
checks_acts (CheckRefused moment why marks ∷ checks) are = checks_acts checks are.1
checks_acts (_ ∷ checks) are = absurd are.0

checks_keyless : (checks : List Happening) → AreChecks checks
    → (pressed_keys checks ≡ []) × (pressed_moments checks ≡ [])
checks_keyless [] are = (refl, refl)
checks_keyless (FolderChecked moment found marks ∷ checks) are = checks_keyless checks are.1
checks_keyless (CheckRefused moment why marks ∷ checks) are = checks_keyless checks are.1
checks_keyless (_ ∷ checks) are = absurd are.0

-- a turn has one key
turned_keys : (key : Key) (moment : ℤ) (checks works : List Happening) → AreChecks checks
    → AreWorks works
    → (pressed_keys (checks ++ KeyPressed key moment ∷ works) ≡ key ∷ [])
    × (pressed_moments (checks ++ KeyPressed key moment ∷ works) ≡ moment ∷ [])
turned_keys key moment checks works are more =
    let none = checks_keyless checks are in
    let last = works_keyless works more in (
      keys-append checks (KeyPressed key moment ∷ works)
          ∙ ap (λ (l : List Key). l ++ key ∷ pressed_keys works) none.0
          ∙ ap (λ (l : List Key). key ∷ l) last.0,
      moments-append checks (KeyPressed key moment ∷ works)
          ∙ ap (λ (l : List ℤ). l ++ moment ∷ pressed_moments works) none.1
          ∙ ap (λ (l : List ℤ). moment ∷ l) last.1,
    )

-- Streams that go on.

pub consumes_none : (a : Option (List ℕ)) → Consumes a a []
consumes_none None = tt
consumes_none (Some xs) = refl

consumes_then : (a b c : Option (List ℕ)) (x y : List ℕ) → Consumes a b x → Consumes b c y
    → Consumes a c (x ++ y)
consumes_then None b c x y h k = tt
consumes_then (Some s) None c x y h k = absurd h
consumes_then (Some s) (Some t) None x y h k = absurd k
consumes_then (Some s) (Some t) (Some u) x y h k =
    h ∙ ap (λ (l : List ℕ). x ++ l) k ∙ sym (append_assoc x y u)

pub gives_none : (a : Option (List ℤ)) → Gives a a []
gives_none None = tt
gives_none (Some ms) = refl

given_then : (a b c xs ys : List ℤ) → IsGiven a b xs → IsGiven b c ys → IsGiven a c (xs ++ ys)
given_then a b c [] ys h k = subst (λ (l : List ℤ). IsGiven l c ys) h k
given_then a b c (x ∷ xs) ys h k = (h.0, given_then (later_moments a) b c xs ys h.1 k)

pub gives_then : (a b c : Option (List ℤ)) (xs ys : List ℤ) → Gives a b xs → Gives b c ys
    → Gives a c (xs ++ ys)
gives_then None b c xs ys h k = tt
gives_then (Some s) None c xs ys h k = absurd h
gives_then (Some s) (Some t) None xs ys h k = absurd k
gives_then (Some s) (Some t) (Some u) xs ys h k = given_then s t u xs ys h k

-- Keys that go on.

pub first_none : (left : Option (List ℕ)) → AreFirst [] [] left left
first_none None = tt
first_none (Some left) = refl

first_key_more : (pressed : List Key) (key : Key) (pending pending' : List ℕ)
    (a b c : Option (List ℕ)) → AreFirst pressed pending a b
    → Begins (Some key) pending b pending' c
    → AreFirst (pressed ++ key ∷ []) pending' a c
first_key_more pressed key pending pending' None b c h k = tt
first_key_more pressed key pending pending' (Some all) None c h k = absurd h
first_key_more pressed key pending pending' (Some all) (Some left) None h k = absurd k
first_key_more pressed key pending pending' (Some all) (Some left) (Some left') h k =
    h ∙ ap (λ (l : List Key). pressed ++ l) k
    ∙ sym (append_assoc pressed (key ∷ []) (keys_of (pending' ++ left')))

first_end : (pressed : List Key) (pending pending' : List ℕ) (a b c : Option (List ℕ))
    → AreFirst pressed pending a b → Begins None pending b pending' c
    → AreFirst pressed pending' a c
first_end pressed pending pending' None b c h k = tt
first_end pressed pending pending' (Some all) None c h k = absurd h
first_end pressed pending pending' (Some all) (Some left) None h k = absurd k
first_end pressed pending pending' (Some all) (Some left) (Some left') h k =
    h ∙ ap (λ (l : List Key). pressed ++ l) k

first_wait : (pressed : List Key) (pending more : List ℕ) (a b c : Option (List ℕ))
    → AreFirst pressed pending a b → Consumes b c more → AreFirst pressed (pending ++ more) a c
first_wait pressed pending more None b c h k = tt
first_wait pressed pending more (Some all) None c h k = absurd h
first_wait pressed pending more (Some all) (Some left) None h k = absurd k
first_wait pressed pending more (Some all) (Some left) (Some left') h k =
    h ∙ ap (λ (l : List ℕ). pressed ++ keys_of (pending ++ l)) k
    ∙ ap (λ (l : List ℕ). pressed ++ keys_of l) (sym (append_assoc pending more left'))

pub presses_none : (events : List Happening) (keys : Option (List ℕ)) (clock : Option (List ℤ))
    → Presses events events (record { pending = []; taken = 0 }) keys keys clock clock
presses_none events keys clock = record {
  more = [];
  are_acts = tt;
  events_are = sym (append-nil events);
  takes = record {
    bytes = [];
    taken = consumes_none keys;
    counted = refl;
    few = omega arith;
    waiting = omega arith;
    keys = first_none keys;
  };
  given = gives_none clock;
}

module _ (first now : List Happening) (old : PlainReader) (keys0 keys1 keys2 : Option (List ℕ))
    (clock0 clock1 : Option (List ℤ)) (presses : Presses first now old keys0 keys1 clock0 clock1)
    (new : PlainReader) (short : length new.pending ≤ 3) where
  -- a key was given and is pressed
  pub presses_key : (key : Key) (moment : ℤ) (clock2 : Option (List ℤ)) (later : List Happening)
      → GivesKey (Some key) old new keys1 keys2 → Gives clock1 clock2 (moment ∷ [])
      → TurnsKey key moment now later
      → Presses first later new keys0 keys2 clock0 clock2
  presses_key key moment clock2 later gives tick is =
      let more : List Happening = is.checks ++ KeyPressed key moment ∷ is.works in
      let none = turned_keys key moment is.checks is.works is.are_checks is.are in
      record {
        more = presses.more ++ more;
        are_acts = acts-append presses.more more presses.are_acts
            (acts-append is.checks (KeyPressed key moment ∷ is.works)
            (checks_acts is.checks is.are_checks) (works_acts is.works is.are));
        events_are = is.pressed ∙ ap (λ (l : List Happening). l ++ more) presses.events_are
            ∙ append_assoc first presses.more more;
        takes = record {
          bytes = presses.takes.bytes ++ gives.more;
          taken = consumes_then keys0 keys1 keys2 presses.takes.bytes gives.more
              presses.takes.taken gives.takes.taken;
          counted = omega (
            arith,
            presses.takes.counted,
            gives.takes.counted,
            length-append presses.takes.bytes gives.more,
          );
          few = gives.takes.within;
          waiting = short;
          keys = subst (λ (l : List Key). AreFirst l new.pending keys0 keys2)
              (sym (keys-append presses.more more
              ∙ ap (λ (l : List Key). pressed_keys presses.more ++ l) none.0))
              (first_key_more (pressed_keys presses.more) key old.pending new.pending keys0 keys1
              keys2 presses.takes.keys gives.begins);
        };
        given = subst (λ (l : List ℤ). Gives clock0 clock2 l)
            (sym (moments-append presses.more more
            ∙ ap (λ (l : List ℤ). pressed_moments presses.more ++ l) none.1))
            (gives_then clock0 clock1 clock2 (pressed_moments presses.more) (moment ∷ [])
            presses.given tick);
      }

  module _ (same : List Happening) (same_is : same ≡ now) where
    -- the keys are at their end
    pub presses_end : GivesKey None old new keys1 keys2
        → Presses first same new keys0 keys2 clock0 clock1
    presses_end gives = record {
      more = presses.more;
      are_acts = presses.are_acts;
      events_are = same_is ∙ presses.events_are;
      takes = record {
        bytes = presses.takes.bytes ++ gives.more;
        taken = consumes_then keys0 keys1 keys2 presses.takes.bytes gives.more presses.takes.taken
            gives.takes.taken;
        counted = omega (
          arith,
          presses.takes.counted,
          gives.takes.counted,
          length-append presses.takes.bytes gives.more,
        );
        few = gives.takes.within;
        waiting = short;
        keys = first_end (pressed_keys presses.more) old.pending new.pending keys0 keys1 keys2
            presses.takes.keys gives.begins;
      };
      given = presses.given;
    }

    -- no key was given
    pub presses_stop : (fault : KeyFault) → Stops fault old new keys1 keys2
        → Presses first same new keys0 keys2 clock0 clock1
    presses_stop fault stops = record {
      more = presses.more;
      are_acts = presses.are_acts;
      events_are = same_is ∙ presses.events_are;
      takes = record {
        bytes = presses.takes.bytes ++ stops.more;
        taken = consumes_then keys0 keys1 keys2 presses.takes.bytes stops.more presses.takes.taken
            stops.takes.taken;
        counted = omega (
          arith,
          presses.takes.counted,
          stops.takes.counted,
          length-append presses.takes.bytes stops.more,
        );
        few = stops.takes.within;
        waiting = short;
        keys = subst (λ (l : List ℕ). AreFirst (pressed_keys presses.more) l keys0 keys2)
            (sym stops.pending)
            (first_wait (pressed_keys presses.more) old.pending stops.more keys0 keys1 keys2
            presses.takes.keys stops.takes.taken);
      };
      given = presses.given;
    }

-- nothing was taken meanwhile
pub presses_same : (first now same : List Happening) (reader : PlainReader)
    (keys0 keys1 : Option (List ℕ)) (clock0 clock1 : Option (List ℤ))
    → Presses first now reader keys0 keys1 clock0 clock1 → same ≡ now
    → Presses first same reader keys0 keys1 clock0 clock1
presses_same first now same reader keys0 keys1 clock0 clock1 presses is =
    subst (λ (l : List Happening). Presses first l reader keys0 keys1 clock0 clock1) (sym is)
    presses

-- at the end of the keys nothing waits
pub ended_keys : (old new : PlainReader) (left left' : Option (List ℕ))
    → GivesKey None old new left left'
    → (new.pending ≡ []) × IsAtEnd left' × (new.taken < most_bytes)
ended_keys old new left left' gives =
    let ended = gives.ended (ap is_open gives.first.0) in (gives.first.1, ended.0, ended.1)

-- How the keys end.

pub presses_new : (events : List Happening) (reader : PlainReader) (keys : Option (List ℕ))
    (clock : Option (List ℤ)) → reader ≡ record { pending = []; taken = 0 }
    → Presses events events reader keys keys clock clock
presses_new events reader keys clock is =
    subst (λ (r : PlainReader). Presses events events r keys keys clock clock) (sym is)
    (presses_none events keys clock)

module _ (first same : List Happening) (reader : PlainReader) (keys0 keys1 : Option (List ℕ))
    (clock0 clock1 : Option (List ℤ)) (presses : Presses first same reader keys0 keys1 clock0
    clock1)
    (stage : Stage) where
  -- a stream failed, or memory ran out
  pub ends_broken : (status : Status) → (status ≡ OutFault) ⊎ (status ≡ NoMemory)
      → GoesToEnd status first same stage keys0 keys1 clock0 clock1
  ends_broken status (inl is) =
      subst (λ (st : Status). GoesToEnd st first same stage keys0 keys1 clock0 clock1) (sym is)
      (record { reader = reader; presses = presses; ends = tt })
  ends_broken status (inr is) =
      subst (λ (st : Status). GoesToEnd st first same stage keys0 keys1 clock0 clock1) (sym is)
      (record { reader = reader; presses = presses; ends = tt })

  pub ends_over : stage ≡ Over → GoesToEnd Done first same stage keys0 keys1 clock0 clock1
  ends_over over = record { reader = reader; presses = presses; ends = inl over }

  pub ends_done : stage ≡ Idle → (reader.pending ≡ []) × IsAtEnd keys1 × (reader.taken < most_bytes)
      → GoesToEnd Done first same stage keys0 keys1 clock0 clock1
  ends_done idle ended = record {
    reader = reader;
    presses = presses;
    ends = inr (idle, ended.0, ended.1, ended.2);
  }

  pub ends_fault : stage ≡ Idle → (is_open reader.pending ≡ true) × (reader.taken < most_bytes)
      → GoesToEnd KeysFault first same stage keys0 keys1 clock0 clock1
  ends_fault idle cause =
      record { reader = reader; presses = presses; ends = (idle, cause.0, cause.1) }

  pub ends_limit : stage ≡ Idle → (is_open reader.pending ≡ true) × (reader.taken ≡ most_bytes)
      → GoesToEnd TooManyKeys first same stage keys0 keys1 clock0 clock1
  ends_limit idle cause =
      record { reader = reader; presses = presses; ends = (idle, cause.0, cause.1) }

-- each key took a byte
pub counted_key : (key : Key) (old new : PlainReader) (left left' : Option (List ℕ)) (turns : ℕ)
    → GivesKey (Some key) old new left left' → turns + length old.pending ≤ old.taken
    → turns + 1 + length new.pending ≤ new.taken
counted_key key old new left left' turns gives count =
    let all : List ℕ = old.pending ++ gives.more in
    omega (
      arith,
      count,
      gives.takes.counted,
      length-append old.pending gives.more,
      gives.first.0,
      ap length gives.first.2,
      length-drop (first_key all).more (drop 1 all),
      length-drop 1 all,
    )

nothing_in : (bytes : List ℕ) → length bytes ≤ 0 → bytes ≡ []
nothing_in [] low = refl
nothing_in (b ∷ bytes) low = absurd (omega (arith, low))

-- as many keys were pressed as bytes may be taken
pub full_reader : (reader : PlainReader) → most_bytes + length reader.pending ≤ reader.taken
    → reader.taken ≤ most_bytes → (is_open reader.pending ≡ true) × (reader.taken ≡ most_bytes)
full_reader reader many few =
    (ap is_open (nothing_in reader.pending (omega (arith, many, few))), omega (arith, many, few))

pub pressed_on : (now mid later : List Happening) (key : Key) (moment given : ℤ) → mid ≡ now
    → given ≡ moment → TurnsKey key given mid later → TurnsKey key moment now later
pressed_on now mid later key moment given same is press =
    subst (λ (l : List Happening). TurnsKey key moment l later) same
    (subst (λ (m : ℤ). TurnsKey key m mid later) is press)

-- a key behind a check
pub turns_key : (key : Key) (moment given : ℤ) (now mid later : List Happening) → given ≡ moment
    → AddsCheck now mid → PressesKey key given mid later → TurnsKey key moment now later
turns_key key moment given now mid later same adds press = record {
  checks = adds.checks;
  are_checks = adds.are;
  works = press.works;
  are = press.are;
  pressed = press.pressed
      ∙ ap (λ (m : ℤ). mid ++ KeyPressed key m ∷ press.works) same
      ∙ ap (λ (l : List Happening). l ++ KeyPressed key moment ∷ press.works) adds.added
      ∙ append_assoc now adds.checks (KeyPressed key moment ∷ press.works);
}

-- what keys come to that commands have put
pub presses_works : (now later : List Happening) (keys : Option (List ℕ))
    (clock : Option (List ℤ)) → AddsWorks now later
    → Presses now later (record { pending = []; taken = 0 }) keys keys clock clock
presses_works now later keys clock adds =
    let none = works_keyless adds.works adds.are in record {
      more = adds.works;
      are_acts = works_acts adds.works adds.are;
      events_are = adds.added;
      takes = subst (λ (l : List Key). TakesKeys l (record { pending = []; taken = 0 }) keys keys)
          (sym none.0) (record {
            bytes = [];
            taken = consumes_none keys;
            counted = refl;
            few = omega arith;
            waiting = omega arith;
            keys = first_none keys;
          });
      given = subst (λ (l : List ℤ). Gives clock clock l) (sym none.1) (gives_none clock);
    }

-- and keys behind them
pub ends_works : (now mid later : List Happening) (status : Status) (stage : Stage)
    (keys keys' : Option (List ℕ)) (clock clock' : Option (List ℤ)) → AddsWorks now mid
    → GoesToEnd status mid later stage keys keys' clock clock'
    → GoesToEnd status now later stage keys keys' clock clock'
ends_works now mid later status stage keys keys' clock clock' adds goes =
    let none = works_keyless adds.works adds.are in record {
      reader = goes.reader;
      presses = record {
        more = adds.works ++ goes.presses.more;
        are_acts = acts-append adds.works goes.presses.more (works_acts adds.works adds.are)
            goes.presses.are_acts;
        events_are = goes.presses.events_are
            ∙ ap (λ (l : List Happening). l ++ goes.presses.more) adds.added
            ∙ append_assoc now adds.works goes.presses.more;
        takes = subst (λ (l : List Key). TakesKeys l goes.reader keys keys')
            (sym (keys-append adds.works goes.presses.more
            ∙ ap (λ (l : List Key). l ++ pressed_keys goes.presses.more) none.0))
            goes.presses.takes;
        given = subst (λ (l : List ℤ). Gives clock clock' l)
            (sym (moments-append adds.works goes.presses.more
            ∙ ap (λ (l : List ℤ). l ++ pressed_moments goes.presses.more) none.1))
            goes.presses.given;
      };
      ends = goes.ends;
    }

-- Faults.

rose_before : (out mid next : ℕ) → out ≤ mid → Rose mid next → Rose out next
rose_before out mid next before rose =
    elim rose [ inl h ↦ inl (omega (arith, before, h)) | inr h ↦ inr h ]

not_keys : (status : Status) → (status ≡ OutFault) ⊎ (status ≡ NoMemory) → status ≡ KeysFault → ⊥
not_keys status which is = elim which [ inl h ↦ absurd (cc) | inr h ↦ absurd (cc) ]

-- a fault of a screen or of a line is answered where it was counted
pub counts_turned : (status : Status) (keys keys' out mid next errs mid' next' : ℕ)
    → (status ≡ OutFault) ⊎ (status ≡ NoMemory)
    → (status ≡ OutFault → Rose mid next ⊎ Rose mid' next')
    → out ≤ mid → errs ≤ mid' → mid' ≤ next'
    → CountsStreams status keys keys' out next errs next'
counts_turned status keys keys' out mid next errs mid' next' which cause low low' high' = record {
  keys = λ is. absurd (not_keys status which is);
  out = λ is. elim (cause is) [
    | inl h ↦ inl (rose_before out mid next low h)
    | inr h ↦ inr (rose_before errs mid' next' low' h)
  ];
  later = omega (arith, low', high');
}

-- what was counted from a later count on was counted
pub counts_from : {status : Status} {keys keys' out mid next errs mid' next' : ℕ}
    → out ≤ mid → errs ≤ mid' → CountsStreams status keys keys' mid next mid' next'
    → CountsStreams status keys keys' out next errs next'
counts_from {status} {keys} {keys'} {out} {mid} {next} {errs} {mid'} {next'} low low' counts =
    record {
      keys = counts.keys;
      out = λ is. elim (counts.out is) [
        | inl h ↦ inl (rose_before out mid next low h)
        | inr h ↦ inr (rose_before errs mid' next' low' h)
      ];
      later = omega (arith, low', counts.later);
    }

-- Letters that were met.

pub stays_same : (mails : List Mail) (now later : List Happening) → later ≡ now
    → StaysMet mails now mails later
stays_same mails now later same all = subst (AllMet (length mails) 0) (sym same) all

-- What was given behind a trace that grew by events alone was given before it.
pub keeps_over : {X : Type 0} {Is : X → Type 0} {was then mid now : Trace X Is}
    → KeepsGiven mid now → KeepsGiven was then → mid.archive ≡ then.archive
    → mid.verdicts.kept ≡ then.verdicts.kept → KeepsGiven was now
keeps_over {X} {Is} {was} {then} {mid} {now} next first archive verdicts =
    keeps_on (keeps_on first (keeps_still then mid archive
    (subst (λ (l : List PlainJudged). Keeps then.verdicts.kept l) (sym verdicts)
    (keeps_same then.verdicts.kept)))) next
