-- How the loop over keys that wait goes on behind one press.
use Rattle.std.proofs.Common.{◌≡◌, ◌+◌, ◌-◌, ◌*◌, ◌^◌, ◌<◌, ◌≤◌, ℕ, zero, suc, List, [], ◌∷◌, ◌++◌}
use Rattle.std.proofs.Common.{Bool, Option, Some, None, true, false, length, nat_lt}
use Rattle.std.proofs.Common.{refl, sym, ◌∙◌, ap, subst, arith, inl, inr}
use Rattle.std.proofs.lemmas.Bool.Decides.{nat_tests}
use Rattle.std.proofs.lemmas.Option.{none-some}
use Rattle.keymap.specs.Press.{Pressed, pressed_queue}
use Rattle.keymap.specs.Queue.{PlainQueue}
use Rattle.keymap.specs.declared.key.Key.{Key}
use Rattle.keymap.specs.declared.menu.Menu.{Menu}
use Rattle.keymap.specs.declared.press.Press.{Press}
use Rattle.session_index.specs.Desk.{PlainWanted}
use Rattle.session_state.specs.Commands.{IsPressed}
use Rattle.session_state.specs.Rules.{PlainRules}
use Rattle.session.specs.Acting.{acted, prompted}
use Rattle.session.specs.Answers.{granted}
use Rattle.index_functions.specs.declared.notice.Notice.TheVariants.{MacroLoop}
use Rattle.session.specs.Core.{CoreState, Ground, said, shown_menu}
use Rattle.session.specs.Keys.{Steps, Stops, TurnState, behind, behind_prompt, once_read}
use Rattle.session.specs.Keys.{read_first, run_keys, settled, stage_after, stage_wanted, stop_by}
use Rattle.session.specs.Keys.{stopped, turn_of, with_begun}
use Rattle.session.specs.Keys.{with_put}
use Rattle.session_state.specs.Frames.{PlainFrame}
use Rattle.session_state.specs.declared.stage.Stage.{Stage}
use Rattle.session_state.specs.declared.stage.Stage.TheVariants.{Idle, Reading}
use Rattle.session.proofs.KeysLemmas.{IsLess, by_pressed, less_is, none_left, press_is}
use Rattle.session.proofs.KeysLemmas.{put_drops, put_is, type_is}
use Rattle.std.specs.Prelude.{MatchOption, unwrap_or}

abbrev answered : Press → PlainRules → PlainQueue → Pressed
answered press rules queue =
    record {
      press = press;
      begun = rules.keymap.begun;
      waiting = queue.items;
      replaced = queue.replaced;
    }

-- What was done leads to a stage, or the keys go on.
module _ (g : Ground) (core next : CoreState) (queue queue' : PlainQueue) (at : Option Stage)
  where
    abbrev rest : CoreState → TurnState
    rest = run_keys g (1024 - queue'.replaced) queue'.replaced queue'.items

    abbrev stopped_by : Option Stage → TurnState
    stopped_by o = stop_by o queue'.replaced queue'.items
        (once_read queue'.replaced queue'.items rest) next

    -- no file is to be read
    reads_none : (frames : List PlainFrame) → frames ≡ []
        → rest next ≡ read_first frames queue'.replaced queue'.items rest next
    reads_none [] none = refl
    reads_none (frame ∷ frames) none = absurd (cc)

    -- a file is to be read
    reads_some : (frames : List PlainFrame) → ¬ (frames ≡ [])
        → stopped Reading queue'.replaced queue'.items next
        ≡ read_first frames queue'.replaced queue'.items rest next
    reads_some [] some = absurd (some refl)
    reads_some (frame ∷ frames) some = refl

    module _ (settled_is : settled g core queue ≡ stopped_by at) where
      -- the keys go on, or wait for a file
      goes_on : (o : Option Stage) (last : CoreState)
          → MatchOption o ((last ≡ next) × (next.frames ≡ []))
          (λ stage. (stage ≡ Reading) × (¬ (next.frames ≡ [])) × (last ≡ granted next))
          → at ≡ None → Steps o g core last queue queue'
      goes_on None last h is =
          ap (λ (c : CoreState). settled g c queue') h.0 ∙ reads_none next.frames h.1
          ∙ sym (settled_is ∙ ap stopped_by is)
      goes_on (Some stage) last h is =
          ap (λ (t : Stage). turn_of t last queue') h.0
          ∙ ap (λ (c : CoreState). turn_of Reading c queue') h.2 ∙ reads_some next.frames h.1
          ∙ sym (settled_is ∙ ap stopped_by is)

      -- the keys stop
      stops_at : (stage : Stage) (o : Option Stage) (last : CoreState) → o ≡ Some stage
          → last ≡ granted next → at ≡ Some stage → Steps o g core last queue queue'
      stops_at stage None last none grants is = absurd (cc)
      stops_at stage (Some other) last there grants is =
          let same : other ≡ stage = ap (λ (o : Option Stage). unwrap_or o other) there in
          ap (λ (t : Stage). turn_of t last queue') same
          ∙ ap (λ (c : CoreState). turn_of stage c queue') grants
          ∙ sym (settled_is ∙ ap stopped_by is)

      steps_at : (by o : Option Stage) (last : CoreState) → at ≡ by → Stops by o next last
          → Steps o g core last queue queue'
      steps_at None o last is h = goes_on o last h is
      steps_at (Some stage) o last is h = stops_at stage o last h.0 h.1 is

      -- the keys stop, or go on
      steps_by : (o : Option Stage) (last : CoreState) → Stops at o next last
          → Steps o g core last queue queue'
      steps_by o last h = steps_at at o last refl h

-- A press took the core and the queue to others.
module _ (g : Ground) (core next : CoreState) (rules : PlainRules) (queue queue' : PlainQueue)
    (menu : Menu) (press : Press) (shows : menu ≡ shown_menu core)
    (few : queue.replaced ≤ 1024) (empty : core.rules.put ≡ []) (none : core.desk.prompt ≡ None)
    (is : IsPressed menu press core.rules rules queue queue')
    (acts : next ≡ acted g press (record core { rules = rules })) where
  core_is : with_begun rules.keymap.begun core ≡ record core { rules = rules }
  core_is =
      ap (λ (r : PlainRules). let c : CoreState = record core { rules = r } in c) (sym is.same)

  abbrev further : CoreState → TurnState
  further = run_keys g (1024 - queue'.replaced) queue'.replaced queue'.items

  settled_is : settled g core queue
      ≡ stop_by (stage_after press next.desk.wanted) queue'.replaced queue'.items
      (once_read queue'.replaced queue'.items further) next
  settled_is =
      let most : 1024 - queue.replaced + queue.replaced ≡ 1024 = omega arith in
      press_is g (1024 - queue.replaced) queue.replaced queue.items core empty none
      ∙ ap (λ (n : ℕ). by_pressed g n (pressed_queue core.rules.keymap (shown_menu core) queue)
      core) most
      ∙ ap (λ (m : Menu). by_pressed g 1024 (pressed_queue core.rules.keymap m queue) core)
      (sym shows)
      ∙ ap (λ (p : Pressed). by_pressed g 1024 p core) (sym is.outcome)
      ∙ ap (λ (c : CoreState). behind g press queue'.replaced queue'.items further c) core_is
      ∙ ap (λ (c : CoreState). stop_by (stage_after press c.desk.wanted) queue'.replaced
      queue'.items (once_read queue'.replaced queue'.items further) c) (sym acts)

  -- the keys stop behind the answer, or go on
  pub steps_behind : (o : Option Stage) (last : CoreState)
      → Stops (stage_after press next.desk.wanted) o next last → Steps o g core last queue queue'
  steps_behind = steps_by g core next queue queue' (stage_after press next.desk.wanted) settled_is

-- keys that go on were not stopped
pub none_stopped : (at o : Option Stage) (next last : CoreState) → Stops at o next last → o ≡ None
    → at ≡ None
none_stopped None o next last h none = refl
none_stopped (Some stage) o next last h none =
    absurd (none-some stage (sym none ∙ h.0))

-- The prompt that stands took the first key.
module _ (g : Ground) (core next : CoreState) (queue queue' : PlainQueue) (key : Key)
    (empty : core.rules.put ≡ []) (some : ¬ (core.desk.prompt ≡ None))
    (items : queue.items ≡ key ∷ queue'.items) (replaced : queue'.replaced ≡ queue.replaced)
    (acts : next ≡ prompted g key core) where
  typed_is : settled g core queue ≡ stop_by (stage_wanted next.desk.wanted) queue'.replaced
      queue'.items (once_read queue'.replaced queue'.items (run_keys g (1024 - queue'.replaced)
      queue'.replaced queue'.items)) next
  typed_is =
      ap (λ (keys : List Key). run_keys g (1024 - queue.replaced) queue.replaced keys core) items
      ∙ type_is g (1024 - queue.replaced) queue.replaced key queue'.items core empty some
      ∙ ap (λ (n : ℕ). behind_prompt n queue'.items (run_keys g (1024 - n) n queue'.items)
      (prompted g key core)) (sym replaced)
      ∙ ap (λ (c : CoreState). behind_prompt queue'.replaced queue'.items
      (run_keys g (1024 - queue'.replaced) queue'.replaced queue'.items) c) (sym acts)

  -- the keys stop behind what it answers, or go on
  pub steps_typed : (o : Option Stage) (last : CoreState)
      → Stops (stage_wanted next.desk.wanted) o next last → Steps o g core last queue queue'
  steps_typed = steps_by g core next queue queue' (stage_wanted next.desk.wanted) typed_is

-- keys that a command has put stand first
pub put_on : (g : Ground) (core next : CoreState) (queue queue' : PlainQueue) (text : List Key)
    (texts : List (List Key)) → queue.replaced < 1024 → core.rules.put ≡ text ∷ texts
    → next ≡ with_put texts core → queue'.items ≡ text ++ queue.items
    → queue'.replaced ≡ queue.replaced + 1 → settled g next queue' ≡ settled g core queue
put_on g core next queue queue' text texts few puts is items replaced =
    let left : ℕ = 1024 - (queue.replaced + 1) in
    let more : suc left ≡ 1024 - queue.replaced = omega (arith, few) in
    ap (λ (c : CoreState). settled g c queue') is
    ∙ ap (λ (n : ℕ). run_keys g (1024 - n) n queue'.items (with_put texts core)) replaced
    ∙ ap (λ (keys : List Key). run_keys g left (queue.replaced + 1) keys (with_put texts core))
    items
    ∙ put_is g left queue.replaced text texts queue.items core puts
    ∙ ap (λ (n : ℕ). run_keys g n queue.replaced queue.items core) more

some_put : (puts : List (List Key)) → ¬ (puts ≡ [])
    → (text : List Key) × (texts : List (List Key)) × (puts ≡ text ∷ texts)
some_put [] some = absurd (some refl)
some_put (text ∷ texts) some = (text, texts, refl)

-- a replacement that was counted was not one too many
pub few_left : (counted : Bool) (n : ℕ) → counted ≡ true → (n ≡ 1024 → counted ≡ false)
    → n ≤ 1024 → n < 1024
few_left true n is full few =
    let some : ¬ (n ≡ 1024) = λ h. absurd (let t : true ≡ false = full h in cc) in
    omega (arith, few, some)
few_left false n is full few = absurd (cc)

pub same_queue : (g : Ground) (core : CoreState) (queue queue' : PlainQueue)
    → queue'.items ≡ queue.items → queue'.replaced ≡ queue.replaced
    → settled g core queue' ≡ settled g core queue
same_queue g core queue queue' items replaced =
    ap (λ (n : ℕ). run_keys g (1024 - n) n queue'.items core) replaced
    ∙ ap (λ (keys : List Key). run_keys g (1024 - queue.replaced) queue.replaced keys core) items

-- they are one replacement too many
pub put_off : (g : Ground) (core last : CoreState) (queue queue' : PlainQueue)
    → queue.replaced ≡ 1024 → ¬ (core.rules.put ≡ [])
    → last ≡ granted (said MacroLoop (with_put [] core)) → queue'.items ≡ []
    → queue'.replaced ≡ queue.replaced → turn_of Idle last queue' ≡ settled g core queue
unfolding acted
put_off g core last queue queue' full some is items replaced =
    let put = some_put core.rules.put some in
    let none : 1024 - queue.replaced ≡ zero = omega (arith, full) in
    ap (λ (c : CoreState). turn_of Idle c queue') is
    ∙ ap (λ (keys : List Key). stopped Idle queue'.replaced keys
    (said MacroLoop (with_put [] core))) items
    ∙ ap (λ (n : ℕ). stopped Idle n [] (said MacroLoop (with_put [] core))) replaced
    ∙ sym (put_drops g queue.replaced put.0 put.1 queue.items core put.2)
    ∙ sym (ap (λ (n : ℕ). run_keys g n queue.replaced queue.items core) none)

none_in : {X : Type 0} → (keys : List X) → length keys ≡ 0 → keys ≡ []
none_in [] h = refl
none_in (key ∷ keys) h = absurd (omega (arith, h))

pub none_is : (n : ℕ) → nat_lt 0 n ≡ false → n ≡ 0
none_is n h = grind (arith, nat_tests)

-- no key waits any more
pub none_waits : (g : Ground) (core last : CoreState) (queue : PlainQueue)
    → length core.rules.put + length queue.items ≡ 0
    → last ≡ granted core → turn_of Idle last queue ≡ settled g core queue
none_waits g core last queue empty grants =
    let none : queue.items ≡ [] = none_in queue.items (omega (arith, empty)) in
    let no_put : core.rules.put ≡ [] = none_in core.rules.put (omega (arith, empty)) in
    ap (λ (c : CoreState). turn_of Idle c queue) grants
    ∙ ap (λ (keys : List Key). stopped Idle queue.replaced keys core) none
    ∙ sym (ap (λ (keys : List Key). run_keys g (1024 - queue.replaced) queue.replaced keys
    core) none
    ∙ none_left g (1024 - queue.replaced) queue.replaced core no_put)

module _ (wanted : PlainWanted) (old new : PlainRules) (queue queue' : PlainQueue)
    (menu : Menu) (press : Press) (few : queue.replaced ≤ 1024)
    (is : IsPressed menu press old new queue queue') where
  less : IsLess wanted (1024 - queue.replaced) queue.replaced queue.items
      (answered press new queue')
  less = subst (λ (p : Pressed). IsLess wanted (1024 - queue.replaced) queue.replaced queue.items p)
      (sym is.outcome)
      (less_is wanted old.keymap menu (1024 - queue.replaced) queue.replaced old.keymap.begun
      queue.items)

  pub still_few : queue'.replaced ≤ 1024
  still_few = omega (arith, less.within)

  pub falls : stage_after press wanted ≡ None → length queue'.items < 2 ^ 64
      → (1024 - queue'.replaced) * 2 ^ 64 + length queue'.items < (1024 - queue.replaced) * 2 ^ 64 +
      length queue.items
  falls goes short =
      elim (less.less goes) [
        | inl e ↦ omega (arith, e.0, e.1)
        | inr e ↦ omega
            (arith, e, less.within)
      ]
