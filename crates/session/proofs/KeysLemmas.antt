-- How keys that wait go on behind one answer of the keymap.
use Rattle.std.proofs.Common.{◌≡◌, ◌+◌, ◌-◌, ◌<◌, ◌≤◌, ◌⊎◌, ℕ, zero, suc, List, [], ◌∷◌, ◌++◌}
use Rattle.std.proofs.Common.{Option, Some, None}
use Rattle.std.proofs.Common.{length, refl, sym, ◌∙◌, ap, arith, inl, inr}
use Rattle.keymap.specs.Bindings.{Begun, Bound, Found, Replace, Run, Unbound}
use Rattle.keymap.specs.Keymap.{PlainKeymap, found_in}
use Rattle.keymap.specs.Press.{Answered, Pressed, Reached, Replaced, called, last_answer}
use Rattle.keymap.specs.Press.{next_answer, pressed}
use Rattle.keymap.specs.Press.{reached, reached_by}
use Rattle.keymap.specs.declared.function.Function.{Function}
use Rattle.keymap.specs.declared.key.Key.{Key}
use Rattle.keymap.specs.declared.menu.Menu.{Menu}
use Rattle.keymap.specs.declared.press.Press.{Press}
use Rattle.keymap.specs.declared.press.Press.TheVariants as press
use Rattle.prompts.specs.Prompts.{PlainPrompt}
use Rattle.session_index.specs.Desk.{PlainWanted}
use Rattle.session.specs.Acting.{acted, prompted}
use Rattle.session.specs.Core.{CoreState, Ground, shown_menu}
use Rattle.session.specs.Keys.{TurnState, behind, behind_prompt, drop_all, keys_by, put_or}
use Rattle.session.specs.Keys.{run_keys, stage_after, step, step_at, stopped}
use Rattle.session.specs.Keys.{with_begun, with_put}
use Rattle.session_state.specs.declared.stage.Stage.TheVariants.{Idle}

-- The begun sequence stands apart from the bindings.

reached_begun : (map : PlainKeymap) (menu : Menu) (other begun keys : List Key)
    → reached (record map { begun = other }) menu begun keys ≡ reached map menu begun keys
reached_begun map menu other begun [] = refl
reached_begun map menu other begun (key ∷ keys) =
    ap (λ (x : Reached). reached_by (called key) (found_in map menu (begun ++ key ∷ [])) keys x)
    (reached_begun map menu other (begun ++ key ∷ []) keys)

next_begun : (replaced : ℕ) (x : Reached) (f g : List Key → Pressed)
    → ((keys : List Key) → f keys ≡ g keys)
    → next_answer replaced x f ≡ next_answer replaced x g
next_begun replaced (Answered press begun waiting) f g same = refl
next_begun replaced (Replaced text waiting) f g same = same (text ++ waiting)

pressed_begun : (map : PlainKeymap) (menu : Menu) (other : List Key) (left replaced : ℕ)
    (begun keys : List Key)
    → pressed (record map { begun = other }) menu left replaced begun keys
    ≡ pressed map menu left replaced begun keys
pressed_begun map menu other zero replaced begun keys = ap (last_answer replaced)
    (reached_begun map menu other begun keys)
pressed_begun map menu other (suc left) replaced begun keys =
    ap (λ (x : Reached). next_answer replaced x
    (pressed (record map { begun = other }) menu left (replaced + 1) []))
    (reached_begun map menu other begun keys)
    ∙ next_begun replaced (reached map menu begun keys)
    (pressed (record map { begun = other }) menu left (replaced + 1) [])
    (pressed map menu left (replaced + 1) [])
    (λ more. pressed_begun map menu other left (replaced + 1) [] more)

-- Up to an answer or a replacement.

module _ (g : Ground) (replaced : ℕ) (again : List Key → CoreState → TurnState) where
  abbrev by_reached : Reached → CoreState → TurnState
  by_reached (Answered press begun keys) c =
      behind g press replaced keys (keys_by g replaced again keys) (with_begun begun c)
  by_reached (Replaced text keys) c = again (text ++ keys) (with_begun [] c)

  same_core : (x : Reached) (begun : List Key) (c : CoreState) → by_reached x (with_begun begun c)
      ≡ by_reached x c
  same_core (Answered press begun' keys) begun c = refl
  same_core (Replaced text keys) begun c = refl

  at_step : (call : Option Function) (found : Found) (keys begun : List Key) (c : CoreState)
      (further : Reached)
      → keys_by g replaced again keys (with_begun begun c) ≡ by_reached further c
      → step g replaced again keys (keys_by g replaced again keys) begun call found c
      ≡ by_reached (reached_by call found keys further) c
  at_step (Some function) found keys begun c further more = refl
  at_step None (Bound (Run function)) keys begun c further more = refl
  at_step None (Bound (Replace text)) keys begun c further more = refl
  at_step None Begun keys begun c further more = more
  at_step None Unbound keys begun c further more = refl

  -- where no keys that commands have put are left
  pub none_put : (keys : List Key) (rest : CoreState → TurnState) (c : CoreState)
      → c.rules.put ≡ [] → put_or c.rules.put again keys rest c ≡ rest c
  none_put keys rest c empty =
      ap (λ (texts : List (List Key)). put_or texts again keys rest c) empty

  reach : (keys : List Key) (c : CoreState) → c.rules.put ≡ [] → c.desk.prompt ≡ None
      → keys_by g replaced again keys c
      ≡ by_reached (reached c.rules.keymap (shown_menu c) c.rules.keymap.begun keys) c
  unfolding acted
  reach [] c empty none = none_put [] (stopped Idle replaced []) c empty
  reach (key ∷ keys) c empty none =
      let begun : List Key = c.rules.keymap.begun ++ key ∷ [] in
      none_put (key ∷ keys) (step_at g replaced again key keys (keys_by g replaced again keys)
      c.desk.prompt) c empty
      ∙ ap (λ (p : Option PlainPrompt). step_at g replaced again key keys
      (keys_by g replaced again keys) p c) none
      ∙ at_step (called key) (found_in c.rules.keymap (shown_menu c) begun) keys begun c
      (reached c.rules.keymap (shown_menu c) begun keys)
      (reach keys (with_begun begun c) empty none
      ∙ ap (λ (x : Reached). by_reached x (with_begun begun c))
      (reached_begun c.rules.keymap (shown_menu c) begun begun keys)
      ∙ same_core (reached c.rules.keymap (shown_menu c) begun keys) begun c)

-- Up to an answer.

abbrev pub by_pressed : Ground → ℕ → Pressed → CoreState → TurnState
by_pressed g most p c =
    behind g p.press p.replaced p.waiting
    (run_keys g (most - p.replaced) p.replaced p.waiting)
    (with_begun p.begun c)

module _ (g : Ground) where
  run_zero : (replaced : ℕ) (keys : List Key)
      → run_keys g zero replaced keys
      ≡ keys_by g replaced (drop_all g replaced) keys
  unfolding run_keys
  run_zero replaced keys = refl

  run_suc : (left replaced : ℕ) (keys : List Key)
      → run_keys g (suc left) replaced keys
      ≡ keys_by g replaced (run_keys g left (replaced + 1)) keys
  unfolding run_keys
  run_suc left replaced keys = refl

  answer_is : (left replaced : ℕ) (again : List Key → CoreState → TurnState)
      → ((keys : List Key) → run_keys g left replaced keys
      ≡ keys_by g replaced again keys)
      → (press : Press) (begun keys : List Key) (c : CoreState)
      → by_reached g replaced again (Answered press begun keys) c
      ≡ by_pressed g (left + replaced)
      (record { press = press; begun = begun; waiting = keys; replaced = replaced }) c
  answer_is left replaced again runs press begun keys c =
      let same : left ≡ left + replaced - replaced = omega arith in
      ap (λ (rest : CoreState → TurnState). behind g press replaced keys rest (with_begun begun c))
      (sym (runs keys) ∙ ap (λ (n : ℕ). run_keys g n replaced keys) same)

  press_last : (replaced : ℕ) (c : CoreState) (x : Reached) → c.rules.put ≡ []
      → by_reached g replaced (drop_all g replaced) x c
      ≡ by_pressed g (zero + replaced) (last_answer replaced x) c
  press_last replaced c (Answered press begun waiting) empty =
      answer_is zero replaced (drop_all g replaced) (run_zero replaced) press begun waiting c
  press_last replaced c (Replaced text waiting) empty =
      ap (λ (texts : List (List Key)). stopped Idle replaced []
      (acted g press.Loop (with_put texts (with_begun [] c)))) (sym empty)

  press_next : (left replaced : ℕ) (c : CoreState) (x : Reached)
      → ((keys : List Key) → run_keys g left (replaced + 1) keys (with_begun [] c)
      ≡ by_pressed g (left + (replaced + 1))
      (pressed (record c.rules.keymap { begun = [] }) (shown_menu c) left (replaced + 1) []
      keys)
      (with_begun [] c))
      → by_reached g replaced (run_keys g left (replaced + 1)) x c
      ≡ by_pressed g (suc left + replaced)
      (next_answer replaced x (pressed c.rules.keymap (shown_menu c) left (replaced + 1) [])) c
  press_next left replaced c (Answered press begun waiting) more =
      answer_is (suc left) replaced (run_keys g left (replaced + 1)) (run_suc left replaced)
      press begun waiting c
  press_next left replaced c (Replaced text waiting) more =
      let same : left + (replaced + 1) ≡ suc left + replaced = omega arith in
      more (text ++ waiting)
      ∙ ap (λ (p : Pressed). by_pressed g (left + (replaced + 1)) p c)
      (pressed_begun c.rules.keymap (shown_menu c) [] left (replaced + 1) [] (text ++ waiting))
      ∙ ap (λ (n : ℕ). by_pressed g n
      (pressed c.rules.keymap (shown_menu c) left (replaced + 1) [] (text ++ waiting)) c) same

  pub press_is : (left replaced : ℕ) (keys : List Key) (c : CoreState) → c.rules.put ≡ []
      → c.desk.prompt ≡ None
      → run_keys g left replaced keys c
      ≡ by_pressed g (left + replaced)
      (pressed c.rules.keymap (shown_menu c) left replaced c.rules.keymap.begun keys) c
  press_is zero replaced keys c empty none =
      ap (λ (f : CoreState → TurnState). f c) (run_zero replaced keys)
      ∙ reach g replaced (drop_all g replaced) keys c empty none
      ∙ press_last replaced c (reached c.rules.keymap (shown_menu c) c.rules.keymap.begun keys)
      empty
  press_is (suc left) replaced keys c empty none =
      ap (λ (f : CoreState → TurnState). f c) (run_suc left replaced keys)
      ∙ reach g replaced (run_keys g left (replaced + 1)) keys c empty none
      ∙ press_next left replaced c
      (reached c.rules.keymap (shown_menu c) c.rules.keymap.begun keys)
      (λ more. press_is left (replaced + 1) more (with_begun [] c) empty none)

  typed_by : (replaced : ℕ) (again : List Key → CoreState → TurnState) (key : Key)
      (keys : List Key) (o : Option PlainPrompt) (c : CoreState) → ¬ (o ≡ None)
      → step_at g replaced again key keys (keys_by g replaced again keys) o c
      ≡ behind_prompt replaced keys (keys_by g replaced again keys) (prompted g key c)
  typed_by replaced again key keys None c some = absurd (some refl)
  typed_by replaced again key keys (Some prompt) c some = refl

  prompt_takes : (replaced : ℕ) (again : List Key → CoreState → TurnState) (key : Key)
      (keys : List Key) (c : CoreState) → c.rules.put ≡ [] → ¬ (c.desk.prompt ≡ None)
      → keys_by g replaced again (key ∷ keys) c
      ≡ behind_prompt replaced keys (keys_by g replaced again keys) (prompted g key c)
  prompt_takes replaced again key keys c empty some =
      none_put g replaced again (key ∷ keys) (step_at g replaced again key keys
      (keys_by g replaced again keys) c.desk.prompt) c empty
      ∙ typed_by replaced again key keys c.desk.prompt c some

  -- a prompt that stands takes the first key
  pub type_is : (left replaced : ℕ) (key : Key) (keys : List Key) (c : CoreState)
      → c.rules.put ≡ [] → ¬ (c.desk.prompt ≡ None)
      → run_keys g left replaced (key ∷ keys) c
      ≡ behind_prompt replaced keys (run_keys g left replaced keys) (prompted g key c)
  unfolding run_keys
  type_is zero replaced key keys c empty some =
      prompt_takes replaced (drop_all g replaced) key keys c empty some
  type_is (suc left) replaced key keys c empty some =
      prompt_takes replaced (run_keys g left (replaced + 1)) key keys c empty some

  -- keys that a command has put stand first

  put_by : (replaced : ℕ) (again : List Key → CoreState → TurnState) (text : List Key)
      (texts : List (List Key)) (keys : List Key) (c : CoreState) → c.rules.put ≡ text ∷ texts
      → keys_by g replaced again keys c ≡ again (text ++ keys) (with_put texts c)
  put_by replaced again text texts [] c is =
      ap (λ (puts : List (List Key)). put_or puts again [] (stopped Idle replaced []) c) is
  put_by replaced again text texts (key ∷ keys) c is =
      ap (λ (puts : List (List Key)). put_or puts again (key ∷ keys)
      (step_at g replaced again key keys (keys_by g replaced again keys) c.desk.prompt) c) is

  pub put_is : (left replaced : ℕ) (text : List Key) (texts : List (List Key)) (keys : List Key)
      (c : CoreState) → c.rules.put ≡ text ∷ texts
      → run_keys g left (replaced + 1) (text ++ keys) (with_put texts c)
      ≡ run_keys g (suc left) replaced keys c
  unfolding run_keys
  put_is left replaced text texts keys c is =
      sym (put_by replaced (run_keys g left (replaced + 1)) text texts keys c is)

  -- they are one replacement too many
  pub put_drops : (replaced : ℕ) (text : List Key) (texts : List (List Key)) (keys : List Key)
      (c : CoreState) → c.rules.put ≡ text ∷ texts
      → run_keys g zero replaced keys c
      ≡ stopped Idle replaced [] (acted g press.Loop (with_put [] c))
  unfolding run_keys
  put_drops replaced text texts keys c is =
      put_by replaced (drop_all g replaced) text texts keys c is

  -- no key is left
  pub none_left : (left replaced : ℕ) (c : CoreState) → c.rules.put ≡ []
      → run_keys g left replaced [] c ≡ stopped Idle replaced [] c
  unfolding run_keys
  none_left zero replaced c empty =
      none_put g replaced (drop_all g replaced) [] (stopped Idle replaced []) c empty
  none_left (suc left) replaced c empty =
      none_put g replaced (run_keys g left (replaced + 1)) [] (stopped Idle replaced []) c empty

-- Fewer keys wait behind an answer that does not stop them, or more replacements were made.

abbrev IsShorter : PlainWanted → ℕ → Reached → Type 0
IsShorter wanted count (Answered press begun waiting) = stage_after press wanted ≡ None
    → length waiting < count
IsShorter wanted count (Replaced text waiting) = Unit {0}

shorter_more : (wanted : PlainWanted) (count : ℕ) (x : Reached) → IsShorter wanted count x
    → IsShorter wanted (suc count) x
shorter_more wanted count (Answered press begun waiting) h = λ goes. omega (arith, h goes)
shorter_more wanted count (Replaced text waiting) h = tt

shorter_step : (wanted : PlainWanted) (call : Option Function) (found : Found) (keys : List Key)
    (further : Reached)
    → IsShorter wanted (length keys) further
    → IsShorter wanted (suc (length keys)) (reached_by call found keys further)
shorter_step wanted (Some function) found keys further h = λ goes. omega arith
shorter_step wanted None (Bound (Run function)) keys further h = λ goes. omega arith
shorter_step wanted None (Bound (Replace text)) keys further h = tt
shorter_step wanted None Begun keys further h = shorter_more wanted (length keys) further h
shorter_step wanted None Unbound keys further h = λ goes. omega arith

shorter : (wanted : PlainWanted) (map : PlainKeymap) (menu : Menu) (begun keys : List Key)
    → IsShorter wanted (length keys) (reached map menu begun keys)
shorter wanted map menu begun [] = λ goes. absurd (cc)
shorter wanted map menu begun (key ∷ keys) =
    shorter_step wanted (called key) (found_in map menu (begun ++ key ∷ [])) keys
    (reached map menu (begun ++ key ∷ []) keys) (shorter wanted map menu (begun ++ key ∷ []) keys)

-- behind this answer less is to be done than before it
pub record IsLess (wanted : PlainWanted) (left replaced : ℕ) (keys : List Key) (p : Pressed) : Type
    0
  where
    pub within : p.replaced ≤ left + replaced
    pub less : stage_after p.press wanted ≡ None
        → ((p.replaced ≡ replaced) × (length p.waiting < length keys)) ⊎ (replaced < p.replaced)

less_answer : (wanted : PlainWanted) (left replaced : ℕ) (keys begun waiting : List Key)
    (press : Press)
    → IsShorter wanted (length keys) (Answered press begun waiting)
    → IsLess wanted left replaced keys
    (record { press = press; begun = begun; waiting = waiting; replaced = replaced })
less_answer wanted left replaced keys begun waiting press h = record {
  within = omega arith;
  less = λ goes. inl (refl, h goes);
}

less_more : (wanted : PlainWanted) (left replaced : ℕ) (keys more : List Key) (p : Pressed)
    → IsLess wanted left (replaced + 1) more p → IsLess wanted (suc left) replaced keys p
less_more wanted left replaced keys more p h = record {
  within = omega (arith, h.within);
  less = λ goes. inr (elim (h.less goes) [ inl e ↦ omega (arith, e.0) | inr e ↦ omega (arith, e) ]);
}

less_last : (wanted : PlainWanted) (replaced : ℕ) (keys : List Key) (x : Reached)
    → IsShorter wanted (length keys) x
    → IsLess wanted zero replaced keys (last_answer replaced x)
less_last wanted replaced keys (Answered press begun waiting) h =
    less_answer wanted zero replaced keys begun waiting press h
less_last wanted replaced keys (Replaced text waiting) h =
    record { within = omega arith; less = λ goes. absurd (cc) }

less_next : (wanted : PlainWanted) (left replaced : ℕ) (keys : List Key) (x : Reached)
    (f : List Key → Pressed)
    → IsShorter wanted (length keys) x
    → ((more : List Key) → IsLess wanted left (replaced + 1) more (f more))
    → IsLess wanted (suc left) replaced keys (next_answer replaced x f)
less_next wanted left replaced keys (Answered press begun waiting) f h less =
    less_answer wanted (suc left) replaced keys begun waiting press h
less_next wanted left replaced keys (Replaced text waiting) f h less =
    less_more wanted left replaced keys (text ++ waiting) (f (text ++ waiting))
    (less (text ++ waiting))

pub less_is : (wanted : PlainWanted) (map : PlainKeymap) (menu : Menu) (left replaced : ℕ)
    (begun keys : List Key)
    → IsLess wanted left replaced keys (pressed map menu left replaced begun keys)
less_is wanted map menu zero replaced begun keys =
    less_last wanted replaced keys (reached map menu begun keys)
    (shorter wanted map menu begun keys)
less_is wanted map menu (suc left) replaced begun keys =
    less_next wanted left replaced keys (reached map menu begun keys)
    (pressed map menu left (replaced + 1) [])
    (shorter wanted map menu begun keys)
    (λ more. less_is wanted map menu left (replaced + 1) [] more)
