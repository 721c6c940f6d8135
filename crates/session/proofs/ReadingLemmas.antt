-- How a run goes on behind files of commands, and what waits to act.
use Rattle.std.proofs.Common.{◌≡◌, ℕ, ℤ, List, [], ◌∷◌, refl}
use Rattle.keymap.specs.declared.key.Key.{Key}
use Rattle.session_index.specs.Desk.{PlainDesk}
use Rattle.session_state.specs.Frames.{PlainFrame}
use Rattle.session_state.specs.Rules.{PlainRules}
use Rattle.session_state.specs.declared.stage.Stage.TheVariants.{Opening}
use Rattle.session.specs.Given.{Given}
use Rattle.session.specs.Runs.{State, acting, at_stage, begin_behind, beginning, going_on}
use Rattle.session.specs.Runs.{with_core}
use Rattle.session.specs.Showing.{resumed}

-- Behind files that keys have named.

-- a further one is to be read
pub goes_later : (given : Given) (frames : List PlainFrame) (s : State) → (frames ≡ [] → ⊥)
    → s ≡ going_on given frames s
goes_later given [] s some = absurd (some refl)
goes_later given (frame ∷ frames) s some = refl

-- none is left
pub goes_now : (given : Given) (frames : List PlainFrame) (s : State) → frames ≡ []
    → acting given (with_core (resumed given.mails s.turn.core) s) ≡ going_on given frames s
goes_now given [] s none = refl
goes_now given (frame ∷ frames) s none = absurd (cc)

-- Behind those that hooks of a folder have named.

-- a further one is to be read
pub begins_later : (given : Given) (frames : List PlainFrame) (s : State) → (frames ≡ [] → ⊥)
    → at_stage Opening s ≡ begin_behind given frames s
begins_later given [] s some = absurd (some refl)
begins_later given (frame ∷ frames) s some = refl

-- none is left
pub begins_now : (given : Given) (frames : List PlainFrame) (s : State) → frames ≡ []
    → beginning given s ≡ begin_behind given frames s
begins_now given [] s none = refl
begins_now given (frame ∷ frames) s none = absurd (cc)

-- the cursor is set, and these keys wait, of which so many were replaced, by these rules
abbrev pub with_begun : PlainDesk → List Key → ℕ → PlainRules → State → State
with_begun desk keys replaced rules s = record s {
  turn = record s.turn {
    queue = keys;
    replaced = replaced;
    core = record s.turn.core { rules = rules; desk = desk };
  };
}

-- they will act at this moment
abbrev pub waiting_at : List Key → ℕ → ℤ → State → State
waiting_at keys replaced moment s = record s {
  moment = moment;
  turn = record s.turn { queue = keys; replaced = replaced };
}
