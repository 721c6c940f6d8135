-- The state that a run starts from, by the words of a command line.
use Rattle.std.specs.Prelude.{ℕ, ℤ, Bool, false, List, [], Option, option_map}
use Rattle.mail_base.specs.Series.{plain_texts}
use Rattle.mail_base.specs.declared.kind.Kind.{Kind}
use Rattle.mail_base.specs.declared.kind.Kind.TheVariants.{Mbox}
use Rattle.session_state.specs.Beginning.{first_frames}
use Rattle.session_state.specs.declared.stage.Stage.TheVariants.{Unopened}
use Rattle.session_screen.specs.declared.window.Window.{Window}
use Rattle.session_events.specs.declared.setup.Setup.{Setup}
use Rattle.session.specs.Core.{CoreState, first_core}
use Rattle.session.specs.Runs.{State}

-- what a session starts from, of what the words of a command line say
pub record PlainSetup : Type 0 where
  pub path : Option (List ℕ)
  pub rc : Option (List ℕ)
  pub commands : List (List ℕ)
  pub kind : Option Kind
  pub read_only : Bool
  pub window : Window
  pub owner : List ℕ

-- what the words have chosen, as contracts see it
abbrev pub plain_setup : Setup → PlainSetup
plain_setup setup = record {
  path = option_map (λ path. path.items) setup.path;
  rc = option_map (λ path. path.items) setup.rc;
  commands = plain_texts setup.commands;
  kind = setup.kind;
  read_only = setup.read_only;
  window = record { rows = setup.rows; cols = setup.cols; offset = setup.offset };
  owner = setup.owner.items;
}

-- at this moment, over this core
abbrev pub state_over : PlainSetup → CoreState → ℤ → State
state_over setup core moment = record {
  turn = record { core = core; queue = []; replaced = 0; stage = Unopened };
  notes = [];
  window = setup.window;
  folder = record { path = []; kind = Mbox };
  listing = [];
  forgot = false;
  refused = false;
  met = 0;
  checked = moment;
  moment = moment;
  named = setup.path;
  owner = setup.owner;
}

-- at this moment
abbrev pub first_state : PlainSetup → ℤ → State
first_state setup moment = state_over setup
    (first_core setup.read_only (first_frames setup.rc setup.commands setup.kind)) moment
