use Rattle.std.proofs.Common.{◌∙◌, ap, map, option_map, subst, sym}
use Rattle.session_state.specs.Beginning.{first_frames}
use Rattle.session.specs.Core.{CoreState, IsEmpty, first_core}
use Rattle.session.specs.Starting.{plain_setup, state_over}
use Rattle.session.proofs.session_type.Session.first.Goals as goal

pub returns-clause-state : goal.returns-clause-state
returns-clause-state c =
    let setup = c.args.setup in
    let core = c.in_ok-core.ensures.core
    ∙ ap (first_core setup.read_only) (c.in_ok-frames.ensures
    ∙ ap (λ texts. first_frames (option_map (λ path. path.items) setup.rc)
    (map (λ text. text.items) texts) setup.kind) c.as_slice-commands.ensures) in
    λ notes none. c.over.ensures.state notes none
    ∙ ap (λ (core : CoreState). state_over (plain_setup setup) core c.args.moment.0) core

pub returns-clause-empty : goal.returns-clause-empty
returns-clause-empty c = subst IsEmpty (sym c.over.ensures.view) c.in_ok-core.ensures.empty
