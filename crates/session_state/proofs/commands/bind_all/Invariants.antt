use Rattle.std.proofs.Common.{◌≡◌, drop}
use Rattle.keymap.specs.Bindings.{Run}
use Rattle.session_state.specs.Commands.{bound_all}
use Rattle.session_state.proofs.commands.bind_all.Given as goal

abbrev pub invariant-loop-menu : goal.invariant-loop-menu
invariant-loop-menu l =
    bound_all (drop l.menu-index l.request.menus.items) l.request.keys.items
    (Run l.request.function) l.keymap
    ≡ bound_all l.request.menus.items l.request.keys.items (Run l.request.function) l.initial.keymap
