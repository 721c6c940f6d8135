-- Hooks of folders, of messages that are shown, and of messages that are saved.
use Rattle.std.specs.Prelude.{ℕ, Bool, not, List, [], ◌∷◌, ◌++◌, filter, map, if◌then◌else◌}
use Rattle.people.specs.Expr.{finds}
use Rattle.hooks.specs.declared.command.HookCommand.{HookCommand}
use Rattle.hooks.specs.declared.command.PatternHook.{PatternHook}

-- a command, and the file and line where its hook was given
pub record PlainCommand : Type 0 where
  pub command : List ℕ
  pub file : List ℕ
  pub line : ℕ

-- a command for the folders in whose paths the expression is found, or where it is negated for
-- those in whose paths it is not
pub record PlainFolderHook : Type 0 where
  pub negated : Bool
  pub expr : List ℕ
  pub command : PlainCommand

-- a pattern, and the command or the mailbox of the messages that match it, or where it is negated
-- of those that do not
pub record PlainPatternHook : Type 0 where
  pub negated : Bool
  pub pattern : List ℕ
  pub command : List ℕ

-- all hooks, each list in the order in which they were added
pub record PlainHooks : Type 0 where
  pub folders : List PlainFolderHook
  pub messages : List PlainPatternHook
  pub saves : List PlainPatternHook

-- a command as contracts see it
abbrev pub plain_command : HookCommand → PlainCommand
plain_command c = record { command = c.command.items; file = c.file.items; line = c.line }

-- a hook for messages as contracts see it
abbrev pub plain_pattern_hook : PatternHook → PlainPatternHook
plain_pattern_hook h = record {
  negated = h.negated;
  pattern = h.pattern.items;
  command = h.command.items;
}

-- a hook for folders
abbrev pub folder_hook : Bool → List ℕ → PlainCommand → PlainFolderHook
folder_hook negated expr command =
    record { negated = negated; expr = expr; command = command }

-- a hook for messages
abbrev pub pattern_hook : Bool → List ℕ → List ℕ → PlainPatternHook
pattern_hook negated pattern command =
    record { negated = negated; pattern = pattern; command = command }

-- no hooks
abbrev pub no_hooks : PlainHooks
no_hooks = record { folders = []; messages = []; saves = [] }

-- one more hook for folders
abbrev pub with_folder : PlainFolderHook → PlainHooks → PlainHooks
with_folder hook h = record h { folders = h.folders ++ hook ∷ [] }

-- one more hook for messages that are shown
abbrev pub with_message : PlainPatternHook → PlainHooks → PlainHooks
with_message hook h = record h { messages = h.messages ++ hook ∷ [] }

-- one more hook for messages that are saved
abbrev pub with_save : PlainPatternHook → PlainHooks → PlainHooks
with_save hook h = record h { saves = h.saves ++ hook ∷ [] }

-- the hook counts for the folder at a path
abbrev pub counts : List ℕ → PlainFolderHook → Bool
counts path hook = if hook.negated then not (finds hook.expr path) else finds hook.expr path

-- the commands that count for the folder at a path, in their order
abbrev pub commands_for : List ℕ → List PlainFolderHook → List PlainCommand
commands_for path hooks = map (λ hook. hook.command) (filter (counts path) hooks)
