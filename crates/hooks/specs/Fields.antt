-- For the code alone: a hook for folders as it is kept.
use Rattle.hooks.specs.Hooks.{PlainFolderHook, folder_hook, plain_command}
use Rattle.hooks.specs.declared.hooks.FolderHook.{FolderHook}

-- a hook for folders as contracts see it
abbrev pub plain_folder_hook : FolderHook → PlainFolderHook
plain_folder_hook h = folder_hook h.negated h.expr (plain_command h.command)
