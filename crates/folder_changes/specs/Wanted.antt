-- What becomes of the messages of a folder where some of them are to change.
use Rattle.std.specs.Prelude.{ℕ, List, [], ◌∷◌, Option, Some, None, if◌then◌else◌}
use Rattle.std.specs.List.{flat_map}
use Rattle.std.specs.Str.{bytes_eq}
use Rattle.mail_base.specs.Flags.{applied, stored}
use Rattle.mail_base.specs.declared.kind.Kind.{Kind}
use Rattle.index_items.specs.Changes.{PlainChange, Alters, Discards}
use Rattle.folder_core.specs.Message.{Message}

-- a message with other flags: those that it had, with a change, as the kind of folder can hold them
abbrev pub altered : Kind → PlainChange → Message → List Message
altered kind (Alters added cleared) message =
    record message { flags = stored kind (applied message.flags added cleared) } ∷ []
altered kind Discards message = []

-- what becomes of a message of which this is wanted, if anything
abbrev pub changed : Kind → Option PlainChange → Message → List Message
changed kind None message = message ∷ []
changed kind (Some change) message = altered kind change message

-- the messages behind what is wanted of them, which is said by their keys
abbrev pub wanted : Kind → (List ℕ → Option PlainChange) → List Message → List Message
wanted kind what messages = flat_map (λ message. changed kind (what message.key) message) messages

-- a change of the message with one key, and of no other
abbrev pub change_at : List ℕ → PlainChange → List ℕ → Option PlainChange
change_at key change other = if bytes_eq other key then Some change else None
