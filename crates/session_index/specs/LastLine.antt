-- The last line of a screen.
use Rattle.std.specs.Prelude.{ℕ, List, Option, None, Some}
use Rattle.expando.specs.Cut.{cut}
use Rattle.prompts.specs.Prompts.{PlainPrompt, shown}
use Rattle.session_index.specs.Desk.{PlainDesk}

-- the prompt that stands, or the message
abbrev pub last_text : Option PlainPrompt → List ℕ → List ℕ
last_text None message = message
last_text (Some prompt) message = shown prompt

-- the last line in so many columns
abbrev pub last_line : ℕ → PlainDesk → List ℕ
last_line cols d = cut cols (last_text d.prompt d.message)
