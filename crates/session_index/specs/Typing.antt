-- Keys that are typed at a prompt.
use Rattle.std.specs.Prelude.{Option, None, Some, false}
use Rattle.keymap.specs.declared.key.Key.{Key}
use Rattle.session_index.specs.Desk.{PlainDesk, ToAnswer, ToChoose}
use Rattle.prompts.specs.Prompts.{PlainPrompt, reply_to, text_of, typed_with}
use Rattle.prompts.specs.declared.reply.Reply.{Reply}
use Rattle.prompts.specs.declared.reply.Reply.TheVariants.{More, GivenUp, Answered, Chosen}

-- what a prompt says to a key
abbrev pub replied : PlainPrompt → Reply → PlainDesk → PlainDesk
replied p More d = record d { prompt = Some p }
replied p GivenUp d = record d { prompt = None; prefix = false }
replied p Answered d = record d { prompt = None; wanted = ToAnswer p.asking (text_of p) }
replied p (Chosen choice) d = record d { prompt = None; wanted = ToChoose p.asking choice }

-- a key at a prompt, if one stands
abbrev pub typed_at : Option PlainPrompt → Key → PlainDesk → PlainDesk
typed_at None key d = d
typed_at (Some p) key d =
    replied (record p { typed = typed_with p key }) (reply_to p.asking key) d

-- a key is typed; it does nothing where no prompt stands
abbrev pub typed : Key → PlainDesk → PlainDesk
typed key d = typed_at d.prompt key d
