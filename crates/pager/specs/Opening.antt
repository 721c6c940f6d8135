-- Pagers of messages and of their parts.
use Rattle.std.specs.Prelude.{ℕ, List, Option, drop, option_map}
use Rattle.folder_letters.specs.Letters.{Mail}
use Rattle.message_text.specs.Message.{message_lines, part_lines}
use Rattle.message_text.specs.Rows.{attachment_lines}
use Rattle.message_text.specs.Weeding.{PlainWeeding}
use Rattle.pager.specs.Pager.{PlainPager, opened}

-- the text of a letter
abbrev pub text_of : Mail → List ℕ
text_of mail = drop mail.text_at mail.core

-- the rows of the parts of a letter
abbrev pub rows_of : Mail → List (List ℕ)
rows_of mail = attachment_lines (text_of mail)

-- a pager of a letter, with its fields weeded
abbrev pub opened_message : ℕ → PlainWeeding → Mail → PlainPager
opened_message cols weeding mail =
    opened cols (message_lines weeding (text_of mail)) (rows_of mail)

-- a pager of one part of a letter, where there is one
abbrev pub opened_part : ℕ → ℕ → Mail → Option PlainPager
opened_part cols number mail =
    option_map (λ lines. opened cols lines (rows_of mail)) (part_lines (text_of mail) number)
