-- How a draft is read from its bytes. What fails tells how many bytes are left from the first place
-- on at which nothing goes on that may stand there.
use Rattle.std.specs.Prelude.{◌≡◌, ◌==◌, ◌&&◌, ◌-◌, ℕ, zero, suc, Bool, false, List, [], ◌∷◌}
use Rattle.std.specs.Prelude.{length, Option, Some, None, Result, Ok, Err, codes, option_map}
use Rattle.std.specs.Prelude.{slice_index, if◌then◌else◌}
use Rattle.std.specs.List.{list_all, slice_split}
use Rattle.std.specs.Str.{byte}
use Rattle.mail_base.specs.Places.{around}
use Rattle.drafts.specs.LineState.{may_end, step}
use Rattle.drafts.specs.PlainDraft.{PlainDraft, is_id, is_id_if_any, is_text}
use Rattle.drafts.specs.declared.line_state.LineState.{LineState}
use Rattle.drafts.specs.declared.reading.Head.{Head}
use Rattle.drafts.specs.declared.line_state.LineState.TheVariants.{Text, NoId, NextId}

-- the next reading, where the one before did not fail
infixl 10 ◌>>=◌
-- the second reading behind the first
abbrev pub ◌>>=◌ : {A B : Type 0} → Result A ℕ → (A → Result B ℕ) → Result B ℕ
(Ok x) >>= f = f x
(Err left) >>= f = Err left

-- what follows these bytes, where the text begins with them
unfoldable pub behind_bytes : List ℕ → List ℕ → Result (List ℕ) ℕ
behind_bytes [] s = Ok s
behind_bytes (c ∷ cs) [] = Err 0
behind_bytes (c ∷ cs) (b ∷ s) = if b == c then behind_bytes cs s else Err (length (b ∷ s))

-- a line and what follows it, where one more byte stands before
abbrev pub with_first : ℕ → List ℕ × List ℕ → Result (List ℕ × List ℕ) ℕ
with_first b line = Ok (b ∷ line.0, line.1)

-- what a text gives behind its first byte; where no line goes on so, an LF ends one that may end
abbrev pub line_with : (LineState → Result (List ℕ × List ℕ) ℕ) → Bool → ℕ → List ℕ
    → Option LineState → Result (List ℕ × List ℕ) ℕ
line_with more ends b s (Some next) = more next >>= with_first b
line_with more ends b s None =
    if ends && b == byte "\n" then Ok ([], s) else Err (length (b ∷ s))

-- a line that stands so, and what follows its LF
unfoldable pub read_line : LineState → List ℕ → Result (List ℕ × List ℕ) ℕ
read_line state [] = Err 0
read_line state (b ∷ s) =
    line_with (λ next. read_line next s) (may_end state) b s (step state b)

-- the text of a field of the name, and what follows its line
unfoldable pub read_field : List ℕ → LineState → List ℕ → Result (List ℕ × List ℕ) ℕ
read_field name start s = behind_bytes name s >>= read_line start

-- the first bytes are the same
abbrev pub begins_as : List ℕ → List ℕ → Bool
begins_as (c ∷ cs) (b ∷ s) = b == c
begins_as _ _ = false

-- what was read, as a text that is there
abbrev pub present : List ℕ × List ℕ → Result (Option (List ℕ) × List ℕ) ℕ
present line = Ok (Some line.0, line.1)

-- the same, where the field may be missing: by its first byte it is told from what else may stand
-- there
unfoldable pub read_optional : List ℕ → LineState → List ℕ → Result (Option (List ℕ) × List ℕ) ℕ
read_optional name start s =
    if begins_as name s then read_field name start s >>= present else Ok (None, s)

-- the fields of a draft as they stand there
pub record PlainHead : Type 0 where
  pub to : List ℕ
  pub subject : List ℕ
  pub in_reply_to : Option (List ℕ)
  pub references : Option (List ℕ)

-- the fields of a draft, and what follows the empty line
unfoldable pub read_head : List ℕ → Result (PlainHead × List ℕ) ℕ
read_head s = do
  to ← read_field (codes "To: ") Text s
  subject ← read_field (codes "Subject: ") Text to.1
  reply ← read_optional (codes "In-Reply-To: ") NoId subject.1
  references ← read_optional (codes "References: ") NextId reply.1
  body ← behind_bytes (codes "X-Mutt-Draft: 1\n\n") references.1
  Ok (
    record {
      to = to.0;
      subject = subject.0;
      in_reply_to = reply.0;
      references = references.0;
    },
    body,
  )

-- a line before others
abbrev pub with_line : List ℕ → List (List ℕ) → Result (List (List ℕ)) ℕ
with_line line lines = Ok (line ∷ lines)

-- the lines of a body; the number is at least its length
unfoldable pub lines_from : ℕ → List ℕ → Result (List (List ℕ)) ℕ
lines_from zero s = Ok []
lines_from (suc n) [] = Ok []
lines_from (suc n) (b ∷ s) = do
  line ← read_line Text (b ∷ s)
  lines ← lines_from n line.1
  with_line line.0 lines

-- the lines of a body
abbrev pub read_lines : List ℕ → Result (List (List ℕ)) ℕ
read_lines s = lines_from (length s) s

-- the ids between blanks, where there are any
abbrev pub ids_in : Option (List ℕ) → List (List ℕ)
ids_in None = []
ids_in (Some text) = slice_split (λ b. b == byte " ") text

-- a draft of these fields and lines
abbrev pub draft_of : PlainHead → List (List ℕ) → PlainDraft
draft_of head body = record {
  to = head.to;
  subject = head.subject;
  in_reply_to = head.in_reply_to;
  references = ids_in head.references;
  body = body;
}

-- the draft that bytes spell, or how many bytes are left where no draft goes on
unfoldable pub read_from : List ℕ → Result PlainDraft ℕ
read_from bytes = do
  head ← read_head bytes
  body ← read_lines head.1
  Ok (draft_of head.0 body)

-- the place from which so many bytes of the text are left
abbrev pub placed : List ℕ → Result PlainDraft ℕ → Result PlainDraft ℕ
placed bytes (Ok d) = Ok d
placed bytes (Err left) = Err (length bytes - left)

-- the draft that bytes spell, or the first place where no draft's bytes go on
abbrev pub read_draft : List ℕ → Result PlainDraft ℕ
read_draft bytes = placed bytes (read_from bytes)

-- For the code alone.

-- what a reader returned, as contracts see it, is what reading gives
abbrev pub Gives : {X Y : Type 0} → (X → Y) → Result X ℕ → Result Y ℕ → Type 0
Gives view (Ok x) read = read ≡ Ok (view x)
Gives view (Err left) read = read ≡ Err left

-- a text that is cut at a byte which ends a line, if it may
abbrev pub line_at : LineState → List ℕ → ℕ → Result (List ℕ × List ℕ) ℕ
line_at state text at =
    if may_end state && slice_index text at == byte "\n" then Ok (around text at)
    else Err (length text - at)

-- the fields of a draft as contracts see them
abbrev pub plain_head : Head → PlainHead
plain_head head = record {
  to = head.to.now;
  subject = head.subject.now;
  in_reply_to = option_map (λ id. id.now) head.in_reply_to;
  references = option_map (λ text. text.now) head.references;
}

-- a draft may have these fields
abbrev pub are_texts : PlainHead → Bool
are_texts head =
    is_text head.to && is_text head.subject && is_id_if_any head.in_reply_to
    && list_all is_id (ids_in head.references)
