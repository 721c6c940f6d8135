-- The fields of a draft: they are read, and where they stop.
use Rattle.std.proofs.Common.{◌≡◌, ℕ, ◌&&◌, true, false, List, [], ◌∷◌, ◌++◌}
use Rattle.std.proofs.Common.{Option, Some, None, Result, inl, inr, refl, sym, ap}
use Rattle.std.proofs.Common.{◌∙◌, codes}
use Rattle.std.specs.List.{list_all}
use Rattle.std.proofs.lemmas.Bool.{and_from, and_parts}
use Rattle.drafts.specs.PlainDraft.{is_id, is_id_if_any, is_text}
use Rattle.drafts.specs.Reading.{PlainHead, are_texts, begins_as, ids_in, read_field, read_head}
use Rattle.drafts.specs.Reading.{read_optional}
use Rattle.drafts.specs.Reading.{read_line}
use Rattle.drafts.specs.Spelled.{field_line, reply_line}
use Rattle.drafts.specs.declared.line_state.LineState.{LineState}
use Rattle.drafts.specs.declared.line_state.LineState.TheVariants.{Text, NoId, NextId}
use Rattle.drafts.proofs.IdLemmas.{ids_go, no_id_goes}
use Rattle.drafts.proofs.LineLemmas.{IsLine, accepts, line_reads}
use Rattle.drafts.proofs.Optional.{Perhaps, perhaps, perhaps_reads}
use Rattle.drafts.proofs.Readers.{Any, Behind, Both, Empty, IsReader, after, after_reads}
use Rattle.drafts.proofs.Readers.{bytes_read, bytes_then, done, done_reads, renamed}
use Rattle.drafts.proofs.TextLemmas.{goes_text, text_goes}

abbrev to_name : List ℕ
to_name = codes "To: "

abbrev subject_name : List ℕ
subject_name = codes "Subject: "

abbrev reply_name : List ℕ
reply_name = codes "In-Reply-To: "

abbrev references_name : List ℕ
references_name = codes "References: "

abbrev last_bytes : List ℕ
last_bytes = codes "X-Mutt-Draft: 1\n\n"

abbrev head_of : List ℕ → List ℕ → Option (List ℕ) → Option (List ℕ) → PlainHead
head_of to subject reply references =
    record { to = to; subject = subject; in_reply_to = reply; references = references }

-- a field of a name
abbrev IsField : List ℕ → LineState → List ℕ → List ℕ → Type 0
IsField name start = Behind name (IsLine start)

field_reads : (name : List ℕ) (start : LineState)
    → IsReader Any (IsField name start) (read_field name start)
unfolding read_field
field_reads name start = bytes_read Any name (IsLine start) (read_line start) (line_reads start)

-- ---- the fields, each with what stands behind it

abbrev Fields4 : PlainHead → PlainHead → List ℕ → Type 0
Fields4 head = Behind last_bytes (Empty head)

abbrev read4 : PlainHead → List ℕ → Result (PlainHead × List ℕ) ℕ
read4 head = bytes_then last_bytes (done head)

reads4 : (head : PlainHead) → IsReader Any (Fields4 head) (read4 head)
reads4 head = bytes_read Any last_bytes (Empty head) (done head) (done_reads head)

abbrev Fields3 : List ℕ → List ℕ → Option (List ℕ) → PlainHead → List ℕ → Type 0
Fields3 to subject reply =
    Perhaps (IsField references_name NextId)
    (λ references. Fields4 (head_of to subject reply references))

abbrev read3 : List ℕ → List ℕ → Option (List ℕ) → List ℕ → Result (PlainHead × List ℕ) ℕ
read3 to subject reply =
    perhaps references_name (read_field references_name NextId)
    (λ references. read4 (head_of to subject reply references))

references_begin : (a w rest : List ℕ) → IsField references_name NextId a w
    → begins_as references_name (w ++ rest) ≡ true
references_begin a w rest p = ap (λ (l : List ℕ). begins_as references_name (l ++ rest)) p.whole

last_apart : (head b : PlainHead) (w rest : List ℕ) → Fields4 head b w
    → begins_as references_name (w ++ rest) ≡ false
last_apart head b w rest p = ap (λ (l : List ℕ). begins_as references_name (l ++ rest)) p.whole

reads3 : (to subject : List ℕ) (reply : Option (List ℕ))
    → IsReader Any (Fields3 to subject reply) (read3 to subject reply)
reads3 to subject reply =
    perhaps_reads Any references_name (IsField references_name NextId)
    (λ references. Fields4 (head_of to subject reply references))
    (read_field references_name NextId)
    (λ references. read4 (head_of to subject reply references))
    (field_reads references_name NextId)
    (λ references. reads4 (head_of to subject reply references))
    references_begin (λ b w rest p. last_apart (head_of to subject reply None) b w rest p)

abbrev Fields2 : List ℕ → List ℕ → PlainHead → List ℕ → Type 0
Fields2 to subject = Perhaps (IsField reply_name NoId) (Fields3 to subject)

abbrev read2 : List ℕ → List ℕ → List ℕ → Result (PlainHead × List ℕ) ℕ
read2 to subject = perhaps reply_name (read_field reply_name NoId) (read3 to subject)

reply_begins : (a w rest : List ℕ) → IsField reply_name NoId a w
    → begins_as reply_name (w ++ rest) ≡ true
reply_begins a w rest p = ap (λ (l : List ℕ). begins_as reply_name (l ++ rest)) p.whole

others_apart : (to subject : List ℕ) (b : PlainHead) (w rest : List ℕ)
    → Fields3 to subject None b w
    → begins_as reply_name (w ++ rest) ≡ false
others_apart to subject b w rest (inl p) =
    ap (λ (l : List ℕ). begins_as reply_name (l ++ rest))
    (p.whole ∙ ap (λ (l : List ℕ). l ++ p.back) p.first.whole)
others_apart to subject b w rest (inr p) =
    ap (λ (l : List ℕ). begins_as reply_name (l ++ rest)) p.whole

reads2 : (to subject : List ℕ) → IsReader Any (Fields2 to subject) (read2 to subject)
reads2 to subject =
    perhaps_reads Any reply_name (IsField reply_name NoId) (Fields3 to subject)
    (read_field reply_name NoId) (read3 to subject)
    (field_reads reply_name NoId) (reads3 to subject)
    reply_begins (others_apart to subject)

abbrev Fields1 : List ℕ → PlainHead → List ℕ → Type 0
Fields1 to = Both (IsField subject_name Text) (Fields2 to)

abbrev read1 : List ℕ → List ℕ → Result (PlainHead × List ℕ) ℕ
read1 to = after (read_field subject_name Text) (read2 to)

reads1 : (to : List ℕ) → IsReader Any (Fields1 to) (read1 to)
reads1 to =
    after_reads Any (IsField subject_name Text) (Fields2 to)
    (read_field subject_name Text) (read2 to)
    (field_reads subject_name Text) (reads2 to)

-- the fields of a draft, as they are written
abbrev pub Fields : PlainHead → List ℕ → Type 0
Fields = Both (IsField to_name Text) Fields1

abbrev read0 : List ℕ → Result (PlainHead × List ℕ) ℕ
read0 = after (read_field to_name Text) read1

same_head : (s : List ℕ) → read0 s ≡ read_head s
unfolding read_head read_optional
same_head s = refl

pub head_reads : IsReader Any Fields read_head
head_reads =
    renamed Any Fields Fields read0 read_head same_head (λ v w p. p) (λ v w p. p)
    (after_reads Any (IsField to_name Text) Fields1 (read_field to_name Text) read1
    (field_reads to_name Text) reads1)

-- ---- how they are written

-- the line of ids, where there is one
abbrev pub ids_line : Option (List ℕ) → List ℕ
ids_line None = []
ids_line (Some text) = field_line references_name text

-- the fields, with the mark and the empty line
abbrev pub head_text : PlainHead → List ℕ
head_text head =
    field_line to_name head.to
    ++ (field_line subject_name head.subject
    ++ (reply_line head.in_reply_to ++ (ids_line head.references ++ last_bytes)))

field_text : (name : List ℕ) (start : LineState) (t w : List ℕ) → IsField name start t w
    → w ≡ field_line name t
field_text name start t w p = p.whole ∙ ap (λ (l : List ℕ). name ++ l) p.inside.whole

-- the fields from the ids on
record Tail3 (to subject : List ℕ) (reply : Option (List ℕ)) (head : PlainHead) (w : List ℕ)
    : Type 0 where
  references : Option (List ℕ)
  is : head ≡ head_of to subject reply references
  whole : w ≡ ids_line references ++ last_bytes
  fits : list_all is_id (ids_in references) ≡ true

last_text : (known head : PlainHead) (w : List ℕ) → Fields4 known head w → w ≡ last_bytes
last_text known head w p = p.whole ∙ ap (λ (l : List ℕ). last_bytes ++ l) p.inside.none

tail3 : (to subject : List ℕ) (reply : Option (List ℕ)) (head : PlainHead) (w : List ℕ)
    → Fields3 to subject reply head w → Tail3 to subject reply head w
tail3 to subject reply head w (inl p) = record {
  references = Some p.head;
  is = p.second.inside.same;
  whole = p.whole
      ∙ ap (λ (l : List ℕ). l ++ p.back)
      (field_text references_name NextId p.head p.front p.first)
      ∙ ap (λ (l : List ℕ). field_line references_name p.head ++ l)
      (last_text (head_of to subject reply (Some p.head)) head p.back p.second);
  fits = sym (ids_go p.head) ∙ p.first.inside.goes;
}
tail3 to subject reply head w (inr p) = record {
  references = None;
  is = p.inside.same;
  whole = last_text (head_of to subject reply None) head w p;
  fits = refl;
}

-- the fields from the id that is answered on
record Tail2 (to subject : List ℕ) (head : PlainHead) (w : List ℕ) : Type 0 where
  reply : Option (List ℕ)
  references : Option (List ℕ)
  is : head ≡ head_of to subject reply references
  whole : w ≡ reply_line reply ++ (ids_line references ++ last_bytes)
  fits : is_id_if_any reply ≡ true
  ids : list_all is_id (ids_in references) ≡ true

tail2 : (to subject : List ℕ) (head : PlainHead) (w : List ℕ) → Fields2 to subject head w
    → Tail2 to subject head w
tail2 to subject head w (inl p) =
    let more = tail3 to subject (Some p.head) head p.back p.second in record {
      reply = Some p.head;
      references = more.references;
      is = more.is;
      whole = p.whole
          ∙ ap (λ (l : List ℕ). l ++ p.back) (field_text reply_name NoId p.head p.front p.first)
          ∙ ap (λ (l : List ℕ). field_line reply_name p.head ++ l) more.whole;
      fits = sym (no_id_goes p.head) ∙ p.first.inside.goes;
      ids = more.fits;
    }
tail2 to subject head w (inr p) =
    let more = tail3 to subject None head w p in record {
      reply = None;
      references = more.references;
      is = more.is;
      whole = more.whole;
      fits = refl;
      ids = more.fits;
    }

-- what is read of the fields is written so, and a draft may have it
pub record AreWritten (head : PlainHead) (w : List ℕ) : Type 0 where
  pub whole : w ≡ head_text head
  pub fits : are_texts head ≡ true

pub fields_written : (head : PlainHead) (w : List ℕ) → Fields head w → AreWritten head w
fields_written head w p =
    let q = p.second in
    let to = p.head in
    let subject = q.head in
    let more = tail2 to subject head q.back q.second in
    let known = head_of to subject more.reply more.references in
    let parts : w ≡ head_text known =
    p.whole
    ∙ ap (λ (l : List ℕ). l ++ p.back) (field_text to_name Text to p.front p.first)
    ∙ ap (λ (l : List ℕ). field_line to_name to ++ l)
    (q.whole
    ∙ ap (λ (l : List ℕ). l ++ q.back) (field_text subject_name Text subject q.front q.first)
    ∙ ap (λ (l : List ℕ). field_line subject_name subject ++ l) more.whole) in
    let fit : are_texts known ≡ true =
    and_from (is_text to && is_text subject && is_id_if_any more.reply)
    (list_all is_id (ids_in more.references))
    (and_from (is_text to && is_text subject) (is_id_if_any more.reply)
    (and_from (is_text to) (is_text subject) (goes_text to p.first.inside.goes)
    (goes_text subject q.first.inside.goes))
    more.fits)
    more.ids in record {
      whole = parts ∙ ap head_text (sym more.is);
      fits = ap are_texts more.is ∙ fit;
    }

-- ---- what is written so is a reading

field_is : (name : List ℕ) (start : LineState) (t : List ℕ) → accepts start t ≡ true
    → IsField name start t (field_line name t)
field_is name start t goes = record {
  piece = t ++ 10 ∷ [];
  whole = refl;
  inside = record { goes = goes; whole = refl };
}

last_is : (head : PlainHead) → Fields4 head head last_bytes
last_is head = record { piece = []; whole = refl; inside = record { same = refl; none = refl } }

ids_are : (to subject : List ℕ) (reply references : Option (List ℕ))
    → list_all is_id (ids_in references) ≡ true
    → Fields3 to subject reply (head_of to subject reply references)
    (ids_line references ++ last_bytes)
ids_are to subject reply None ids = inr (last_is (head_of to subject reply None))
ids_are to subject reply (Some text) ids = inl (record {
  head = text;
  front = field_line references_name text;
  back = last_bytes;
  whole = refl;
  first = field_is references_name NextId text (ids_go text ∙ ids);
  second = last_is (head_of to subject reply (Some text));
})

reply_is : (to subject : List ℕ) (reply references : Option (List ℕ)) → is_id_if_any reply ≡ true
    → list_all is_id (ids_in references) ≡ true
    → Fields2 to subject (head_of to subject reply references)
    (reply_line reply ++ (ids_line references ++ last_bytes))
reply_is to subject None references fits ids = inr (ids_are to subject None references ids)
reply_is to subject (Some id) references fits ids = inl (record {
  head = id;
  front = field_line reply_name id;
  back = ids_line references ++ last_bytes;
  whole = refl;
  first = field_is reply_name NoId id (no_id_goes id ∙ fits);
  second = ids_are to subject (Some id) references ids;
})

pub written_fields : (head : PlainHead) → are_texts head ≡ true → Fields head (head_text head)
written_fields head fits =
    let all =
    and_parts (is_text head.to && is_text head.subject && is_id_if_any head.in_reply_to)
    (list_all is_id (ids_in head.references)) fits in
    let more =
    and_parts (is_text head.to && is_text head.subject) (is_id_if_any head.in_reply_to) all.0 in
    let texts = and_parts (is_text head.to) (is_text head.subject) more.0 in
    let rest = reply_line head.in_reply_to ++ (ids_line head.references ++ last_bytes) in record {
      head = head.to;
      front = field_line to_name head.to;
      back = field_line subject_name head.subject ++ rest;
      whole = refl;
      first = field_is to_name Text head.to (text_goes head.to texts.0);
      second = record {
        head = head.subject;
        front = field_line subject_name head.subject;
        back = rest;
        whole = refl;
        first = field_is subject_name Text head.subject (text_goes head.subject texts.1);
        second = reply_is head.to head.subject head.in_reply_to head.references more.1 all.1;
      };
    }
