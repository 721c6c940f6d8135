-- Parts, without the rooms of their lists (RFC 2045, section 2.4).
use Rattle.std.specs.Prelude.{ℕ, Bool, List, map}
use Rattle.mail_base.specs.Series.{Held}
use Rattle.mime_tree.specs.declared.encoding.Encoding.{Encoding}
use Rattle.mime_tree.specs.declared.part.Part.{Part}

-- a part without the rooms of its lists
pub record PlainPart : Type 0 where
  pub nesting : ℕ
  pub content : List ℕ
  pub charset : List ℕ
  pub filename : List ℕ
  pub encoding : Encoding
  pub attachment : Bool
  pub body_at : ℕ
  pub body_end : ℕ

-- a part as contracts see it
abbrev pub plain_part : Part → PlainPart
plain_part p = record {
  nesting = p.nesting;
  content = p.content.items;
  charset = p.charset.items;
  filename = p.filename.items;
  encoding = p.encoding;
  attachment = p.attachment;
  body_at = p.body_at;
  body_end = p.body_end;
}

-- parts as contracts see them
abbrev pub plain_parts : Held Part → List PlainPart
plain_parts parts = map plain_part parts.items
