-- The text of a part, decoded to lines.
use Rattle.std.specs.Prelude.{ℕ, List, map}
use Rattle.bstr.specs.Text.{lines_of, without_terminator}
use Rattle.mail_base.specs.Lines.{behind_line}
use Rattle.headers.specs.Charset.{charset_of, text_in}
use Rattle.headers.specs.declared.charset.Charset.{Charset}
use Rattle.mime_tree.specs.Base64Body.{from_base64}
use Rattle.mime_tree.specs.Quoted.{from_quoted}
use Rattle.mime_tree.specs.declared.encoding.Encoding.{Encoding}
use Rattle.mime_tree.specs.declared.encoding.Encoding.TheVariants.{Plain, Base64, Quoted}

-- a body without its encoding
abbrev pub decoded : Encoding → List ℕ → List ℕ
decoded Plain body = body
decoded Base64 body = from_base64 body
decoded Quoted body = from_quoted body

-- the lines of a text of a charset, without their line ends
abbrev pub lines_in : Charset → List ℕ → List (List ℕ)
lines_in charset text = map (text_in charset) (map without_terminator (lines_of text))

-- the lines of a body that stands behind an empty line
abbrev pub decoded_lines : Encoding → List ℕ → List ℕ → List (List ℕ)
decoded_lines encoding charset text =
    lines_in (charset_of charset) (decoded encoding (behind_line text))
