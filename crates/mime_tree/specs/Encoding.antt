-- How the body of a part is written (RFC 2045, section 6.1).
use Rattle.std.specs.Prelude.{ℕ, List, codes, if◌then◌else◌}
use Rattle.std.specs.Str.{str_eq_ignore_ascii_case}
use Rattle.mail_base.specs.Blanks.{trimmed}
use Rattle.mime_tree.specs.declared.encoding.Encoding.{Encoding}
use Rattle.mime_tree.specs.declared.encoding.Encoding.TheVariants.{Plain, Base64, Quoted}

-- the encoding that the value of a Content-Transfer-Encoding names (section 6.1)
abbrev pub encoding_of : List ℕ → Encoding
encoding_of value =
    if str_eq_ignore_ascii_case (trimmed value) (codes "base64") then Base64
    else (if str_eq_ignore_ascii_case (trimmed value) (codes "quoted-printable") then Quoted
    else Plain)
