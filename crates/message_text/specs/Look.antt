-- How a part is shown, by its content type (RFC 2046, sections 3 to 5).
use Rattle.std.specs.Prelude.{ℕ, Bool, List, codes, is_some, if◌then◌else◌}
use Rattle.std.specs.Str.{bytes_eq}
use Rattle.mail_base.specs.Fronts.{behind_text}
use Rattle.mime_tree.specs.Entity.{is_multipart}
use Rattle.message_text.specs.declared.look.Look.{Look}
use Rattle.message_text.specs.declared.look.Look.TheVariants as look

-- the type of a text (section 4.1)
abbrev pub is_text : List ℕ → Bool
is_text content = is_some (behind_text (codes "text/") content)

-- how a part of the type is shown
abbrev pub look_of : List ℕ → Look
look_of content =
    if is_text content then look.Text
    else (if bytes_eq content (codes "message/rfc822") then look.Message
    else (if bytes_eq content (codes "multipart/alternative") then look.Alternative
    else (if bytes_eq content (codes "multipart/encrypted") then look.Unsupported
    else (if is_multipart content then look.Mixed
    else look.Unsupported))))
