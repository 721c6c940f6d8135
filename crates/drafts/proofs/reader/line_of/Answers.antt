use Rattle.std.specs.List.{list_all}
use Rattle.std.specs.Str.{is_utf8}
use Rattle.std.proofs.lemmas.Bool.{and_parts}
use Rattle.std.proofs.lemmas.Str.{IsUtf8-from_is_utf8}
use Rattle.mail_base.specs.Written.{is_line_byte}
use Rattle.drafts.proofs.reader.line_of.Goals as goal

pub copy_of-requires : goal.copy_of-requires
copy_of-requires c =
    let text = c.args.text.now in
    let both = and_parts (is_utf8 text) (list_all is_line_byte text) c.requires in
    IsUtf8-from_is_utf8 text both.0
