use Rattle.std.proofs.Common.{◌≡◌, ◌++◌, map}
use Rattle.headers.specs.Charset.{text_in}
use Rattle.mime_tree.specs.Text.{lines_in}
use Rattle.mail_base.specs.Series.{plain_texts}
use Rattle.mime_tree.proofs.text.append_lines.Given as goal

abbrev pub invariant-loop-bytes : goal.invariant-loop-bytes
invariant-loop-bytes l =
    plain_texts l.lines ++ map (text_in l.charset) l.bytes-iterator
    ≡ plain_texts l.initial.lines ++ lines_in l.charset l.fn.text
