-- The lines of the index (Mutt's manual, "index_format").
use Rattle.std.specs.Prelude.{ℕ, ℤ, List}
use Rattle.folder_letters.specs.Letters.{Mail}
use Rattle.index_view.specs.Lines.{PlainStyle, lines}
use Rattle.index_view.specs.View.{PlainView}
use Rattle.rc_lang.specs.Rules.{row_letters}
use Rattle.rc_lang.specs.Values.{PlainValue}
use Rattle.rc_lang.specs.declared.variable.Variable.TheVariants as variable
use Rattle.session_screen.specs.Formats.{format_in}
use Rattle.session_screen.specs.Places.{text_of}
use Rattle.session_screen.specs.Window.{page_rows}
use Rattle.session_screen.specs.declared.window.Window.{Window}

-- how rows are made, by the variables
abbrev pub style_of : List PlainValue → ℤ → PlainStyle
style_of values offset = record {
  format = format_in row_letters values variable.IndexFormat;
  to_chars = text_of values variable.ToChars;
  offset = offset;
}

-- the lines of the page that holds the cursor
abbrev pub page_lines : List Mail → List PlainValue → Window → PlainView → List (List ℕ)
page_lines mails values window v =
    lines mails v (style_of values window.offset) (page_rows window) window.cols
