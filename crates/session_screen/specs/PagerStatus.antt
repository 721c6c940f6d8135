-- The status line of the pager (Mutt's manual, "pager_format").
use Rattle.std.specs.Prelude.{ℕ, ℤ, List, [], unwrap_or}
use Rattle.folder_letters.specs.Letters.{Mail}
use Rattle.index_view.specs.Lines.{PlainStyle, line}
use Rattle.index_view.specs.View.{PlainView}
use Rattle.mail_base.specs.declared.kind.Id.{Id}
use Rattle.rc_lang.specs.Rules.{row_letters}
use Rattle.rc_lang.specs.Values.{PlainValue}
use Rattle.rc_lang.specs.declared.variable.Variable.TheVariants as variable
use Rattle.session_screen.specs.Formats.{format_in}
use Rattle.session_screen.specs.Screen.{style_of}
use Rattle.session_screen.specs.declared.window.Window.{Window}

-- how the line is made, by the variables
abbrev pub pager_style : List PlainValue → ℤ → PlainStyle
pager_style values offset = record (style_of values offset) {
  format = format_in row_letters values variable.PagerFormat;
}

-- the line for a message, in all columns of the window; empty where the message is not listed
abbrev pub pager_line : List Mail → List PlainValue → Window → PlainView → Id → List ℕ
pager_line mails values window v id =
    unwrap_or (line mails v (pager_style values window.offset) window.cols id) []
