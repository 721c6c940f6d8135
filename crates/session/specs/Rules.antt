-- What the settings and the window say of functions.
use Rattle.std.specs.Prelude.{List}
use Rattle.mail_base.specs.declared.kind.Kind.{Kind}
use Rattle.rc_lang.specs.Values.{PlainValue}
use Rattle.rc_lang.specs.declared.variable.Variable.TheVariants as variable
use Rattle.index_functions.specs.declared.rule.Rule.{Rule}
use Rattle.session_screen.specs.Tuning.{is_set, quad_of}
use Rattle.session_screen.specs.Window.{page_rows}
use Rattle.session_screen.specs.declared.window.Window.{Window}

-- what the settings, the kind of the folder and the window say of functions
abbrev pub rule_of : List PlainValue → Kind → Window → Rule
rule_of values kind window = record {
  resolves = is_set values variable.Resolve;
  page = page_rows window;
  delete = quad_of values variable.Delete;
  quit = quad_of values variable.Quit;
  mark_old = is_set values variable.MarkOld;
  kind = kind;
}
