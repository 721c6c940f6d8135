-- The status line of the index (Mutt's manual, "status_format").
use Rattle.std.specs.Prelude.{◌+◌, ℕ, Bool, List, Option, length, min, option_map}
use Rattle.index_items.specs.Tally.{is_changed, tally_of}
use Rattle.index_rows.specs.Summary.{PlainSummary, status_line as status_row}
use Rattle.index_view.specs.Lines.{page_start}
use Rattle.index_view.specs.View.{PlainView, visible_of}
use Rattle.mail_base.specs.declared.kind.Kind.{Kind}
use Rattle.rc_lang.specs.Rules.{status_letters}
use Rattle.rc_lang.specs.Values.{PlainValue}
use Rattle.rc_lang.specs.declared.variable.Variable.TheVariants as variable
use Rattle.session_screen.specs.Formats.{format_in}
use Rattle.session_screen.specs.Places.{text_of}
use Rattle.session_screen.specs.Window.{page_rows}
use Rattle.session_screen.specs.declared.status.Banner.{Banner}
use Rattle.session_screen.specs.declared.window.Window.{Window}

-- what the status line shows beside a view and the settings
pub record PlainBanner : Type 0 where
  pub path : List ℕ
  pub kind : Kind
  pub read_only : Bool
  pub limit : Option (List ℕ)

-- what the status line shows beside a view, as contracts see it
abbrev pub plain_banner : Banner → PlainBanner
plain_banner b = record {
  path = b.place.path.now;
  kind = b.place.kind;
  read_only = b.read_only;
  limit = option_map (λ text. text.now) b.limit;
}

-- how many messages stand before the end of the page that holds the cursor
abbrev pub page_end : ℕ → PlainView → ℕ
page_end rows v = min (page_start rows v + rows) (length (visible_of v))

-- what the status line shows of a view
abbrev pub summary_of : ℕ → List PlainValue → PlainBanner → PlainView → PlainSummary
summary_of rows values banner v = record {
  path = banner.path;
  read_only = banner.read_only;
  changed = is_changed banner.kind v.items;
  count = length v.answers.sight.order;
  new = (tally_of v.items).new;
  old = (tally_of v.items).old;
  unread = (tally_of v.items).unread;
  deleted = (tally_of v.items).deleted;
  flagged = (tally_of v.items).flagged;
  tagged = (tally_of v.items).tagged;
  limit = banner.limit;
  visible = length (visible_of v);
  before = page_start rows v;
  last = page_end rows v;
  sort = text_of values variable.Sort;
  sort_aux = text_of values variable.SortAux;
}

-- the status line of a view
abbrev pub status_line : Window → List PlainValue → PlainBanner → PlainView → List ℕ
status_line window values banner v =
    status_row window.cols (summary_of (page_rows window) values banner v)
    (format_in status_letters values variable.StatusFormat)
