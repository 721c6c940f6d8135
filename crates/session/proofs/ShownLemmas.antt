-- What a view shows is what is worked out from scratch.
use Rattle.std.proofs.Common.{◌≡◌, ◌≤◌, ◌-◌, ◌*◌, ◌/◌, ◌%◌, ◌++◌, ◌∷◌, [], ℕ, List, Option, None}
use Rattle.std.proofs.Common.{Some, ap, arith, drop, length, length-append, map, refl, replicate}
use Rattle.std.proofs.Common.{take}
use Rattle.std.proofs.lemmas.List.{length-map, length-replicate, length-take}
use Rattle.std.proofs.lemmas.List.FromFn.{length-map-range_with_len}
use Rattle.folder_letters.specs.Letters.{Mail}
use Rattle.index_view.specs.Answers.{PlainAnswers}
use Rattle.index_view.specs.Lines.{marked_line, page, page_start}
use Rattle.index_view.specs.View.{IsOf, PlainView, visible_of}
use Rattle.keymap.specs.declared.menu.Menu.{Menu}
use Rattle.keymap.specs.declared.menu.Menu.TheVariants as menu
use Rattle.mail_base.specs.declared.kind.Id.{Id}
use Rattle.message_text.specs.Weeding.{PlainWeeding}
use Rattle.rc_lang.specs.Values.{PlainValue}
use Rattle.session_index.specs.Index.{index_of}
use Rattle.session_pager.specs.Lines.{page_of, row_line, shown_rows}
use Rattle.session_pager.specs.Opening.{pager_of, rows_at}
use Rattle.session_pager.specs.Reader.{Parts, PlainShowing}
use Rattle.session_screen.specs.PagerStatus.{pager_line}
use Rattle.session_screen.specs.Screen.{page_lines as lines_of_page, style_of}
use Rattle.session_screen.specs.Status.{PlainBanner, status_line as line_of_status}
use Rattle.session_screen.specs.Window.{page_rows}
use Rattle.session_screen.specs.declared.window.Window.{Window}
use Rattle.session_state.specs.Rules.{weeding_of}
use Rattle.session.specs.Core.{CoreState, shown_menu}
use Rattle.session.specs.Screen.{Folder, last_line, lines_in, page_lines, screen, status_line}
use Rattle.session.specs.Screen.{view_over}

pub lines_shown : (mails : List Mail) (v : PlainView) (values : List PlainValue) (window : Window)
    → IsOf mails v → lines_of_page mails values window v
    ≡ lines_of_page mails values window (view_over mails (index_of v))
lines_shown mails v values window is =
    ap (λ (a : PlainAnswers). lines_of_page mails values window (record v { answers = a }))
    is.answered

pub status_shown : (mails : List Mail) (v : PlainView) (values : List PlainValue)
    (window : Window) (banner : PlainBanner) → IsOf mails v
    → line_of_status window values banner v
    ≡ line_of_status window values banner (view_over mails (index_of v))
status_shown mails v values window banner is =
    ap (λ (a : PlainAnswers). line_of_status window values banner (record v { answers = a }))
    is.answered

pub pager_shown : (mails : List Mail) (v : PlainView) (values : List PlainValue)
    (window : Window) (id : Id) → IsOf mails v
    → pager_line mails values window v id
    ≡ pager_line mails values window (view_over mails (index_of v)) id
pager_shown mails v values window id is =
    ap (λ (a : PlainAnswers). pager_line mails values window (record v { answers = a }) id)
    is.answered

-- where neither a text nor parts are shown, the lines are those of the index
pub index_lines : (mails : List Mail) (window : Window) (m : Menu) (c : CoreState)
    → (m ≡ menu.Pager → ⊥) → (m ≡ menu.Attach → ⊥)
    → lines_of_page mails c.rules.settings window (view_over mails c.desk.index)
    ≡ lines_in mails window m c
index_lines mails window menu.Pager c no_text no_parts = absurd (no_text refl)
index_lines mails window menu.Attach c no_text no_parts = absurd (no_parts refl)
index_lines mails window _ c no_text no_parts = refl

-- How many lines there are.

page_filled : (p : List Id) (f : Id → List ℕ) (rows : ℕ) → length p ≤ rows
    → length (map f p ++ replicate (rows - length p) []) ≡ rows
page_filled p f rows short =
    let all = length-append (map f p) (replicate (rows - length p) []) in
    let shown : length (map f p) ≡ length p = length-map p f in
    let blank : length {A = List ℕ} (replicate (rows - length p) []) ≡ rows - length p =
    length-replicate (rows - length p) [] in
    omega (arith, all, shown, blank, short)

index_filled : (mails : List Mail) (values : List PlainValue) (window : Window) (v : PlainView)
    → length (lines_of_page mails values window v) ≡ page_rows window
index_filled mails values window v =
    let short : length (page (page_rows window) v) ≤ page_rows window = omega (
      arith,
      length-take (page_rows window) (drop (page_start (page_rows window) v)
          (visible_of v)),
    ) in
    page_filled (page (page_rows window) v)
    (marked_line mails v (style_of values window.offset) window.cols) (page_rows window) short

taken_filled : (rows : ℕ) (lines : List (List ℕ))
    → length (take rows (lines ++ replicate rows [])) ≡ rows
taken_filled rows lines =
    let taken = length-take rows (lines ++ replicate rows []) in
    let all = length-append lines (replicate rows []) in
    let blank : length {A = List ℕ} (replicate rows []) ≡ rows = length-replicate rows [] in
    omega (arith, taken, all, blank)

by_pager : {P : Type 0} (p : Option P) (count : Option P → ℕ) (rows : ℕ) → count None ≡ rows
    → ((q : P) → count (Some q) ≡ rows) → count p ≡ rows
by_pager None count rows none some = none
by_pager (Some q) count rows none some = some q

text_filled : (rows : ℕ) (mails : List Mail) (cols : ℕ) (weeding : PlainWeeding)
    (s : PlainShowing) → length (page_of rows (pager_of mails cols weeding s)) ≡ rows
text_filled rows mails cols weeding s = by_pager (pager_of mails cols weeding s)
    (λ p. length (page_of rows p)) rows (length-replicate rows []) (λ p. taken_filled rows _)

parts_filled : (rows cols : ℕ) (mails : List Mail) (s : PlainShowing)
    → length (shown_rows rows cols mails s) ≡ rows
parts_filled rows cols mails (Parts id cursor) = length-map-range_with_len
    (row_line cols (cursor % rows) (drop (cursor / rows * rows) (rows_at mails id))) 0 rows
parts_filled rows cols mails _ = length-replicate rows []

-- a page has exactly its rows
page_counted : (mails : List Mail) (window : Window) (m : Menu) (c : CoreState)
    → length (lines_in mails window m c) ≡ page_rows window
page_counted mails window menu.Pager c = text_filled (page_rows window) mails
    window.cols (weeding_of c.rules) c.reader.showing
page_counted mails window menu.Attach c =
    parts_filled (page_rows window) window.cols mails c.reader.showing
page_counted mails window _ c =
    index_filled mails c.rules.settings window (view_over mails c.desk.index)

-- the screen has exactly its rows
pub screen_rows : (mails : List Mail) (window : Window) (folder : Folder) (c : CoreState)
    → 6 ≤ window.rows → length (screen mails window folder c) ≡ window.rows
unfolding screen
screen_rows mails window folder c tall =
    let page = page_counted mails window (shown_menu c) c in
    let all = length-append (page_lines mails window c)
    (status_line mails window folder c ∷ last_line window c ∷ []) in
    omega (arith, page, all, tall)
