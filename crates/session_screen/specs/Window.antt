-- What holds of the window.
use Rattle.std.specs.Prelude.{◌-◌, ◌≤◌, ◌≤ℤ◌, ℕ, pos, neg_ℤ}
use Rattle.session_screen.specs.declared.window.Window.{Window}

-- a screen on which a page has room, and an offset of less than a day
pub record IsWindow (window : Window) : Type 0 where
  pub tall : 6 ≤ window.rows
  pub wide : 2 ≤ window.cols
  pub west : neg_ℤ (pos 86_400) ≤ℤ window.offset
  pub east : window.offset ≤ℤ pos 86_400

-- how many messages a page has: the window without its last two lines
abbrev pub page_rows : Window → ℕ
page_rows window = window.rows - 2
