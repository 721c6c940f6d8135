-- The order of the messages of a folder (maildir(5)).
use Rattle.std.specs.Prelude.{◌+◌, ◌-◌, ◌*◌, ℕ, min}
pub use Rattle.folder_core.specs.MaildirNames.{last_order, number_behind, order_of}

-- a number with a digit behind it, but no more than the greatest order
abbrev pub with_digit : ℕ → ℕ → ℕ
with_digit n b = min (n * 10 + (b - 48)) last_order
