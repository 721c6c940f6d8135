-- When a check of the folder is due, and what it makes of the index and of the listing.
use Rattle.std.specs.Prelude.{◌≡◌, ◌&&◌, ◌||◌, ℤ, Bool, true, false, not, List, Option, None}
use Rattle.std.specs.Prelude.{if◌then◌else◌}
use Rattle.folder_letters.specs.Letters.{Mail}
use Rattle.folder_core.specs.declared.error.ScanError.{ScanError}
use Rattle.folder_core.specs.declared.error.ScanError.TheVariants.{NoMemory}
use Rattle.keymap.specs.Keymap.{has_begun}
use Rattle.keymap.specs.declared.key.Key.{Key}
use Rattle.keymap.specs.declared.menu.Menu.{Menu}
use Rattle.keymap.specs.declared.menu.Menu.TheVariants as menu
use Rattle.prompts.specs.Prompts.{PlainPrompt}
use Rattle.session_events.specs.Causes.{check_refusal}
use Rattle.session_events.specs.Events.{PlainFound, held_found}
use Rattle.session_index.specs.Opening.{checked, taken_if}
use Rattle.session_screen.specs.Checks.{is_over}
use Rattle.session_index.specs.Desk.{PlainDesk}
use Rattle.session.specs.Core.{CoreState, shown_menu, with_desk}

-- the index is shown, no prompt stands, and no bound sequence was begun
abbrev pub is_free : Menu → Option PlainPrompt → List Key → Bool
is_free menu.Index None begun = not (has_begun begun)
is_free _ _ begun = false

-- a check is due before a key that is typed at a moment: the index takes keys, and the last sync
-- was refused, or the last check was as long ago as `$mail_check` says (Mutt's manual,
-- "mail_check")
abbrev pub is_due : Bool → ℤ → CoreState → ℤ → Bool
is_due refused checked c moment =
    is_free (shown_menu c) c.desk.prompt c.rules.keymap.begun
    && (refused || is_over c.rules.settings checked moment)

-- what a check found is taken in without a text
abbrev pub taken_quietly : List Mail → PlainFound → PlainDesk → PlainDesk
taken_quietly mails found d = taken_if mails (held_found found) found.gone found.reflagged
    found.came d

-- what a check found is taken in, and told unless it is quiet
abbrev pub found_again : Bool → List Mail → PlainFound → CoreState → CoreState
found_again quiet mails found c = with_desk
    (if quiet then taken_quietly mails found c.desk else checked mails (held_found found) c.desk) c

-- a check that was refused is told, unless it is quiet
abbrev pub refused_again : Bool → ScanError → CoreState → CoreState
refused_again quiet why c = with_desk
    (if quiet then c.desk else record c.desk { message = check_refusal why }) c

-- what was known is a part of it from a check on that had too little memory
abbrev pub forgot_by : ScanError → Bool → Bool
forgot_by NoMemory forgot = true
forgot_by _ forgot = forgot

-- the index is shown
abbrev pub IsIndexShown : CoreState → Type 0
IsIndexShown c = shown_menu c ≡ menu.Index
