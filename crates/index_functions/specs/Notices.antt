-- What the message line says of the index and of the folder.
use Rattle.std.specs.Prelude.{ℕ, List, codes}
use Rattle.index_functions.specs.declared.notice.Notice.{Notice}
use Rattle.index_functions.specs.declared.notice.Notice.TheVariants.{NoMessages, NoUndeleted}
use Rattle.index_functions.specs.declared.notice.Notice.TheVariants.{OnLast, OnFirst, NoUnread}
use Rattle.index_functions.specs.declared.notice.Notice.TheVariants.{NoThread, NoParent}
use Rattle.index_functions.specs.declared.notice.Notice.TheVariants.{ParentHidden, NoTagged}
use Rattle.index_functions.specs.declared.notice.Notice.TheVariants.{NotFound, NotThreaded}
use Rattle.index_functions.specs.declared.notice.Notice.TheVariants.{ReadOnly, NotBound}
use Rattle.index_functions.specs.declared.notice.Notice.TheVariants.{MacroLoop, NewMail}
use Rattle.index_functions.specs.declared.notice.Notice.TheVariants.{Modified, CheckStarved}
use Rattle.index_functions.specs.declared.notice.Notice.TheVariants.{Unchanged, QuitForbidden}

-- what the last line says (Mutt's manual, "Functions")
abbrev pub notice_text : Notice → List ℕ
notice_text NoMessages = codes "There are no messages."
notice_text NoUndeleted = codes "No undeleted messages."
notice_text OnLast = codes "You are on the last message."
notice_text OnFirst = codes "You are on the first message."
notice_text NoUnread = codes "No unread messages."
notice_text NoThread = codes "No more threads."
notice_text NoParent = codes "Parent message is not available."
notice_text ParentHidden = codes "Parent message is not visible."
notice_text NoTagged = codes "No tagged messages."
notice_text NotFound = codes "Not found."
notice_text NotThreaded = codes "Threading is not enabled."
notice_text ReadOnly = codes "Mailbox is read-only."
notice_text NotBound = codes "Key is not bound."
notice_text MacroLoop = codes "Macro loop."
notice_text NewMail = codes "New mail in this mailbox."
notice_text Modified = codes "Mailbox was externally modified. Flags may be wrong."
notice_text CheckStarved = codes "Check failed: no memory"
notice_text Unchanged = codes "Mailbox is unchanged."
notice_text QuitForbidden = codes "Quit is not allowed."
