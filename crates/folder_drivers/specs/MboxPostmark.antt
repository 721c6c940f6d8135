-- The postmark of a message that is added to a mailbox (mbox(5)).
use Rattle.std.specs.Prelude.{ℕ, ℤ, Bool, ◌&&◌, nat_le, List, [], ◌∷◌, ◌++◌, codes}
use Rattle.std.specs.List.{filter}
use Rattle.folder_drivers.specs.MboxStamp.{spaced, stamp_text}

-- a byte that may stand in the sender of a postmark
abbrev pub is_sender_byte : ℕ → Bool
is_sender_byte byte = nat_le 33 byte && nat_le byte 126

-- a name, or that of the mailer where there is none
abbrev pub or_daemon : List ℕ → List ℕ
or_daemon [] = codes "MAILER-DAEMON"
or_daemon (byte ∷ name) = byte ∷ name

-- the sender in a postmark, by an address that may be empty
abbrev pub sender : List ℕ → List ℕ
sender address = or_daemon (filter is_sender_byte address)

-- the postmark of a message from an address, which was received at a moment
unfoldable pub postmark_line : List ℕ → ℤ → List ℕ
postmark_line address moment =
    spaced (codes "From") (spaced (sender address) (stamp_text moment ++ codes "\n"))
