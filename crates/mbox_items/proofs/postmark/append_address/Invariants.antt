use Rattle.std.proofs.Common.{◌≡◌, ◌++◌, take}
use Rattle.std.specs.List.{filter}
use Rattle.folder_drivers.specs.MboxPostmark.{is_sender_byte}
use Rattle.mbox_items.proofs.postmark.append_address.Given as goal

abbrev pub invariant-loop-byte : goal.invariant-loop-byte
invariant-loop-byte l =
    l.text.items ≡ l.fn.text.items ++ filter is_sender_byte (take l.byte-index l.address)
