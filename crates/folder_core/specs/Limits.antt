-- How much of a folder is listed.
use Rattle.std.specs.Prelude.{◌+◌, ℕ, List, Option, Some, None, length, min, nat_lt, if◌then◌else◌}
use Rattle.folder_core.specs.declared.error.ScanError.{ScanError}
use Rattle.folder_core.specs.declared.error.ScanError.TheVariants.{TooMany, TooLarge, ArchiveFull}
use Rattle.folder_core.specs.Keeping.{count_fresh}
use Rattle.folder_core.specs.Message.{Message, bytes_together}

-- the most messages that are listed: a folder of more is refused (TooMany)
abbrev pub most_messages : ℕ
most_messages = 65_535

-- the most bytes of a folder, of the file of an mbox and of the messages of a directory together: a
-- folder of more is refused (TooLarge)
abbrev pub most_bytes : ℕ
most_bytes = 536_870_912

-- the most letters of an archive: a folder whose letters would not fit is refused (ArchiveFull)
abbrev pub most_letters : ℕ
most_letters = 4_294_967_295

-- a sum as it is told: 2^64 - 1 stands for all above it
abbrev pub told_sum : ℕ → ℕ
told_sum n = min n 18_446_744_073_709_551_615

-- why so many messages, of which so many are new, are not listed beside an archive of so many
-- letters
abbrev pub count_refusal : ℕ → ℕ → ℕ → Option ScanError
count_refusal letters fresh count =
    if nat_lt most_messages count then Some (TooMany count)
    else (if nat_lt most_letters (letters + fresh) then Some ArchiveFull else None)

-- the same of so many messages of so many bytes together
abbrev pub sum_refusal : ℕ → ℕ → ℕ → ℕ → Option ScanError
sum_refusal letters fresh count bytes =
    if nat_lt most_messages count then Some (TooMany count)
    else (if nat_lt most_bytes bytes then Some (TooLarge (told_sum bytes))
    else count_refusal letters fresh count)

-- why the messages of a directory, some of them known before, are not listed beside an archive of
-- so many letters
abbrev pub list_refusal : ℕ → List (Option ℕ) → List Message → Option ScanError
list_refusal letters keeps messages =
    sum_refusal letters (count_fresh keeps) (length messages) (bytes_together messages)
