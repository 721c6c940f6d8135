-- How many bytes are read.
use Rattle.std.proofs.Common.{◌≡◌, ◌+◌, ℕ, List, [], ◌∷◌, Option, Some}
use Rattle.std.proofs.Common.{None, length, drop, refl, sym, ap, ◌∙◌, arith}
use Rattle.std.proofs.Math.Seq.{drop-append_seam}
use Rattle.disk_model.specs.Looking.{OnlyLooks}
use Rattle.disk_model.specs.Seen.{Seen}
use Rattle.folder_core.specs.Costs.{RaisesAtMost, cores_together, letters_behind}
use Rattle.folder_letters.specs.Letters.{Mail}
use Rattle.folder_core.specs.Keeping.{letters_by}
use Rattle.folder_core.specs.Known.{KnownFolder}
use Rattle.folder_core.specs.Limits.{list_refusal, sum_refusal}
use Rattle.folder_core.specs.ListedSoFar.{Store}
use Rattle.folder_core.specs.Maildir.{MaildirFile, maildir_format, maildir_letter}
use Rattle.folder_core.specs.Message.{Message}
use Rattle.folder_core.proofs.CostsLemmas.{raises_more, raises_then}
use Rattle.folder_core.proofs.ListedSoFarLemmas.{held_refusal}
use Rattle.maildir_folder.specs.Walk.{IsWalked, fresh_bytes}

-- the letters of messages that were not known have their bytes
cores_of : (next : ℕ) (keeps : List (Option ℕ)) (messages : List Message)
    → cores_together (letters_by maildir_letter next keeps messages) ≡ fresh_bytes keeps messages
cores_of next [] [] = refl
cores_of next [] (message ∷ messages) = refl
cores_of next (keep ∷ keeps) [] = refl
cores_of next (None ∷ keeps) (message ∷ messages) =
    ap (λ n. length message.raw + n) (cores_of (next + 1) keeps messages)
cores_of next (Some id ∷ keeps) (message ∷ messages) = cores_of next keeps messages

-- the scan of a folder reads no more than the cores of the letters that it adds
pub folder_costs : (mails : List Mail) (known : KnownFolder) (files : List MaildirFile)
    (first store : Store) (a b c : Seen)
    → sum_refusal store.letters store.fresh store.count store.bytes ≡ None
    → OnlyLooks a b → OnlyLooks b c → IsWalked mails known files first store b c
    → RaisesAtMost a.bytes_read b.bytes_read 0
    → RaisesAtMost a.bytes_read c.bytes_read
    (cores_together (letters_behind first.archive store.archive))
folder_costs mails known files first store a b c none before next walked looks =
    let w = walked.walked in
    let taken : list_refusal first.letters walked.keeps walked.messages ≡ None =
    sym (held_refusal maildir_format first store walked.keeps walked.messages w.holds) ∙ none in
    let added : List Mail =
    letters_by maildir_letter first.letters walked.keeps walked.messages in
    let behind : letters_behind first.archive store.archive ≡ added =
    ap (drop (length first.archive)) (w.holds.archive taken)
    ∙ drop-append_seam first.archive added in
    let cores : cores_together (letters_behind first.archive store.archive)
    ≡ fresh_bytes walked.keeps walked.messages =
    ap cores_together behind ∙ cores_of first.letters walked.keeps walked.messages in
    raises_more a.bytes_read c.bytes_read (0 + fresh_bytes walked.keeps walked.messages)
    (cores_together (letters_behind first.archive store.archive)) (omega (arith, cores))
    (raises_then a.bytes_read b.bytes_read c.bytes_read 0
    (fresh_bytes walked.keeps walked.messages) looks w.reads)
