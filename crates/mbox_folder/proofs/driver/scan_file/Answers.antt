use Rattle.std.proofs.Common.{rules, ◌≡◌, ◌<◌, ◌+◌, ℕ, List, Ok, Err, map, length, subst, sym}
use Rattle.std.proofs.lemmas.List.{length-map}
use Rattle.folder_core.specs.Keeping.{mails_of}
use Rattle.folder_core.specs.Known.{KnownFolder}
use Rattle.folder_core.specs.Limits.{most_letters, most_messages}
use Rattle.folder_core.specs.declared.error.ScanError.TheVariants.{ArchiveFull, Missing}
use Rattle.folder_letters.specs.Letters.{plain_letter}
use Rattle.folder_letters.specs.declared.letter.Letter.{Letter}
use Rattle.mbox_folder.specs.FileSeen.{bytes_now}
use Rattle.mbox_folder.specs.ListedFile.{IsUnlisted}
use Rattle.mbox_folder.proofs.Driving.{file_first, full_unlisted, lists_found, no_missing}
use Rattle.mbox_folder.proofs.Driving.{right_found, right_kept, saw_found, saw_unlisted}
use Rattle.mbox_folder.proofs.driver.scan_file.Goals as goal

pub returns-in-Ok-list_known : goal.returns-in-Ok-list_known
returns-in-Ok-list_known g c = record {
  saw = saw_found c.in-Ok.file c.in-Ok-list_known.found _ _ c.args.known.now _ _ _
      c.in-Ok-list_known.ensures.ok c.in-Ok.ensures.few c.in-Ok.ensures.saw;
  lists = lists_found c.in-Ok.file c.in-Ok-list_known.found _ _ _ _ _ c.requires
      c.in-Ok-list_known.ensures.ok;
  reads = c.in-Ok.ensures.costs;
  first = file_first (Ok c.in-Ok-list_known.found) c.in-Ok.file _ _ _ (λ e. (cc))
      c.in-Ok.ensures.first;
  within = c.in-Ok.ensures.meets.within;
  err_archive = search rules;
  err_known = search rules;
  right = right_found c.in-Ok.file c.in-Ok-list_known.found _ _ c.args.known.now _ _ _ c.requires
      c.in-Ok-list_known.ensures.ok c.in-Ok.ensures.few c.in-Ok.ensures.kept c.in-Ok.ensures.saw;
  full = search rules;
  only = c.in-Ok.ensures.meets.only;
  cause = search rules;
}

pub returns-in-Err-list_known : goal.returns-in-Err-list_known
returns-in-Err-list_known g c =
    let why = c.in-Err-list_known.why in
    let known : KnownFolder = c.args.known.now in
    let letters : List Letter = c.args.archive.now.items in
    let same : c.shorten.new.self.items ≡ letters = search rules in
    let bytes = bytes_now known c.in-Ok.file in
    let unlisted : IsUnlisted bytes (mails_of (map plain_letter letters) known.listing)
    (length (map plain_letter letters)) why =
    subst (λ (n : ℕ). IsUnlisted bytes (mails_of (map plain_letter letters) known.listing) n why)
    (sym (length-map letters plain_letter)) c.in-Err-list_known.ensures.unlisted in
    record {
      saw = saw_unlisted why c.in-Ok.file (map plain_letter letters)
          (map plain_letter c.shorten.new.self.items) known c.list_known.new.known _ _ unlisted
          c.in-Ok.ensures.saw;
      lists = tt;
      reads = tt;
      first = file_first (Err why) c.in-Ok.file _ _ _
          (λ e. let missing : why ≡ Missing = cc in
          no_missing why bytes (mails_of (map plain_letter letters) known.listing)
          (length (map plain_letter letters)) missing unlisted)
          c.in-Ok.ensures.first;
      within = c.in-Ok.ensures.meets.within;
      err_archive = same;
      err_known = c.in-Err-list_known.ensures.unknown;
      right = right_kept letters _ known _ _ _ same c.in-Err-list_known.ensures.unknown
          c.in-Ok.ensures.meets.only.looks c.requires;
      full = λ is. let full : why ≡ ArchiveFull = cc in
          subst (λ (n : ℕ). most_letters < n + most_messages) (length-map letters plain_letter)
          (full_unlisted (length (map plain_letter letters)) bytes
          (mails_of (map plain_letter letters) known.listing) why full unlisted);
      only = c.in-Ok.ensures.meets.only;
      cause = search rules;
    }
