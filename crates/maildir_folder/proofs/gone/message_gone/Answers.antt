use Rattle.std.proofs.Common.{◌≡◌, ◌==◌, ◌∙◌, ℕ, List, Some, ap, map, subst}
use Rattle.std.specs.Prelude.{IfSome, Option, find}
use Rattle.folder_core.specs.Keeping.{mail_of}
use Rattle.folder_core.specs.Maildir.{path_of}
use Rattle.folder_letters.specs.Letters.{plain_letter}
use Rattle.folder_letters.specs.declared.listing.Listed.{Listed}
use Rattle.folder_changes.specs.Serving.{IsErrorAt}
use Rattle.folder_drivers.specs.MaildirSync.{file_known}
use Rattle.maildir_folder.proofs.PlanLemmas.{letter_key}
use Rattle.std.proofs.Common.{sym}
use Rattle.maildir_folder.proofs.CauseLemmas.{not_unlisted}
use Rattle.maildir_folder.proofs.SyncedLemmas.{gone_file}
use Rattle.maildir_folder.proofs.gone.message_gone.Goals as goal

pub returns-clause-at : goal.returns-clause-at
returns-clause-at c =
    let key : c.as_slice-key.result.now
    ≡ (mail_of (map plain_letter c.args.archive.now) c.args.id.0).key =
    c.as_slice-key.ensures ∙ letter_key c.args.archive.now c.args.id.0 _ c.requires.within in
    let names : Listed → Type 0 = λ listed. IsErrorAt (path_of c.args.known.now.path
    (file_known (mail_of (map plain_letter c.args.archive.now) c.args.id.0).key listed.flags))
    c.file_gone.result in
    let found : Some c.in-Some.listed.now
    ≡ find (λ listed. listed.id.0 == c.args.id.0) c.args.known.now.listing =
    c.in-Some.ensures ∙ ap (find (λ listed. listed.id.0 == c.args.id.0))
    (c.as_slice.ensures ∙ c.listing.ensures) in
    subst (λ (o : Option Listed). IfSome o names) found
    (subst (λ (base : List ℕ). IsErrorAt (path_of c.args.known.now.path
    (file_known base c.in-Some.listed.now.flags)) c.file_gone.result) key
    (subst (λ (path : List ℕ). IsErrorAt (path_of path (file_known c.as_slice-key.result.now
    c.in-Some.listed.now.flags)) c.file_gone.result) c.path.ensures c.file_gone.ensures.at))

pub returns-clause-names : goal.returns-clause-names
returns-clause-names c =
    let key : c.as_slice-key.result.now
    ≡ (mail_of (map plain_letter c.args.archive.now) c.args.id.0).key =
    c.as_slice-key.ensures ∙ letter_key c.args.archive.now c.args.id.0 _ c.requires.within in
    gone_file c.args.known.now.path c.as_slice-key.result.now
    (map plain_letter c.args.archive.now) c.args.id c.in-Some.listed.now.flags c.file_gone.result
    key
    (subst (λ (path : List ℕ). IsErrorAt (path_of path (file_known c.as_slice-key.result.now
    c.in-Some.listed.now.flags)) c.file_gone.result) c.path.ensures c.file_gone.ensures.at)

pub unreachable-requires : goal.unreachable-requires
unreachable-requires c =
    not_unlisted c.args.known.now.listing c.args.id.0 c.requires.listed
    (sym (c.in-None.ensures ∙ ap (find (λ listed. listed.id.0 == c.args.id.0))
    (c.as_slice.ensures ∙ c.listing.ensures)))
