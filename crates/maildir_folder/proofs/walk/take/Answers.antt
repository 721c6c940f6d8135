use Rattle.std.proofs.Common.{◌∙◌, List, ap, length, map}
use Rattle.folder_core.specs.Keeping.{mail_of}
use Rattle.folder_letters.specs.Letters.{plain_letter}
use Rattle.folder_letters.specs.declared.letter.Letter.{Letter}
use Rattle.maildir_folder.specs.Candidates.{plain_file}
use Rattle.maildir_folder.proofs.Storing.{took_known}
use Rattle.maildir_folder.proofs.WalkSteps.{found_id, found_there}
use Rattle.maildir_folder.proofs.walk.take.Goals as goal

pub core_size-size-requires : goal.core_size-size-requires
core_size-size-requires g c =
    found_there c.args.archive.now.items c.as_slice-in-Some.result.now c.args.known.now
    (plain_file c.args.file.now) c.in-Some.id.0 c.as_slice-in-Some.ensures c.requires.known
    (found_id c.args.archive.now.items c.as_slice.result.now c.args.known.now
    c.as_slice-listing.result.now c.deref.result.now c.args.file.now c.known_id.result c.in-Some.id
    c.as_slice.ensures (c.as_slice-listing.ensures ∙ c.listing.ensures)
    (c.deref.ensures.value ∙ c.requires.file.base) c.in-Some.is c.known_id.ensures)

pub returns-in-Ok-clause-taken : goal.returns-in-Ok-clause-taken
returns-in-Ok-clause-taken g c =
    took_known c.path.result.now c.args.known.now.path (plain_file c.args.file.now)
    c.args.archive.now.items _
    c.in-Some.id.0 c.core_size-size.result c.in-Ok.kept c.args.so_far.now c.keep.new.so_far _ _
    c.path.ensures
    (found_id c.args.archive.now.items c.as_slice.result.now c.args.known.now
    c.as_slice-listing.result.now c.deref.result.now c.args.file.now c.known_id.result c.in-Some.id
    c.as_slice.ensures (c.as_slice-listing.ensures ∙ c.listing.ensures)
    (c.deref.ensures.value ∙ c.requires.file.base) c.in-Some.is c.known_id.ensures)
    (c.core_size-size.ensures
    ∙ ap (λ (l : List Letter). length (mail_of (map plain_letter l) c.in-Some.id.0).core)
    c.as_slice-in-Some.ensures)
    c.in-Ok.ensures.kept
