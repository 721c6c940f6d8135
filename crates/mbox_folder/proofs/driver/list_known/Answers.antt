use Rattle.std.proofs.Common.{length, map, sym, ◌∙◌}
use Rattle.std.proofs.lemmas.List.{length-map}
use Rattle.folder_letters.specs.Letters.{plain_letter}
use Rattle.mbox_folder.proofs.Unchanged.{finds_nothing, refuses_known}
use Rattle.mbox_folder.proofs.driver.list_known.Goals as goal

pub returns-in-None-clause-ok : goal.returns-in-None-clause-ok
returns-in-None-clause-ok c =
    finds_nothing c.find_nothing.result c.args.file (map plain_letter c.args.archive.now.items)
    c.args.known.now c.len.result c.in-None.is
    (c.len.ensures ∙ sym (length-map c.args.archive.now.items plain_letter)) c.requires.right
    c.requires.kept c.find_nothing.ensures.ok c.find_nothing.ensures.nothing

pub returns-in-None-clause-unlisted : goal.returns-in-None-clause-unlisted
returns-in-None-clause-unlisted c =
    refuses_known c.find_nothing.result c.args.file (map plain_letter c.args.archive.now.items)
    c.args.known.now c.len.result (length c.args.archive.now.items) c.in-None.is c.len.ensures
    c.requires.right c.requires.kept c.find_nothing.ensures.refused
