use Rattle.std.proofs.Common.{◌∙◌, true}
use Rattle.folder_core.specs.Maildir.{directory}
use Rattle.folder_core.specs.declared.looks.Contents.TheVariants.{File, Nothing}
use Rattle.maildir_folder.proofs.Finding.{contents_told, cur_file, cur_missing, names_none}
use Rattle.maildir_folder.proofs.files.cur_names.Goals as goal

pub returns-in-Nothing-clause-found : goal.returns-in-Nothing-clause-found
returns-in-Nothing-clause-found g c =
    names_none c.args.path.now (directory true c.args.path.now) Nothing _ _
    c.contents_of.ensures.looked.only c.contents_of.ensures.reads
    (cur_missing c.args.path.now)
    (contents_told c.as_str.result.now (directory true c.args.path.now)
    c.in_ok-names.field-0 Nothing _ _
    (c.as_str.ensures.value ∙ c.in_ok-dir.ensures) c.in-Nothing.is
    c.in_ok-names.ensures.looked.saw)

pub returns-clause-found : goal.returns-clause-found
returns-clause-found g c =
    names_none c.args.path.now (directory true c.args.path.now) File _ _
    c.contents_of.ensures.looked.only c.contents_of.ensures.reads
    (cur_file c.args.path.now)
    (contents_told c.as_str.result.now (directory true c.args.path.now)
    c.in_ok-names.field-0 File _ _
    (c.as_str.ensures.value ∙ c.in_ok-dir.ensures) c.in-File.is
    c.in_ok-names.ensures.looked.saw)
