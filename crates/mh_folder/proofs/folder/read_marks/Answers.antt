use Rattle.std.proofs.Common.{◌∙◌, subst}
use Rattle.mh_sequences.specs.Marks.{AreMarks}
use Rattle.disk_model.proofs.Looking.{looks_same}
use Rattle.folder_core.proofs.CostsLemmas.{raises_same}
use Rattle.mh_folder.proofs.FolderLemmas.{no_content, nothing_marked, sequences_read}
use Rattle.mh_folder.proofs.FolderLemmas.{sequences_unread, whole_marked}
use Rattle.mh_folder.proofs.folder.read_marks.Goals as goal

pub returns-in-NoFile-clause-read : goal.returns-in-NoFile-clause-read
returns-in-NoFile-clause-read g c =
    nothing_marked c.args.path.now c.as_str.result.now _ c.in_ok-content_of.field-0
    c.in_ok-read-in-NoFile.field-0 _ _
    (c.as_str.ensures.value ∙ c.in_ok-file.ensures) c.in-NoFile.is c.in_ok-read-in-NoFile.ensures
    c.in_ok-content_of.ensures.looked.saw

pub returns-in-Whole-clause-read : goal.returns-in-Whole-clause-read
returns-in-Whole-clause-read g c =
    whole_marked c.args.path.now c.as_str.result.now _ c.in_ok-content_of.field-0 c.in-Whole.read
    c.in_ok-read-in-Whole.field-0 _ _ (c.as_str.ensures.value ∙ c.in_ok-file.ensures) c.in-Whole.is
    (subst (λ bytes. AreMarks bytes c.in_ok-read-in-Whole.field-0) c.as_slice.ensures
    c.in_ok-read-in-Whole.ensures)
    c.in_ok-content_of.ensures.looked.saw

pub returns-in_err-file-clause-reads : goal.returns-in_err-file-clause-reads
returns-in_err-file-clause-reads g c =
    sequences_unread c.args.path.now _ _ (looks_same _) (raises_same _)

pub returns-in_err-content_of-clause-reads : goal.returns-in_err-content_of-clause-reads
returns-in_err-content_of-clause-reads g c =
    sequences_unread c.args.path.now _ _ c.content_of.ensures.looked.only.looks
    c.in_err-content_of.ensures.reads

pub returns-in-NoFile-clause-reads : goal.returns-in-NoFile-clause-reads
returns-in-NoFile-clause-reads g c =
    sequences_unread c.args.path.now _ _ c.content_of.ensures.looked.only.looks
    (no_content c.in_ok-content_of.field-0 _ _ c.in-NoFile.is c.in_ok-content_of.ensures.reads)

pub returns-in_err-read-in-NoFile-clause-reads : goal.returns-in_err-read-in-NoFile-clause-reads
returns-in_err-read-in-NoFile-clause-reads g c =
    sequences_unread c.args.path.now _ _ c.content_of.ensures.looked.only.looks
    (no_content c.in_ok-content_of.field-0 _ _ c.in-NoFile.is c.in_ok-content_of.ensures.reads)

pub returns-in-Whole-clause-reads : goal.returns-in-Whole-clause-reads
returns-in-Whole-clause-reads g c =
    sequences_read c.args.path.now c.as_str.result.now _ c.in_ok-content_of.field-0 c.in-Whole.read
    _ _ (c.as_str.ensures.value ∙ c.in_ok-file.ensures) c.in-Whole.is
    c.in_ok-content_of.ensures.looked.saw c.in_ok-content_of.ensures.reads

pub returns-in_err-read-in-Whole-clause-reads : goal.returns-in_err-read-in-Whole-clause-reads
returns-in_err-read-in-Whole-clause-reads g c =
    sequences_read c.args.path.now c.as_str.result.now _ c.in_ok-content_of.field-0 c.in-Whole.read
    _ _ (c.as_str.ensures.value ∙ c.in_ok-file.ensures) c.in-Whole.is
    c.in_ok-content_of.ensures.looked.saw c.in_ok-content_of.ensures.reads
