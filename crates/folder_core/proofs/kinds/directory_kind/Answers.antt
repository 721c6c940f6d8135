use Rattle.std.proofs.Common.{Err, ap, map, refl, sym}
use Rattle.folder_core.specs.declared.error.ScanError.TheVariants.{NotMailbox}
use Rattle.disk_model.proofs.Looking.{looks_then}
use Rattle.folder_core.proofs.KindsLemmas.{kind_by, kind_seen, maildir_seen, names_seen}
use Rattle.folder_core.proofs.KindsLemmas.{unlisted_seen}
use Rattle.folder_core.proofs.SeenLemmas.{only_then}
use Rattle.folder_core.proofs.kinds.directory_kind.Goals as goal

pub returns-then-branch-clause-kind : goal.returns-then-branch-clause-kind
returns-then-branch-clause-kind g c = λ empty.
    maildir_seen empty c.args.path.now c.in_ok-has_folder.field-0 _ _ _ c.if-branch.true
    c.in_ok-has_folder.ensures.saw

pub returns-in_err-names-clause-only : goal.returns-in_err-names-clause-only
returns-in_err-names-clause-only g c =
    only_then _ _ _ c.has_folder.ensures.only c.contents_of.ensures.looked.only

pub returns-in_default : goal.returns-in_default
returns-in_default g c = record {
  kind = λ empty. unlisted_seen (Err (NotMailbox 0)) empty c.args.path.now _ _ _ _
      c.in_default.not-Names
      c.has_folder.ensures.only.looks c.contents_of.ensures.looked.only.looks
      c.in_ok-names.ensures.looked.saw;
  errors = refl;
  only = only_then _ _ _ c.has_folder.ensures.only c.contents_of.ensures.looked.only;
  cause = λ is. absurd (cc);
}

pub returns-in_err-has_mh_names-clause-only : goal.returns-in_err-has_mh_names-clause-only
returns-in_err-has_mh_names-clause-only g c =
    only_then _ _ _ c.has_folder.ensures.only
    (only_then _ _ _ c.contents_of.ensures.looked.only c.has_mh_names.ensures.only)

pub returns-then-branch-2-clause-kind : goal.returns-then-branch-2-clause-kind
returns-then-branch-2-clause-kind g c = λ empty.
    kind_seen _ empty (map (λ name. name.items) c.as_slice.result.now) c.args.path.now
    c.in_ok-has_mh_names.field-0 _ _ _ (sym (ap kind_by c.if-branch-2.true))
    (looks_then _ _ _ c.has_folder.ensures.only.looks c.contents_of.ensures.looked.only.looks)
    c.has_mh_names.ensures.only.looks
    (names_seen c.in-Names.names c.as_slice.result.now c.args.path.now _ c.in_ok-has_folder.field-0
    _ _ _ _
    c.as_slice.ensures c.in-Names.is c.if-branch.false
    c.has_folder.ensures.only.looks c.contents_of.ensures.looked.only.looks
    c.in_ok-has_folder.ensures.saw
    c.in_ok-names.ensures.looked.saw)
    c.in_ok-has_mh_names.ensures.seen

pub returns-then-branch-2-clause-only : goal.returns-then-branch-2-clause-only
returns-then-branch-2-clause-only g c =
    only_then _ _ _ c.has_folder.ensures.only
    (only_then _ _ _ c.contents_of.ensures.looked.only c.has_mh_names.ensures.only)

pub returns-clause-kind : goal.returns-clause-kind
returns-clause-kind g c = λ empty.
    kind_seen _ empty (map (λ name. name.items) c.as_slice.result.now) c.args.path.now
    c.in_ok-has_mh_names.field-0 _ _ _ (sym (ap kind_by c.if-branch-2.false))
    (looks_then _ _ _ c.has_folder.ensures.only.looks c.contents_of.ensures.looked.only.looks)
    c.has_mh_names.ensures.only.looks
    (names_seen c.in-Names.names c.as_slice.result.now c.args.path.now _ c.in_ok-has_folder.field-0
    _ _ _ _
    c.as_slice.ensures c.in-Names.is c.if-branch.false
    c.has_folder.ensures.only.looks c.contents_of.ensures.looked.only.looks
    c.in_ok-has_folder.ensures.saw
    c.in_ok-names.ensures.looked.saw)
    c.in_ok-has_mh_names.ensures.seen

pub returns-clause-only : goal.returns-clause-only
returns-clause-only g c =
    only_then _ _ _ c.has_folder.ensures.only
    (only_then _ _ _ c.contents_of.ensures.looked.only c.has_mh_names.ensures.only)
