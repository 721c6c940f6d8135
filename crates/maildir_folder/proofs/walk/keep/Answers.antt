use Rattle.std.proofs.Common.{◌∙◌, [], ap, false, not, refl, true}
use Rattle.mail_base.specs.declared.flags.Flags.{Flags}
use Rattle.folder_core.specs.ListedSoFar.{store_known, store_of}
use Rattle.maildir_folder.specs.Candidates.{plain_file}
use Rattle.maildir_folder.proofs.Storing.{is_file, known_seen}
use Rattle.maildir_folder.proofs.walk.keep.Goals as goal

pub returns-then-stat-clause-kept : goal.returns-then-stat-clause-kept
returns-then-stat-clause-kept g c = record {
  store_is = refl;
  reads = c.in_ok-stat_at.ensures.reads;
  saw = known_seen c.args.path.now (plain_file c.args.file.now) c.in_ok-stat_at.field-0 false _ _
      (ap is_file c.in-Some.is ∙ ap not c.if-stat.true) c.in_ok-stat_at.ensures.looked.saw;
}

pub returns-in-None-clause-kept : goal.returns-in-None-clause-kept
returns-in-None-clause-kept g c = record {
  store_is = refl;
  reads = c.in_ok-stat_at.ensures.reads;
  saw = known_seen c.args.path.now (plain_file c.args.file.now) c.in_ok-stat_at.field-0 false _ _
      (ap is_file c.in-None.is) c.in_ok-stat_at.ensures.looked.saw;
}

pub returns-in-Ok-clause-kept : goal.returns-in-Ok-clause-kept
returns-in-Ok-clause-kept g c = record {
  store_is = c.in-Ok.ensures
      ∙ ap (λ (f : Flags). store_known c.args.id.0 f c.args.size
      (store_of c.args.so_far.now [])) c.flags_in.ensures;
  reads = c.in_ok-stat_at.ensures.reads;
  saw = known_seen c.args.path.now (plain_file c.args.file.now) c.in_ok-stat_at.field-0 true _ _
      (ap is_file c.in-Some.is ∙ ap not c.if-stat.false) c.in_ok-stat_at.ensures.looked.saw;
}
