use Rattle.std.proofs.Common.{ap, arith, false, inr, refl, true}
use Rattle.maildir_folder.specs.Candidates.{plain_file}
use Rattle.folder_core.specs.ListedSoFar.{Store, store_of}
use Rattle.folder_core.specs.declared.listed_so_far.ListedSoFar.{ListedSoFar}
use Rattle.folder_core.proofs.ReadsLemmas.{left_no_file, left_read, left_too_long, left_unread}
use Rattle.maildir_folder.proofs.Storing.{took_long, took_none, took_whole}
use Rattle.maildir_folder.proofs.walk.read.Goals as goal

pub returns-in-NoFile-clause-taken : goal.returns-in-NoFile-clause-taken
returns-in-NoFile-clause-taken g c mails =
    took_none mails c.args.path.now (plain_file c.args.file.now) c.limit.result
    c.in_ok-content_at.field-0 (store_of c.args.so_far.now c.args.archive.now.items) _ _
    c.in-NoFile.is c.in_ok-content_at.ensures.reads c.in_ok-content_at.ensures.looked.saw

pub returns-in-TooLong-clause-taken : goal.returns-in-TooLong-clause-taken
returns-in-TooLong-clause-taken g c mails =
    took_long mails c.args.path.now (plain_file c.args.file.now) c.limit.result
    c.in_ok-content_at.field-0
    c.in-TooLong.size (store_of c.args.so_far.now c.args.archive.now.items) _ _ _
    c.limit.ensures c.in-TooLong.is
    c.in_ok-content_at.ensures.fits
    (ap (λ (w : ListedSoFar). store_of w c.args.archive.now.items) c.count_one.ensures)
    c.in_ok-content_at.ensures.reads c.in_ok-content_at.ensures.looked.saw

pub returns-in-Ok-clause-taken : goal.returns-in-Ok-clause-taken
returns-in-Ok-clause-taken g c mails =
    took_whole mails c.args.path.now (plain_file c.args.file.now) c.limit.result
    c.in_ok-content_at.field-0 c.in-Whole.read
    (store_of c.args.so_far.now c.args.archive.now.items) _ _ _
    c.in-Whole.is c.in-Ok.ensures.ok
    c.in_ok-content_at.ensures.reads c.in_ok-content_at.ensures.looked.saw

pub returns-in-NoFile-clause-walks : goal.returns-in-NoFile-clause-walks
returns-in-NoFile-clause-walks g c = record {
  meets = record {
    only = c.content_at.ensures.looked.only;
    cause = λ is. absurd (cc);
    errors = tt;
  };
  reads = left_no_file false c.args.so_far.now.bytes c.in_ok-content_at.field-0 _ _ c.in-NoFile.is
      c.in_ok-content_at.ensures.reads;
}

pub returns-in-TooLong-clause-walks : goal.returns-in-TooLong-clause-walks
returns-in-TooLong-clause-walks g c = record {
  meets = record {
    only = c.content_at.ensures.looked.only;
    cause = λ is. absurd (cc);
    errors = tt;
  };
  reads = left_too_long true c.args.so_far.now.bytes _ c.in-TooLong.size
      c.in_ok-content_at.field-0 _ _ (ap (λ (w : ListedSoFar). w.bytes) c.count_one.ensures)
      c.in-TooLong.is c.in_ok-content_at.ensures.reads;
}

pub returns-in-Ok-clause-walks : goal.returns-in-Ok-clause-walks
returns-in-Ok-clause-walks g c = record {
  meets = record {
    only = c.content_at.ensures.looked.only;
    cause = λ is. absurd (cc);
    errors = tt;
  };
  reads = left_read true c.args.so_far.now.bytes _ c.limit.result c.in-Whole.read
      c.in_ok-content_at.field-0 _ _ c.limit.ensures c.in-Whole.is
      c.in_ok-content_at.ensures.fits
      (let counted = ap (λ (s : Store). s.bytes) c.in-Ok.ensures.ok in
      omega (arith, counted))
      c.in_ok-content_at.ensures.reads;
}

pub returns-in-Err-clause-walks : goal.returns-in-Err-clause-walks
returns-in-Err-clause-walks g c = record {
  meets = record {
    only = c.content_at.ensures.looked.only;
    cause = λ is. absurd (cc);
    errors = inr refl;
  };
  reads = left_unread c.args.so_far.now.bytes c.limit.result c.in-Whole.read
      c.in_ok-content_at.field-0 _ _ c.limit.ensures c.in-Whole.is
      c.in_ok-content_at.ensures.fits c.in_ok-content_at.ensures.reads;
}
