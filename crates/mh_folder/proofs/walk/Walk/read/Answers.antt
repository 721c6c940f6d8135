use Rattle.std.proofs.Common.{ap, inr, refl, sym}
use Rattle.folder_core.specs.Directory.{path_in}
use Rattle.folder_core.specs.ListedSoFar.{store_of}
use Rattle.folder_core.specs.declared.listed_so_far.ListedSoFar.{ListedSoFar}
use Rattle.folder_core.proofs.ReadsLemmas.{left_no_file, left_too_long, left_unread}
use Rattle.mh_folder.specs.Walk.{kept_of}
use Rattle.mh_folder.proofs.TakeLemmas.{read_counted, took_long, took_none, took_whole}
use Rattle.mh_folder.proofs.walk.Walk.read.Goals as goal

pub returns-in-NoFile-clause-taken : goal.returns-in-NoFile-clause-taken
returns-in-NoFile-clause-taken g c =
    λ course is.
    took_none course c.args.file.now.name.items
    (path_in c.args.path.now c.args.file.now.name.items) c.limit.result c.in_ok-content_at.field-0
    (kept_of c.args.self.now c.args.archive.now.items) _ _
    (ap (λ p. path_in p c.args.file.now.name.items) (sym is.path_is))
    c.in-NoFile.is c.in_ok-content_at.ensures.looked.saw

pub returns-in-TooLong-clause-taken : goal.returns-in-TooLong-clause-taken
returns-in-TooLong-clause-taken g c =
    λ course is.
    took_long course c.args.file.now.name.items
    (path_in c.args.path.now c.args.file.now.name.items) c.limit.result
    c.in_ok-content_at.field-0 c.in-TooLong.size c.args.known
    (kept_of c.args.self.now c.args.archive.now.items)
    (kept_of record { so_far = c.count_one.new.self; stamps = c.args.self.now.stamps }
    c.args.archive.now.items) _ _
    (ap (λ p. path_in p c.args.file.now.name.items) (sym is.path_is))
    c.limit.ensures c.in-TooLong.is c.in_ok-content_at.ensures.fits
    (ap (λ (w : ListedSoFar). store_of w c.args.archive.now.items) c.count_one.ensures)
    c.content_at.ensures.looked.only.looks c.content_at.ensures.begins is.file
    c.in_ok-content_at.ensures.looked.saw

pub returns-in-Ok-clause-taken : goal.returns-in-Ok-clause-taken
returns-in-Ok-clause-taken g c =
    λ course is.
    took_whole course c.args.file.now.name.items
    (path_in c.args.path.now c.args.file.now.name.items) c.limit.result
    c.in_ok-content_at.field-0 c.in-Whole.read c.args.known
    (kept_of c.args.self.now c.args.archive.now.items)
    (kept_of c.put.new.self c.put.new.archive.items) _ _
    (ap (λ p. path_in p c.args.file.now.name.items) (sym is.path_is))
    c.in-Whole.is c.content_at.ensures.looked.only.looks c.content_at.ensures.begins is.file
    (c.in-Ok.ensures.ok course.sequences is.marks_are) c.in_ok-content_at.ensures.looked.saw

pub returns-in-NoFile-clause-walks : goal.returns-in-NoFile-clause-walks
returns-in-NoFile-clause-walks g c = record {
  meets = record {
    only = c.content_at.ensures.looked.only;
    cause = λ is. absurd (cc);
    errors = tt;
  };
  reads = left_no_file (tt {0}) c.args.self.now.so_far.bytes c.in_ok-content_at.field-0 _ _
      c.in-NoFile.is c.in_ok-content_at.ensures.reads;
}

pub returns-in-TooLong-clause-walks : goal.returns-in-TooLong-clause-walks
returns-in-TooLong-clause-walks g c = record {
  meets = record {
    only = c.content_at.ensures.looked.only;
    cause = λ is. absurd (cc);
    errors = tt;
  };
  reads = left_too_long (tt {0}) c.args.self.now.so_far.bytes _ c.in-TooLong.size
      c.in_ok-content_at.field-0 _ _ (ap (λ (w : ListedSoFar). w.bytes) c.count_one.ensures)
      c.in-TooLong.is c.in_ok-content_at.ensures.reads;
}

pub returns-in-Ok-clause-walks : goal.returns-in-Ok-clause-walks
returns-in-Ok-clause-walks g c = record {
  meets = record {
    only = c.content_at.ensures.looked.only;
    cause = λ is. absurd (cc);
    errors = tt;
  };
  reads = read_counted c.args.self.now.so_far c.put.new.self.so_far c.limit.result c.in-Whole.read
      c.in_ok-content_at.field-0 _ _ c.limit.ensures c.in-Whole.is
      c.in_ok-content_at.ensures.fits c.in-Ok.ensures.counts
      c.in_ok-content_at.ensures.reads;
}

pub returns-in-Err-clause-walks : goal.returns-in-Err-clause-walks
returns-in-Err-clause-walks g c = record {
  meets = record {
    only = c.content_at.ensures.looked.only;
    cause = λ is. absurd (cc);
    errors = inr refl;
  };
  reads = left_unread c.args.self.now.so_far.bytes c.limit.result c.in-Whole.read
      c.in_ok-content_at.field-0 _ _ c.limit.ensures c.in-Whole.is
      c.in_ok-content_at.ensures.fits c.in_ok-content_at.ensures.reads;
}
