use Rattle.std.proofs.Common.{Some}
use Rattle.std.proofs.lemmas.Result.{on_ok_weaker}
use Rattle.folder_core.proofs.ReadsLemmas.{left_none}
use Rattle.mh_folder.specs.Walk.{kept_of}
use Rattle.mh_folder.proofs.TakeLemmas.{course_later, kept_counted, took_kept, took_later}
use Rattle.mh_folder.proofs.TakeLemmas.{took_passed, within_later}
use Rattle.mh_folder.proofs.walk.Walk.take_known.Goals as goal

pub returns-in-Nothing-clause-taken : goal.returns-in-Nothing-clause-taken
returns-in-Nothing-clause-taken g c =
    λ course is.
    took_passed course c.args.path.now c.args.file.now.name.items c.in_ok-look_for.field-0
    c.args.known.stamp (kept_of c.args.self.now c.args.archive.now.items) _ _ is.path_is
    c.in-Nothing.is c.in_ok-look_for.ensures.saw

pub returns-in-Ok-clause-taken : goal.returns-in-Ok-clause-taken
returns-in-Ok-clause-taken g c =
    λ course is.
    took_kept course c.args.path.now c.args.file.now.name.items c.in_ok-look_for.field-0
    c.args.known (kept_of c.args.self.now c.args.archive.now.items)
    (kept_of c.keep.new.self c.args.archive.now.items) _ _ is.path_is c.in-Same.is is.file
    (c.in-Ok.ensures.ok course.sequences c.args.archive.now.items is.marks_are)
    c.in_ok-look_for.ensures.saw

pub returns-in-Other-clause-taken : goal.returns-in-Other-clause-taken
returns-in-Other-clause-taken g c =
    on_ok_weaker c.read.result (λ taken. λ course is.
    took_later course c.args.file.now.name.items
    (kept_of c.args.self.now c.args.archive.now.items)
    (kept_of c.read.new.self c.read.new.archive.items) _ _ _
    c.look_for.ensures.meets.only.looks c.read.ensures.walks.meets.only.looks
    (taken course (course_later c.args.path.now c.args.marks.now c.args.file.now.name.items
    (Some c.args.known) course _ _ c.look_for.ensures.meets.only.looks is)))
    c.read.ensures.taken

pub returns-in-Nothing-clause-walks : goal.returns-in-Nothing-clause-walks
returns-in-Nothing-clause-walks g c = record {
  meets = record {
    only = c.look_for.ensures.meets.only;
    cause = λ is. absurd (cc);
    errors = tt;
  };
  reads = left_none (tt {0}) c.args.self.now.so_far.bytes _ _ c.look_for.ensures.reads;
}

pub returns-in-Ok-clause-walks : goal.returns-in-Ok-clause-walks
returns-in-Ok-clause-walks g c = record {
  meets = record {
    only = c.look_for.ensures.meets.only;
    cause = λ is. absurd (cc);
    errors = tt;
  };
  reads = kept_counted c.args.self.now.so_far c.keep.new.self.so_far c.args.known.size _ _
      c.in-Ok.ensures.counts c.look_for.ensures.reads;
}

pub returns-in-Other-clause-walks : goal.returns-in-Other-clause-walks
returns-in-Other-clause-walks g c =
    within_later c.read.result c.in_ok-look_for.field-0 c.args.self.now.so_far.bytes
    c.read.new.self.so_far.bytes _ _ _ (record {
      only = c.look_for.ensures.meets.only;
      cause = λ is. absurd (cc);
      errors = tt;
    }) c.look_for.ensures.reads c.read.ensures.walks
