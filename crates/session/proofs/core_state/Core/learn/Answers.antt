use Rattle.std.proofs.Common.{◌∙◌, ap, map}
use Rattle.folder_letters.specs.Letters.{plain_letter}
use Rattle.session_index.specs.Desk.{plain_desk}
use Rattle.session_index.specs.Effects.{with_index}
use Rattle.session_index.specs.Index.{PlainIndex}
use Rattle.session_state.specs.Lessons.{plain_lesson}
use Rattle.session.specs.Answers.{learnt}
use Rattle.session.specs.Core.{CoreState, plain_core}
use Rattle.session.proofs.LearningLemmas.{learnt_none, learnt_step}
use Rattle.session.proofs.core_state.Core.learn.Goals as goal

pub loop-lesson-preserved : goal.loop-lesson-preserved
loop-lesson-preserved c =
    let mails = map plain_letter c.args.archive.now.items in
    let old = c.loop-lesson.self in
    let learns = c.in_ok-take_lesson.ensures.index in
    record {
      is_of = learns.is_of;
      went = ap (learnt mails) (ap plain_core c.take_lesson-in-Some.ensures.same
          ∙ ap (λ (x : PlainIndex). let d : CoreState = record (plain_core old) {
            rules = c.take_lesson.new.self;
            desk = with_index x (plain_desk old.desk);
          } in d) learns.same)
          ∙ learnt_step mails (plain_core old) (plain_lesson c.in-Some.lesson)
          c.take_lesson.new.self c.in-Some.ensures.lesson c.in-Some.ensures.same
          ∙ c.loop-lesson.invariant.went;
    }

pub returns : goal.returns
returns c = record {
  is_of = c.loop-lesson.invariant.is_of;
  same = learnt_none (map plain_letter c.args.archive.now.items) (plain_core c.loop-lesson.self)
      c.take_lesson.new.self c.in_default.ensures.lesson.0 c.in_default.ensures.lesson.1
      c.in_default.ensures.same ∙ c.loop-lesson.invariant.went;
}
