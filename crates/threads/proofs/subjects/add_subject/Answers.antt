use Rattle.std.proofs.Common.{◌∙◌, sym, arith}
use Rattle.threads.specs.Subjects.{begins_subject}
use Rattle.threads.specs.Message.{is_sent_before, plain_messages}
use Rattle.threads.proofs.FirstsLemmas.{first_below}
use Rattle.threads.proofs.subjects.add_subject.Goals as goal

pub add_first-requires-clause-below : goal.add_first-requires-clause-below
add_first-requires-clause-below c = λ text first e.
    let ms = plain_messages c.args.messages.now in
    omega (
      arith,
      c.requires.within,
      first_below (is_sent_before ms) (begins_subject ms c.args.parents.now text)
          c.args.place first (sym (c.requires.before text) ∙ e),
    )
