use Rattle.std.proofs.Common.{refl}
use Rattle.std.proofs.lemmas.Result.{err_from_is_err_and}
use Rattle.drafts.specs.Reading.{read_head}
use Rattle.drafts.proofs.reading.Head.read.Goals as goal

pub returns-in_err-references : goal.returns-in_err-references
unfolding read_head
returns-in_err-references c =
    let failed = c.from_residual-in_err-references in
    let p = err_from_is_err_and failed.result failed.ensures.1 in
    rw (p.1, p.2)
    (rw (
      c.in_ok-to.ensures,
      c.in_ok-subject.ensures,
      c.in_ok-in_reply_to.ensures,
      c.in_err-references.ensures,
    ) refl)

pub returns-in_err-body : goal.returns-in_err-body
unfolding read_head
returns-in_err-body c =
    let failed = c.from_residual-in_err-body in
    let p = err_from_is_err_and failed.result failed.ensures.1 in
    rw (p.1, p.2)
    (rw (
      c.in_ok-to.ensures,
      c.in_ok-subject.ensures,
      c.in_ok-in_reply_to.ensures,
      c.in_ok-references.ensures,
      c.in_err-body.ensures,
    ) refl)

pub returns : goal.returns
unfolding read_head
returns c =
    rw (
      c.in_ok-to.ensures,
      c.in_ok-subject.ensures,
      c.in_ok-in_reply_to.ensures,
      c.in_ok-references.ensures,
      c.in_ok-body.ensures,
    ) refl
