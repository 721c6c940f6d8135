use Rattle.std.proofs.Common.{List, Some, length, ℕ, ◌∙◌, ◌≡◌}
use Rattle.folder_tails.specs.Calls.{IsEnd}
use Rattle.folder_tails.specs.Sides.{home_of}
use Rattle.folder_tails.specs.Stages.{Job}
use Rattle.folder_tails.specs.Tails.{read_tail}
use Rattle.folder_tails.proofs.Jobs as J
use Rattle.folder_tails.proofs.write.make_steps.Goals as goal

reads : (text : List ℕ) (at : ℕ) (tail : List ℕ) (job : Job) → read_tail text ≡ Some (at, tail)
    → IsEnd at tail job → read_tail text ≡ Some (length job.front, job.end)
reads text at tail job is end = is ∙ (λ i. Some (end.behind i, end.bytes i))

pub returns-in_err-stage_tail-clause-stays : goal.returns-in_err-stage_tail-clause-stays
returns-in_err-stage_tail-clause-stays g c job end =
    c.in_err-stage_tail.ensures.stays job (reads c.args.text.now c.args.at c.args.tail.now job
    c.requires.text end)

pub returns-in_err-put_tail-clause-stays : goal.returns-in_err-put_tail-clause-stays
returns-in_err-put_tail-clause-stays g c job end =
    let path = home_of c.args.sides.now in
    J.on path job (c.in_ok-stage_tail.ensures.ok job (reads c.args.text.now c.args.at
    c.args.tail.now job c.requires.text end))
    (c.in_err-put_tail.ensures.stays job end.behind end.bytes)

pub returns-in_err-give_back-clause-stays : goal.returns-in_err-give_back-clause-stays
returns-in_err-give_back-clause-stays g c job end =
    let path = home_of c.args.sides.now in
    J.on path job (J.on path job
    (c.in_ok-stage_tail.ensures.ok job (reads c.args.text.now c.args.at c.args.tail.now job
    c.requires.text end))
    (c.in_ok-put_tail.ensures.ok job end.behind end.bytes)) (c.in_err-give_back.ensures.stays job)

pub returns-clause-ok : goal.returns-clause-ok
returns-clause-ok g c job end =
    let path = home_of c.args.sides.now in
    J.on path job (J.on path job
    (c.in_ok-stage_tail.ensures.ok job (reads c.args.text.now c.args.at c.args.tail.now job
    c.requires.text end))
    (c.in_ok-put_tail.ensures.ok job end.behind end.bytes)) (c.in_ok-give_back.ensures.ok job)

pub returns-clause-stays : goal.returns-clause-stays
returns-clause-stays g c job end =
    let path = home_of c.args.sides.now in
    J.forget path job (returns-clause-ok g c job end) (J.ended path job)
