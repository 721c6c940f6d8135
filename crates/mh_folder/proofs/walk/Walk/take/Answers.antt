use Rattle.std.proofs.Common.{Some, None, ap, sym, ◌∙◌}
use Rattle.std.proofs.lemmas.Result.{on_ok_weaker}
use Rattle.mh_folder.specs.KnownFile.{file_in}
use Rattle.mh_folder.proofs.TakeLemmas.{file_course}
use Rattle.mh_folder.proofs.walk.Walk.take.Goals as goal

pub returns-in-Some-clause-taken : goal.returns-in-Some-clause-taken
returns-in-Some-clause-taken g c =
    on_ok_weaker c.take_known.result (λ taken. λ course goes.
    taken course (file_course c.args.path.now c.args.visit.now c.args.file.now.name.items
    c.args.file.now.number (Some c.in-Some.known) _ course c.requires.file.number_is
    (ap (file_in c.args.visit.now.files.files.items) (sym c.from.ensures) ∙ sym c.find.ensures
    ∙ c.in-Some.is) goes)) c.take_known.ensures.taken

pub returns-in-None-clause-taken : goal.returns-in-None-clause-taken
returns-in-None-clause-taken g c =
    on_ok_weaker c.read.result (λ taken. λ course goes.
    taken course (file_course c.args.path.now c.args.visit.now c.args.file.now.name.items
    c.args.file.now.number None _ course c.requires.file.number_is
    (ap (file_in c.args.visit.now.files.files.items) (sym c.from.ensures) ∙ sym c.find.ensures
    ∙ c.in-None.is) goes)) c.read.ensures.taken
