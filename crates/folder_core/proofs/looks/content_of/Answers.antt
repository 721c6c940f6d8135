use Rattle.std.proofs.Common.{inl, inr, refl}
use Rattle.disk_model.specs.declared.answers.DiskError.TheVariants.{Long, Missing, WrongNode}
use Rattle.folder_core.proofs.LookedLemmas.{looked_err, looked_ok, read_long, read_nothing}
use Rattle.folder_core.proofs.LookedLemmas.{read_tells}
use Rattle.folder_core.proofs.looks.content_of.Goals as goal

pub returns-in-Ok-clause-looked : goal.returns-in-Ok-clause-looked
returns-in-Ok-clause-looked g c =
    looked_ok _ (c.in-Ok.read.stat, c.in-Ok.read.bytes.items) c.in-Ok.ensures.0
    c.read_all.ensures.1.0
    (λ tree is. read_tells tree c.args.path.now c.args.limit c.in-Ok.read is)

pub returns-in-Err-Missing-clause-looked : goal.returns-in-Err-Missing-clause-looked
returns-in-Err-Missing-clause-looked g c =
    looked_err _ c.in-Err-Missing.field-0 Missing c.in-Err-Missing.field-0-is refl
    c.in-Err-Missing.ensures.0 c.read_all.ensures.1.0
    (λ tree is. read_nothing tree c.args.path.now c.args.limit Missing (inl refl) is)

pub returns-in-Err-WrongNode-clause-looked : goal.returns-in-Err-WrongNode-clause-looked
returns-in-Err-WrongNode-clause-looked g c =
    looked_err _ c.in-Err-WrongNode.field-0 WrongNode c.in-Err-WrongNode.field-0-is refl
    c.in-Err-WrongNode.ensures.0 c.read_all.ensures.1.0
    (λ tree is. read_nothing tree c.args.path.now c.args.limit WrongNode (inr refl) is)

pub returns-in-Err-Long-clause-looked : goal.returns-in-Err-Long-clause-looked
returns-in-Err-Long-clause-looked g c =
    looked_err _ c.in-Err-Long.field-0 (Long c.in-Err-Long.size) c.in-Err-Long.field-0-is refl
    c.in-Err-Long.ensures.0 c.read_all.ensures.1.0
    (λ tree is. read_long tree c.args.path.now c.args.limit c.in-Err-Long.size is)
