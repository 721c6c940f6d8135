use Rattle.std.proofs.Common.{inl, refl, ◌∙◌}
use Rattle.mbox_writes.proofs.Dropping.{dropped, goes_step, kept, nothing}
use Rattle.mbox_writes.proofs.writing.drop_lock.Goals as goal

pub returns-in-Err-clause-stays : goal.returns-in-Err-clause-stays
returns-in-Err-clause-stays g c ours = nothing c.args.path.now ours _

pub returns-in-Ok-remove-clause-stays : goal.returns-in-Ok-remove-clause-stays
returns-in-Ok-remove-clause-stays g c ours =
    dropped c.args.path.now ours c.as_str.result.now _ (c.as_str.ensures.value ∙ c.in-Ok.ensures)
    c.in-Ok-remove.ensures.called

pub returns-in-Err-NoMemory-clause-stays : goal.returns-in-Err-NoMemory-clause-stays
returns-in-Err-NoMemory-clause-stays g c ours =
    kept c.args.path.now ours c.as_str.result.now c.in-Err-NoMemory.field-0
    (c.as_str.ensures.value ∙ c.in-Ok.ensures) c.in-Err-NoMemory.ensures.called

pub returns-in-Err-remove : goal.returns-in-Err-remove
returns-in-Err-remove g c = record {
  told = inl refl;
  stays = λ ours. kept c.args.path.now ours c.as_str.result.now _
      (c.as_str.ensures.value ∙ c.in-Ok.ensures) c.in-Err-remove.ensures.called;
  goes = goes_step c.in-Err-remove.ensures;
}
