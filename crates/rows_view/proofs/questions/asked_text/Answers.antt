use Rattle.std.proofs.Common.{map, subst, sym}
use Rattle.std.specs.Prelude.{Err, Ok, OnOk, Result}
use Rattle.folder_letters.specs.Letters.{plain_letter}
use Rattle.index_view.specs.View.{IsOf}
use Rattle.rows_view.proofs.questions.asked_text.Goals as goal

-- a clause for Ok alone holds where its promise does
on_any : {T E P : Type 0} (r : Result T E) → P → OnOk r P
on_any (Ok x) p = p
on_any (Err e) p = tt

pub returns-in-Pick : goal.returns-in-Pick
returns-in-Pick c = on_any c.picked_text.result
    (subst (IsOf (map plain_letter c.args.scene.archive.now.items))
    (sym c.picked_text.ensures) c.requires)
