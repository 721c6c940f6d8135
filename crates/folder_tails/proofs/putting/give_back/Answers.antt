use Rattle.std.proofs.Common.{inl, refl}
use Rattle.folder_tails.specs.Sides.{home_of}
use Rattle.folder_tails.proofs.Jobs as J
use Rattle.folder_tails.proofs.Causes as C
use Rattle.folder_tails.proofs.putting.give_back.Goals as goal

pub returns-in_err-remove_lock-clause-stays : goal.returns-in_err-remove_lock-clause-stays
returns-in_err-remove_lock-clause-stays g c job =
    let path = home_of c.args.sides.now in
    J.refused path job (J.begin path job (J.locked path job) _) c.in_err-remove_lock.ensures.called
    (inl refl) (λ wrote s. refl) (J.locked path job)

pub returns-in_err-sync_names-clause-stays : goal.returns-in_err-sync_names-clause-stays
returns-in_err-sync_names-clause-stays g c job =
    let path = home_of c.args.sides.now in
    let removed = J.lock_removed path job (J.begin path job (J.locked path job) _)
    c.in_ok-remove_lock.ensures.called in
    J.refused path job removed c.in_err-sync_names.ensures.called tt (λ wrote s. refl)
    (J.free path job)

pub returns-clause-ok : goal.returns-clause-ok
returns-clause-ok g c job =
    let path = home_of c.args.sides.now in
    let removed = J.lock_removed path job (J.begin path job (J.locked path job) _)
    c.in_ok-remove_lock.ensures.called in
    J.lock_gone path job removed c.in_ok-sync_names.ensures.called

pub returns-clause-stays : goal.returns-clause-stays
returns-clause-stays g c job =
    J.forget (home_of c.args.sides.now) job (returns-clause-ok g c job)
    (J.ended (home_of c.args.sides.now) job)

pub returns-in_err-remove_lock-clause-why : goal.returns-in_err-remove_lock-clause-why
returns-in_err-remove_lock-clause-why g c =
    let path = home_of c.args.sides.now in
    C.passed_on _ c.from_residual.result c.from_residual.ensures
    (λ of_tree.
    C.step_around path (inl refl) c.in_err-remove_lock.ensures.called of_tree)

pub returns-in_err-sync_names-clause-why : goal.returns-in_err-sync_names-clause-why
returns-in_err-sync_names-clause-why g c =
    let path = home_of c.args.sides.now in
    C.passed_on _ c.from_residual-in_err-sync_names.result c.from_residual-in_err-sync_names.ensures
    (λ of_tree.
    C.last_later c.in_ok-remove_lock.ensures.grows
    (C.step_around path c.requires.dir c.in_err-sync_names.ensures.called of_tree))
