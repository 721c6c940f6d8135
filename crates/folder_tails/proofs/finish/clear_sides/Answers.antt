use Rattle.std.proofs.Common.{inl, inr, refl, sym}
use Rattle.folder_tails.specs.Sides.{home_of, lock_of, tmp_of}
use Rattle.folder_tails.proofs.Causes as C
use Rattle.folder_tails.proofs.Leads as L
use Rattle.folder_tails.proofs.Names.{lock-path, tail-lock, tail-tmp, tmp-path}
use Rattle.folder_tails.proofs.finish.clear_sides.Goals as goal

pub returns-in_err-clear_tmp-clause-stays : goal.returns-in_err-clear_tmp-clause-stays
returns-in_err-clear_tmp-clause-stays g c ours =
    let path = home_of c.args.sides.now in
    L.refused path ours (L.nothing path ours _ (L.idle path ours))
    c.in_err-clear_tmp.ensures.clears.called (inr (inr refl)) (λ wrote s. refl) (L.idle path ours)

pub returns-in_err-clear_lock-clause-stays : goal.returns-in_err-clear_lock-clause-stays
returns-in_err-clear_lock-clause-stays g c ours =
    let path = home_of c.args.sides.now in
    let tmp = L.idle_cleared path ours (tmp_of path) _ _ c.in_ok-clear_tmp.ensures.clears
    (inr (inr refl)) (tmp-path path) (λ e. tail-tmp path (sym e)) in
    L.refused path ours tmp c.in_err-clear_lock.ensures.clears.called (inl refl) (λ wrote s. refl)
    (L.idle path ours)

pub returns-in_err-sync_names-clause-stays : goal.returns-in_err-sync_names-clause-stays
returns-in_err-sync_names-clause-stays g c ours =
    let path = home_of c.args.sides.now in
    let tmp = L.idle_cleared path ours (tmp_of path) _ _ c.in_ok-clear_tmp.ensures.clears
    (inr (inr refl)) (tmp-path path) (λ e. tail-tmp path (sym e)) in
    let lock = L.idle_cleared path ours (lock_of path) _ _ c.in_ok-clear_lock.ensures.clears
    (inl refl) (lock-path path) (λ e. tail-lock path (sym e)) in
    L.refused path ours (L.on path ours tmp lock) c.in_err-sync_names.ensures.called tt
    (λ wrote s. refl) (L.idle path ours)

pub returns-clause-ok : goal.returns-clause-ok
returns-clause-ok g c ours =
    let path = home_of c.args.sides.now in
    let tmp = L.idle_cleared path ours (tmp_of path) _ _ c.in_ok-clear_tmp.ensures.clears
    (inr (inr refl)) (tmp-path path) (λ e. tail-tmp path (sym e)) in
    let lock = L.idle_cleared path ours (lock_of path) _ _ c.in_ok-clear_lock.ensures.clears
    (inl refl) (lock-path path) (λ e. tail-lock path (sym e)) in
    L.idle_kept path ours (L.on path ours tmp lock) c.in_ok-sync_names.ensures.called

pub returns-clause-stays : goal.returns-clause-stays
returns-clause-stays g c ours =
    let path = home_of c.args.sides.now in
    L.only path ours (returns-clause-ok g c ours) (L.idle path ours)

pub returns-in_err-clear_tmp-clause-why : goal.returns-in_err-clear_tmp-clause-why
returns-in_err-clear_tmp-clause-why g c =
    let path = home_of c.args.sides.now in
    C.passed_on _ c.from_residual.result c.from_residual.ensures
    (C.step_around path (inr (inr refl)) c.in_err-clear_tmp.ensures.clears.called)

pub returns-in_err-clear_lock-clause-why : goal.returns-in_err-clear_lock-clause-why
returns-in_err-clear_lock-clause-why g c =
    let path = home_of c.args.sides.now in
    C.passed_on _ c.from_residual-in_err-clear_lock.result c.from_residual-in_err-clear_lock.ensures
    (λ of_tree. C.last_later (C.cleared_grows (tmp_of path) _ _ c.in_ok-clear_tmp.ensures.clears)
    (C.step_around path (inl refl) c.in_err-clear_lock.ensures.clears.called of_tree))

pub returns-in_err-sync_names-clause-why : goal.returns-in_err-sync_names-clause-why
returns-in_err-sync_names-clause-why g c =
    let path = home_of c.args.sides.now in
    C.passed_on _ c.from_residual-in_err-sync_names.result c.from_residual-in_err-sync_names.ensures
    (λ of_tree. C.last_later (C.cleared_grows (tmp_of path) _ _ c.in_ok-clear_tmp.ensures.clears)
    (C.last_later (C.cleared_grows (lock_of path) _ _ c.in_ok-clear_lock.ensures.clears)
    (C.step_around path c.requires.dir c.in_err-sync_names.ensures.called of_tree)))
