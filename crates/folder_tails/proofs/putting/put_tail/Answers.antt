use Rattle.std.proofs.Common.{List, ap, arith, inl, inr, length, length-append, refl, ℕ, ◌+◌, ◌≡◌}
use Rattle.std.proofs.Common.{◌≤◌}
use Rattle.folder_stops.specs.Rows.{IsDurable}
use Rattle.folder_tails.specs.Sides.{home_of}
use Rattle.folder_tails.specs.Stages.{AnyFile, Begins, Job, whole}
use Rattle.folder_tails.proofs.Jobs as J
use Rattle.folder_tails.proofs.Causes as C
use Rattle.folder_tails.proofs.putting.put_tail.Goals as goal

size_is : (job : Job) (at : ℕ) (end : List ℕ) → at ≡ length job.front → end ≡ job.end
    → at + length end ≡ length (whole job)
size_is job at end e f = omega (arith, e, ap length f, length-append job.front job.end)

behind : (job : Job) (at : ℕ) (end : List ℕ) → at ≡ length job.front → length job.front ≤ at +
    length end
behind job at end e = omega (arith, e)

pub returns-in_err-write_mail-clause-stays : goal.returns-in_err-write_mail-clause-stays
returns-in_err-write_mail-clause-stays g c job at end =
    let path = home_of c.args.sides.now in
    let first = J.begin path job (J.writing path job AnyFile) _ in
    J.end_torn path job at end first c.in_err-write_mail.ensures.called

pub returns-in_err-cut_mail-clause-stays : goal.returns-in_err-cut_mail-clause-stays
returns-in_err-cut_mail-clause-stays g c job at end =
    let path = home_of c.args.sides.now in
    let first = J.begin path job (J.writing path job AnyFile) _ in
    let written = J.end_written path job at end first c.in_ok-write_mail.ensures.called in
    J.refused path job written c.in_err-cut_mail.ensures.called
    (inr (refl, behind job c.args.at c.args.end.now at)) (λ wrote s. refl)
    (J.writing path job (Begins job))

pub returns-in_err-sync_mail-clause-stays : goal.returns-in_err-sync_mail-clause-stays
returns-in_err-sync_mail-clause-stays g c job at end =
    let path = home_of c.args.sides.now in
    let first = J.begin path job (J.writing path job AnyFile) _ in
    let written = J.end_written path job at end first c.in_ok-write_mail.ensures.called in
    let cut = J.end_cut path job (size_is job c.args.at c.args.end.now at end)
    (behind job c.args.at c.args.end.now at) written c.in_ok-cut_mail.ensures.called in
    J.refused path job cut c.in_err-sync_mail.ensures.called (inr refl) (λ wrote s. refl)
    (J.writing path job (λ file. file.bytes ≡ whole job))

pub returns-in_err-remove_tail-clause-stays : goal.returns-in_err-remove_tail-clause-stays
returns-in_err-remove_tail-clause-stays g c job at end =
    let path = home_of c.args.sides.now in
    let first = J.begin path job (J.writing path job AnyFile) _ in
    let written = J.end_written path job at end first c.in_ok-write_mail.ensures.called in
    let cut = J.end_cut path job (size_is job c.args.at c.args.end.now at end)
    (behind job c.args.at c.args.end.now at) written c.in_ok-cut_mail.ensures.called in
    let synced = J.end_synced path job cut c.in_ok-sync_mail.ensures.called in
    J.refused path job synced c.in_err-remove_tail.ensures.called (inr (inl refl)) (λ wrote s. refl)
    (J.writing path job (IsDurable (whole job)))

pub returns-in_err-sync_names-clause-stays : goal.returns-in_err-sync_names-clause-stays
returns-in_err-sync_names-clause-stays g c job at end =
    let path = home_of c.args.sides.now in
    let first = J.begin path job (J.writing path job AnyFile) _ in
    let written = J.end_written path job at end first c.in_ok-write_mail.ensures.called in
    let cut = J.end_cut path job (size_is job c.args.at c.args.end.now at end)
    (behind job c.args.at c.args.end.now at) written c.in_ok-cut_mail.ensures.called in
    let synced = J.end_synced path job cut c.in_ok-sync_mail.ensures.called in
    let removed = J.tail_removed path job synced c.in_ok-remove_tail.ensures.called in
    J.refused path job removed c.in_err-sync_names.ensures.called tt (λ wrote s. refl)
    (J.locked path job)

pub returns-clause-ok : goal.returns-clause-ok
returns-clause-ok g c job at end =
    let path = home_of c.args.sides.now in
    let first = J.begin path job (J.writing path job AnyFile) _ in
    let written = J.end_written path job at end first c.in_ok-write_mail.ensures.called in
    let cut = J.end_cut path job (size_is job c.args.at c.args.end.now at end)
    (behind job c.args.at c.args.end.now at) written c.in_ok-cut_mail.ensures.called in
    let synced = J.end_synced path job cut c.in_ok-sync_mail.ensures.called in
    let removed = J.tail_removed path job synced c.in_ok-remove_tail.ensures.called in
    J.tail_gone path job removed c.in_ok-sync_names.ensures.called

pub returns-clause-stays : goal.returns-clause-stays
returns-clause-stays g c job at end =
    let path = home_of c.args.sides.now in
    J.forget path job (returns-clause-ok g c job at end) (J.locked path job)

pub returns-in_err-write_mail-clause-why : goal.returns-in_err-write_mail-clause-why
returns-in_err-write_mail-clause-why g c =
    let path = home_of c.args.sides.now in
    C.passed_on _ c.from_residual.result c.from_residual.ensures
    (λ of_tree.
    C.step_around path refl c.in_err-write_mail.ensures.called of_tree)

pub returns-in_err-cut_mail-clause-why : goal.returns-in_err-cut_mail-clause-why
returns-in_err-cut_mail-clause-why g c =
    let path = home_of c.args.sides.now in
    C.passed_on _ c.from_residual-in_err-cut_mail.result c.from_residual-in_err-cut_mail.ensures
    (λ of_tree.
    C.last_later c.in_ok-write_mail.ensures.grows
    (C.step_around path refl c.in_err-cut_mail.ensures.called of_tree))

pub returns-in_err-sync_mail-clause-why : goal.returns-in_err-sync_mail-clause-why
returns-in_err-sync_mail-clause-why g c =
    let path = home_of c.args.sides.now in
    C.passed_on _ c.from_residual-in_err-sync_mail.result c.from_residual-in_err-sync_mail.ensures
    (λ of_tree.
    C.last_later c.in_ok-write_mail.ensures.grows
    (C.last_later c.in_ok-cut_mail.ensures.grows
    (C.step_around path refl c.in_err-sync_mail.ensures.called of_tree)))

pub returns-in_err-remove_tail-clause-why : goal.returns-in_err-remove_tail-clause-why
returns-in_err-remove_tail-clause-why g c =
    let path = home_of c.args.sides.now in
    C.passed_on _ c.from_residual-in_err-remove_tail.result
    c.from_residual-in_err-remove_tail.ensures
    (λ of_tree.
    C.last_later c.in_ok-write_mail.ensures.grows
    (C.last_later c.in_ok-cut_mail.ensures.grows
    (C.last_later c.in_ok-sync_mail.ensures.grows
    (C.step_around path (inr (inl refl)) c.in_err-remove_tail.ensures.called of_tree))))

pub returns-in_err-sync_names-clause-why : goal.returns-in_err-sync_names-clause-why
returns-in_err-sync_names-clause-why g c =
    let path = home_of c.args.sides.now in
    C.passed_on _ c.from_residual-in_err-sync_names.result c.from_residual-in_err-sync_names.ensures
    (λ of_tree.
    C.last_later c.in_ok-write_mail.ensures.grows
    (C.last_later c.in_ok-cut_mail.ensures.grows
    (C.last_later c.in_ok-sync_mail.ensures.grows
    (C.last_later c.in_ok-remove_tail.ensures.grows
    (C.step_around path c.requires.sides.dir c.in_err-sync_names.ensures.called of_tree)))))
