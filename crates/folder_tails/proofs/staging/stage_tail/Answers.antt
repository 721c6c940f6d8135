use Rattle.std.proofs.Common.{inl, inr, refl, ◌≡◌}
use Rattle.folder_stops.specs.Rows.{IsDurable}
use Rattle.folder_tails.specs.Sides.{home_of, tmp_of}
use Rattle.folder_tails.specs.Stages.{AnyFile}
use Rattle.folder_tails.proofs.Jobs as J
use Rattle.folder_tails.proofs.Steps.{remove_tmp}
use Rattle.folder_tails.proofs.staging.stage_tail.Goals as goal

pub returns-in_err-clear_tmp-clause-stays : goal.returns-in_err-clear_tmp-clause-stays
returns-in_err-clear_tmp-clause-stays g c job reads =
    let path = home_of c.args.sides.now in
    J.refused path job (J.begin path job (J.staging path job) _)
    c.in_err-clear_tmp.ensures.clears.called (inr (inr refl)) (λ wrote s. refl)
    (J.staging path job)

pub returns-in_err-make_tmp-clause-stays : goal.returns-in_err-make_tmp-clause-stays
returns-in_err-make_tmp-clause-stays g c job reads =
    let path = home_of c.args.sides.now in
    let clear = J.cleared path (J.from path job) (tmp_of path) _ _ c.in_ok-clear_tmp.ensures.clears
    (inr (inr refl)) (J.staging path job) (remove_tmp path job) in
    J.refused path job clear c.in_err-make_tmp.ensures.called (inr (inr refl)) (λ wrote s. refl)
    (J.staging path job)

pub returns-in_err-write_tmp-clause-stays : goal.returns-in_err-write_tmp-clause-stays
returns-in_err-write_tmp-clause-stays g c job reads =
    let path = home_of c.args.sides.now in
    let clear = J.cleared path (J.from path job) (tmp_of path) _ _ c.in_ok-clear_tmp.ensures.clears
    (inr (inr refl)) (J.staging path job) (remove_tmp path job) in
    let made = J.tmp_made path job clear c.in_ok-make_tmp.ensures.called in
    J.tmp_torn path job made c.in_err-write_tmp.ensures.called

pub returns-in_err-sync_tmp-clause-stays : goal.returns-in_err-sync_tmp-clause-stays
returns-in_err-sync_tmp-clause-stays g c job reads =
    let path = home_of c.args.sides.now in
    let text = c.args.text.now in
    let clear = J.cleared path (J.from path job) (tmp_of path) _ _ c.in_ok-clear_tmp.ensures.clears
    (inr (inr refl)) (J.staging path job) (remove_tmp path job) in
    let made = J.tmp_made path job clear c.in_ok-make_tmp.ensures.called in
    let written = J.tmp_written path job {bytes = text} made c.in_ok-write_tmp.ensures.called in
    J.refused path job written c.in_err-sync_tmp.ensures.called (inl (inr (inr refl)))
    (λ wrote s. refl) (J.staging_tmp path job (λ file. file.bytes ≡ text))

pub returns-in_err-name_tail-clause-stays : goal.returns-in_err-name_tail-clause-stays
returns-in_err-name_tail-clause-stays g c job reads =
    let path = home_of c.args.sides.now in
    let text = c.args.text.now in
    let clear = J.cleared path (J.from path job) (tmp_of path) _ _ c.in_ok-clear_tmp.ensures.clears
    (inr (inr refl)) (J.staging path job) (remove_tmp path job) in
    let made = J.tmp_made path job clear c.in_ok-make_tmp.ensures.called in
    let written = J.tmp_written path job {bytes = text} made c.in_ok-write_tmp.ensures.called in
    let synced = J.tmp_synced path job text written c.in_ok-sync_tmp.ensures.called in
    J.refused path job synced c.in_err-name_tail.ensures.called (inr (inr refl), inr (inl refl))
    (λ wrote s. refl) (J.staging_tmp path job (IsDurable text))

pub returns-in_err-sync_names-clause-stays : goal.returns-in_err-sync_names-clause-stays
returns-in_err-sync_names-clause-stays g c job reads =
    let path = home_of c.args.sides.now in
    let text = c.args.text.now in
    let clear = J.cleared path (J.from path job) (tmp_of path) _ _ c.in_ok-clear_tmp.ensures.clears
    (inr (inr refl)) (J.staging path job) (remove_tmp path job) in
    let made = J.tmp_made path job clear c.in_ok-make_tmp.ensures.called in
    let written = J.tmp_written path job {bytes = text} made c.in_ok-write_tmp.ensures.called in
    let synced = J.tmp_synced path job text written c.in_ok-sync_tmp.ensures.called in
    let named = J.tail_named path job text reads synced c.in_ok-name_tail.ensures.called in
    J.refused path job named c.in_err-sync_names.ensures.called tt (λ wrote s. refl)
    (J.decided path job)

pub returns-clause-ok : goal.returns-clause-ok
returns-clause-ok g c job reads =
    let path = home_of c.args.sides.now in
    let text = c.args.text.now in
    let clear = J.cleared path (J.from path job) (tmp_of path) _ _ c.in_ok-clear_tmp.ensures.clears
    (inr (inr refl)) (J.staging path job) (remove_tmp path job) in
    let made = J.tmp_made path job clear c.in_ok-make_tmp.ensures.called in
    let written = J.tmp_written path job {bytes = text} made c.in_ok-write_tmp.ensures.called in
    let synced = J.tmp_synced path job text written c.in_ok-sync_tmp.ensures.called in
    let named = J.tail_named path job text reads synced c.in_ok-name_tail.ensures.called in
    J.tail_kept path job named c.in_ok-sync_names.ensures.called

pub returns-clause-stays : goal.returns-clause-stays
returns-clause-stays g c job reads =
    let path = home_of c.args.sides.now in
    J.forget path job (returns-clause-ok g c job reads) (J.writing path job AnyFile)
