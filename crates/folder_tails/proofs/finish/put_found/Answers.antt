use Rattle.std.proofs.Common.{ap, arith, false, inl, inr, length, nat_lt, not, refl, sym, ◌∙◌}
use Rattle.std.proofs.Common.{◌≡◌, ◌+◌, ◌^◌}
use Rattle.std.proofs.lemmas.Bool.Decides.{nat_tests}
use Rattle.folder_tails.specs.Causes.{fits}
use Rattle.folder_tails.specs.Recovery.{job_of}
use Rattle.folder_tails.specs.Sides.{home_of}
use Rattle.folder_tails.specs.Stages.{AnyFile, Decided, Finished, HasLock, Stands, Writing}
use Rattle.folder_tails.proofs.Causes as C
use Rattle.folder_tails.proofs.Jobs as J
use Rattle.folder_tails.proofs.Leads as L
use Rattle.folder_tails.proofs.finish.put_found.Goals as goal

pub returns-then-end-at-clause-stays : goal.returns-then-end-at-clause-stays
returns-then-end-at-clause-stays g c ours =
    let path = home_of c.args.sides.now in
    L.only path ours (L.nothing path ours _ (L.found path ours c.args.text.now))
    (L.found path ours c.args.text.now)

pub returns-in_err-sync_names-clause-stays : goal.returns-in_err-sync_names-clause-stays
returns-in_err-sync_names-clause-stays g c ours =
    let path = home_of c.args.sides.now in
    L.refused path ours (L.nothing path ours _ (L.found path ours c.args.text.now))
    c.in_err-sync_names.ensures.called tt (λ wrote s. refl) (L.found path ours c.args.text.now)

pub returns-in_err-put_tail-clause-stays : goal.returns-in_err-put_tail-clause-stays
returns-in_err-put_tail-clause-stays g c ours =
    let path = home_of c.args.sides.now in
    let text = c.args.text.now in
    let reads = sym c.in-Some.ensures in
    let some = L.some_said path ours text _ _ reads in
    let kept = L.of_said path ours text (λ job. Decided path job) (λ job. Writing path job AnyFile)
    _ _
    some (λ said. let job = job_of ours text said in
    J.tail_kept path job (J.begin path job (J.decided path job) _)
    c.in_ok-sync_names.ensures.called) in
    let put = L.of_said path ours text (λ job. Writing path job AnyFile) (λ job. Stands path job) _
    _
    some (λ said. let is = L.said_is path ours text _ _ reads said in
    c.in_err-put_tail.ensures.stays (job_of ours text said) is.0 is.1) in
    L.ends path ours (L.on path ours kept put) (λ may s x. x.1.safe)

pub returns-clause-ok : goal.returns-clause-ok
returns-clause-ok g c ours =
    let path = home_of c.args.sides.now in
    let text = c.args.text.now in
    let reads = sym c.in-Some.ensures in
    let some = L.some_said path ours text _ _ reads in
    let kept = L.of_said path ours text (λ job. Decided path job) (λ job. Writing path job AnyFile)
    _ _
    some (λ said. let job = job_of ours text said in
    J.tail_kept path job (J.begin path job (J.decided path job) _)
    c.in_ok-sync_names.ensures.called) in
    let put = L.of_said path ours text (λ job. Writing path job AnyFile)
    (λ job. Finished path job (HasLock path job)) _ _
    some (λ said. let is = L.said_is path ours text _ _ reads said in
    c.in_ok-put_tail.ensures.ok (job_of ours text said) is.0 is.1) in
    L.on path ours kept put

pub returns-clause-stays : goal.returns-clause-stays
returns-clause-stays g c ours =
    let path = home_of c.args.sides.now in
    L.only path ours (returns-clause-ok g c ours) (L.put path ours c.args.text.now)

pub returns-in_default-clause-why : goal.returns-in_default-clause-why
returns-in_default-clause-why g c =
    λ of_tree. inl (ap (λ o. not (fits o)) (sym c.in_default.ensures), refl)

pub returns-then-end-at-clause-why : goal.returns-then-end-at-clause-why
returns-then-end-at-clause-why g c =
    let past : nat_lt (c.in-Some.at + length c.in-Some.end.now) (2 ^ 64) ≡ false =
    grind (arith, nat_tests) in
    λ of_tree. inl (ap (λ o. not (fits o)) (sym c.in-Some.ensures) ∙ ap not past, refl)

pub returns-in_err-sync_names-clause-why : goal.returns-in_err-sync_names-clause-why
returns-in_err-sync_names-clause-why g c =
    let path = home_of c.args.sides.now in
    C.passed_on _ c.from_residual.result c.from_residual.ensures
    (λ of_tree. inr (C.step_around path c.requires.dir c.in_err-sync_names.ensures.called of_tree))

pub returns-in_err-put_tail-clause-why : goal.returns-in_err-put_tail-clause-why
returns-in_err-put_tail-clause-why g c =
    C.passed_on _ c.from_residual-in_err-put_tail.result c.from_residual-in_err-put_tail.ensures
    (λ of_tree. inr (C.last_later c.in_ok-sync_names.ensures.grows
    (c.in_err-put_tail.ensures.why of_tree)))
