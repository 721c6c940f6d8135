use Rattle.folder_makes.proofs.MboxBegun.{begins, stands_if}
use Rattle.folder_makes.proofs.MboxStops.{here, keeps}
use Rattle.folder_makes.proofs.mbox.make_mbox.Goals as goal

pub returns : goal.returns
returns g c = let path = c.args.path.now in let tried = c.look_and_make-result.ensures in record {
  keeps = λ ours. keeps path ours c.mark.result _ _ c.mark.ensures.1 tried.calls;
  begins = λ ours. begins path ours c.mark.result _ _ c.mark.ensures.1 tried.calls;
  stands = stands_if path c.look_and_make-result.result c.mark.result _ _ c.mark.ensures.1
      tried.calls tried.kept;
  here = here path tried.calls;
  made = tried.made;
  looked = tried.looked;
  may_be = tried.may_be;
  cause = tried.cause;
  serves = tried.serves;
}
