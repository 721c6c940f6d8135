use Rattle.std.proofs.Common.{◌∙◌, length, ap}
use Rattle.folder_core.proofs.Messages.{Cover-same}
use Rattle.mbox_text.proofs.ChangingLemmas.{first_fits}
use Rattle.folder_drivers.specs.MboxFront.{begin_with, cores}
use Rattle.mbox_writes.specs.Fronts.{cores_in}
use Rattle.mbox_writes.proofs.FrontLemmas.{cores_regions}
use Rattle.mbox_writes.proofs.same_cores.cores_begin.Goals as goal

pub loop-left-init : goal.loop-left-init
loop-left-init c =
    let known = c.args.known.now in
    let bytes = c.args.bytes.now in
    let cut = c.as_slice-left.ensures ∙ c.in_ok-known_regions.ensures in
    record {
      first = (0, Cover-same known c.as_slice-left.result.now cut);
      behind = (0, Cover-same bytes c.args.regions.now c.requires.cut);
      same = ap (λ l. begin_with (cores_in known l) (cores_in bytes c.args.regions.now)) cut
          ∙ ap (λ l. begin_with l (cores_in bytes c.args.regions.now)) (cores_regions known)
          ∙ ap (λ l. begin_with (cores known) (cores_in bytes l)) c.requires.cut
          ∙ ap (begin_with (cores known)) (cores_regions bytes);
    }

pub is_same-requires-clause-known : goal.is_same-requires-clause-known
is_same-requires-clause-known c =
    let fits = first_fits (length c.args.known.now) c.loop-left.left.now
    c.in-len1-up.len_at_least c.loop-left.invariant.first in
    (fits.from_end, fits.within)

pub is_same-requires-clause-there : goal.is_same-requires-clause-there
is_same-requires-clause-there c =
    let fits = first_fits (length c.args.bytes.now) c.loop-left.there.now
    c.in-len1-up-there.len_at_least c.loop-left.invariant.behind in
    (fits.from_end, fits.within)
