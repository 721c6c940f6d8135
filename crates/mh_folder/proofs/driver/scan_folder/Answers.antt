use Rattle.std.proofs.Common.{◌∙◌, ap, take}
use Rattle.mh_folder.proofs.DriverLemmas.{refused_scans}
use Rattle.mh_folder.proofs.driver.scan_folder.Goals as goal

pub returns-in-Err : goal.returns-in-Err
returns-in-Err g c =
    refused_scans c.args.archive.now.items c.list_known.new.archive.items c.shorten.new.self.items
    c.args.known.now c.list_known.new.known c.in-Err.why _ _
    (c.shorten.ensures
    ∙ ap (λ n. take n c.list_known.new.archive.items) c.len-letters.ensures
    ∙ c.in-Err.ensures.front) c.requires.right c.in-Err.ensures.scans
