use Rattle.std.proofs.Common.{FitsSigned, arith, map, w64}
use Rattle.std.proofs.Math.Facts.{to_z-of_z}
use Rattle.jiff_core.proofs.SignedLemmas.{signed_arith}
use Rattle.folder_letters.specs.Letters.{plain_letter}
use Rattle.session_index.proofs.IndexLemmas.{turned_shows}
use Rattle.session.proofs.learning.add_score.Goals as goal

pub returns-in-Ok : goal.returns-in-Ok
returns-in-Ok c =
    let entry = c.args.entry in
    let fits : FitsSigned w64 entry.value = omega (arith, signed_arith, entry.low, entry.high) in
    turned_shows (map plain_letter c.args.archive.now.items) c.args.view.now c.add_score.new.self _
    c.requires (rw (to_z-of_z fits) at c.in-Ok.ensures.ok)
