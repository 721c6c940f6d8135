use Rattle.std.proofs.Common.{refl, true}
use Rattle.folder_core.specs.Mh.{sequences_path}
use Rattle.folder_drivers.specs.Made.{mh_makes}
use Rattle.folder_drivers.specs.MetNames.{plain_names}
use Rattle.folder_makes.specs.Parts.{IsAt, Nowhere}
use Rattle.folder_makes.proofs.Looking.{first_fits, met_on}
use Rattle.folder_makes.proofs.Making.{refused_makes, result_makes}
use Rattle.folder_makes.proofs.MhMade.{made_if, mh_apart, mh_first, mh_then}
use Rattle.folder_shapes.proofs.MhLemmas.{an_mh_folder}
use Rattle.folder_makes.proofs.mh.make_mh.Goals as goal

pub returns-in-Err : goal.returns-in-Err
returns-in-Err g c = let path = c.args.path.now in
    refused_makes mh_makes path (IsAt path) (IsAt (sequences_path path)) (an_mh_folder path)
    (mh_apart path) c.in-Err.why (mh_first path _ c.in-Err.ensures.part)

pub returns : goal.returns
returns g c = let path = c.args.path.now in
    result_makes mh_makes path (IsAt path) (IsAt (sequences_path path)) (an_mh_folder path)
    (mh_apart path) c.finish-result.result
    (mh_then path c.finish-result.result c.in-Ok.ensures.part c.finish-result.ensures.part)
    (first_fits (λ names. true) path (plain_names c.in-Ok._names) true refl refl
    (met_on Nowhere (IsAt (sequences_path path)) path (plain_names c.in-Ok._names)
    c.in-Ok.ensures.met c.finish-result.ensures.part.calls))
    (made_if c.mark.result path c.finish-result.result _ _ _ c.mark.ensures.1
    c.in-Ok.ensures.part.calls
    (mh_then path c.finish-result.result c.in-Ok.ensures.part c.finish-result.ensures.part).calls
    c.finish-result.ensures.there c.finish-result.ensures.sequences)
