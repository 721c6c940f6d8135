use Rattle.std.proofs.Common.{refl}
use Rattle.folder_drivers.specs.Made.{is_maildir_begun, maildir_makes}
use Rattle.folder_drivers.specs.MetNames.{plain_names}
use Rattle.folder_makes.specs.Parts.{IsAt, IsIn, Nowhere, maildir_names}
use Rattle.folder_makes.proofs.Leaving.{maildir_if}
use Rattle.folder_makes.proofs.Looking.{first_fits, met_on}
use Rattle.folder_makes.proofs.Maildirs.{IsOfMaildir, whole_first, whole_then}
use Rattle.folder_makes.proofs.Making.{refused_makes, result_makes, unfit_makes}
use Rattle.folder_makes.proofs.Whole.{begun_is, made_if, maildir_apart}
use Rattle.folder_shapes.proofs.MaildirLemmas.{a_maildir}
use Rattle.folder_makes.proofs.maildir.make_maildir.Goals as goal

pub returns-in-Err : goal.returns-in-Err
returns-in-Err g c = let path = c.args.path.now in
    refused_makes maildir_makes path (IsOfMaildir path) Nowhere (a_maildir path)
    (maildir_apart path) c.in-Err.why (whole_first path _ c.in-Err.ensures.part)

pub returns-then-not-is_begun : goal.returns-then-not-is_begun
returns-then-not-is_begun g c = let path = c.args.path.now in
    unfit_makes maildir_makes path (IsOfMaildir path) Nowhere (a_maildir path)
    (maildir_apart path) c.in-Ok.names (whole_first path _ c.in-Ok.ensures.part)
    (first_fits is_maildir_begun path (plain_names c.in-Ok.names) _ refl
    (begun_is c.in-Ok.names.items c.as_slice.result.now c.is_begun.result _ c.is_begun.ensures
    c.as_slice.ensures c.if-not-is_begun.true) c.in-Ok.ensures.met)

pub returns : goal.returns
returns g c = let path = c.args.path.now in
    result_makes maildir_makes path (IsOfMaildir path) Nowhere (a_maildir path)
    (maildir_apart path) c.finish.result
    (whole_then path c.finish.result c.in-Ok.ensures.part c.finish.ensures.part)
    (first_fits is_maildir_begun path (plain_names c.in-Ok.names) _ refl
    (begun_is c.in-Ok.names.items c.as_slice.result.now c.is_begun.result _ c.is_begun.ensures
    c.as_slice.ensures c.if-not-is_begun.false)
    (met_on (IsIn path maildir_names) Nowhere path (plain_names c.in-Ok.names) c.in-Ok.ensures.met
    c.finish.ensures.part.calls))
    (made_if c.mark.result path c.finish.result _ _ c.mark.ensures.1
    (whole_then path c.finish.result c.in-Ok.ensures.part c.finish.ensures.part).calls
    (maildir_if (IsAt path) Nowhere path c.finish.result _ _ _ c.look_or_make.ensures.part.calls
    c.finish.ensures.there))
