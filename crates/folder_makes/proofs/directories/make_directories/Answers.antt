use Rattle.std.proofs.Common.{codes, inl, inr, refl, Err}
use Rattle.folder_makes.proofs.Maildirs.{made_in, made_three, made_two}
use Rattle.folder_makes.proofs.directories.make_directories.Goals as goal

pub returns-in-Err : goal.returns-in-Err
returns-in-Err g c =
    made_in c.args.path.now (codes "tmp") (Err c.in-Err.why) (inl refl) c.in-Err.ensures

pub returns-in-Err-make_missing : goal.returns-in-Err-make_missing
returns-in-Err-make_missing g c =
    made_two c.args.path.now (codes "tmp") (codes "new") (Err c.in-Err-make_missing.why) (inl refl)
    (inr (inl refl)) refl refl refl c.in-Ok.ensures c.in-Err-make_missing.ensures

pub returns : goal.returns
returns g c =
    made_three c.args.path.now c.make_missing-3.result c.in-Ok.ensures
    c.in-Ok-make_missing.ensures c.make_missing-3.ensures
