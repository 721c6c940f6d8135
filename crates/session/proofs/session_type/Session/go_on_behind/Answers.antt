use Rattle.std.proofs.Common.{◌∙◌, Bool, ap, map}
use Rattle.std.proofs.lemmas.Result.{on_ok_weaker}
use Rattle.folder_letters.specs.Letters.{plain_letter}
use Rattle.session.specs.Runs.{behind_check, plain_session}
use Rattle.session.proofs.BehindLemmas.{acting_settles, over_fits}
use Rattle.session.proofs.FittingLemmas.{fits_act}
use Rattle.session.proofs.session_type.Session.go_on_behind.Goals as goal

pub settle-requires : goal.settle-requires
settle-requires g c = fits_act _ _ c.requires.fits

pub returns-then-leaves-clause-on : goal.returns-then-leaves-clause-on
returns-then-leaves-clause-on g c = λ given is notes.
    ap (λ (leaves : Bool). behind_check leaves given (plain_session c.args.self.now notes))
    c.if-leaves.ensures

pub returns-then-leaves-clause-fits : goal.returns-then-leaves-clause-fits
returns-then-leaves-clause-fits g c =
    over_fits (map plain_letter c.args.archive.now.items) c.args.self.now c.requires.fits

pub returns-clause-on : goal.returns-clause-on
returns-clause-on g c = on_ok_weaker c.settle.result (λ goes given is notes.
    goes given is notes
    ∙ ap (λ (leaves : Bool). behind_check leaves given (plain_session c.args.self.now notes))
    c.if-leaves.ensures) c.settle.ensures.acting

pub returns-clause-settled : goal.returns-clause-settled
returns-clause-settled g c = on_ok_weaker c.settle.result
    (λ goes. acting_settles _ _ c.args.self.now c.settle.new.self goes) c.settle.ensures.acting
