use Rattle.std.proofs.Common.{List, ap, arith, map, subst, sym, ◌∙◌}
use Rattle.std.proofs.lemmas.List.{length-map, take-map}
use Rattle.folder_core.specs.Right.{Right}
use Rattle.folder_letters.specs.Letters.{Mail, plain_letter}
use Rattle.session_events.proofs.open_folder.OpenFolder.forget.Goals as goal

pub returns-clause-right : goal.returns-clause-right
returns-clause-right c told right =
    let met = c.args.self.now.met in
    let letters = c.args.archive.now.items in
    subst (λ (l : List Mail). Right c.args.self.now.known.kind l c.shorten.new.self told)
    (take-map plain_letter met letters ∙ sym (ap (map plain_letter) c.shorten-2.ensures))
    (c.shorten.ensures.right (map plain_letter letters) told
    (omega (arith, c.requires.met, length-map letters plain_letter)) right)
