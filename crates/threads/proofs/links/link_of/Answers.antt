use Rattle.std.proofs.Common.{◌∙◌, ap}
use Rattle.threads.specs.Firsts.{place_in}
use Rattle.threads.specs.Message.{PlainMessage, plain_message}
use Rattle.threads.proofs.FirstsLemmas.{at_place}
use Rattle.threads.proofs.OwnLemmas.{own_none}
use Rattle.threads.proofs.links.link_of.Goals as goal

pub duplicated-requires : goal.duplicated-requires
duplicated-requires c = λ apart.
    let m = c.index-messages-place.result in
    own_none (place_in c.args.holders.now) c.args.place (plain_message m).message_id
    (λ id is. c.requires.own apart c.args.place id c.requires.within
    (ap (λ (q : PlainMessage). q.message_id)
    (at_place c.args.messages.now m c.args.place c.requires.within c.index-messages-place.is)
    ∙ is))
