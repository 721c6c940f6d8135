use Rattle.std.proofs.Common.{◌≡◌, ◌∙◌, ◌++◌, ◌∷◌, [], List, ℕ, ap, append_assoc}
use Rattle.std.proofs.lemmas.Result.{on_ok_weaker}
use Rattle.std.specs.Prelude.{codes}
use Rattle.folder_drivers.specs.MboxPostmark.{postmark_line, sender}
use Rattle.folder_drivers.specs.MboxStamp.{spaced, stamp_text}
use Rattle.mbox_items.proofs.CalendarLemmas.{back_moment}
use Rattle.mbox_items.proofs.postmark.append_postmark.Goals as goal

joined : (front name stamp : List ℕ)
    → (((front ++ codes "From ") ++ name) ++ 32 ∷ []) ++ stamp
    ≡ front ++ spaced (codes "From") (spaced name stamp)
joined front name stamp =
    append_assoc ((front ++ codes "From ") ++ name) (32 ∷ []) stamp
    ∙ append_assoc (front ++ codes "From ") name (32 ∷ stamp)
    ∙ append_assoc front (codes "From ") (name ++ 32 ∷ stamp)

pub returns : goal.returns
unfolding postmark_line
returns c =
    let name = sender c.args.address.now in
    let stamp = stamp_text c.args.moment in
    let front = c.args.text.now.items in
    let text =
    c.in_ok-append-2.ensures.ok ∙ ap (λ l. c.push.new.self.items ++ l) (c.stamp_text.ensures
    ∙ ap stamp_text (back_moment c.args.moment c.requires))
    ∙ ap (λ l. l ++ stamp) (c.in_ok-push.ensures.ok
    ∙ ap (λ l. l ++ 32 ∷ []) (c.in_ok-append_sender.ensures
    ∙ ap (λ l. l ++ name) c.in_ok-append.ensures.ok)) in
    on_ok_weaker c.push-2.result
    (λ d. d ∙ ap (λ l. l ++ 10 ∷ []) text
    ∙ append_assoc (((front ++ codes "From ") ++ name) ++ 32 ∷ []) stamp (10 ∷ [])
    ∙ joined front name (stamp ++ 10 ∷ [])) c.push-2.ensures.ok
