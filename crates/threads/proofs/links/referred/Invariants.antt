use Rattle.std.proofs.Common.{◌≡◌, length, map}
use Rattle.threads.specs.Firsts.{place_in}
use Rattle.threads.specs.Links.{referred}
use Rattle.threads.proofs.links.referred.Given as goal

abbrev pub invariant-loop-left : goal.invariant-loop-left
invariant-loop-left l =
    referred (place_in l.holders) l.place (map (λ c. c.items) l.left)
    ≡ referred (place_in l.holders) l.place (map (λ c. c.items) l.fn.candidates)

abbrev pub decreases-loop-left : goal.decreases-loop-left
decreases-loop-left l = length l.left
