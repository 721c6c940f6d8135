-- The moment that is given is the one at the place.
use Rattle.std.proofs.Common.{◌≡◌, ◌∙◌, ◌<◌, ◌+◌, ℕ, ℤ, List, Some, map, drop, length, get_or}
use Rattle.std.proofs.Common.{sym, subst, ap, arith, rules}
use Rattle.std.proofs.lemmas.Int.{to_z-of_z}
use mir.Val.{SFits, of_z, to_z}
use mir.Syntax.{w64}
use Rattle.mail_base.specs.Streams.{Ticks, moment_of}
use Rattle.mail_base.proofs.Ticking.{ticks_on}
use Rattle.mail_base.proofs.memory_clock.MemoryClockClock.now.Goals as goal

pub returns-then-moments-self : goal.returns-then-moments-self
returns-then-moments-self c =
    let moments : List ℕ = c.self.inside.moments.items in
    let place : ℕ = c.self.inside.at in
    let known : c.as_slice-moments.result.now ≡ moments = c.as_slice-moments.ensures in
    let more : place + 1 < length moments = grind arith in
    let fits : SFits w64 c.moment-now.result = search rules in
    let given : to_z w64 (of_z w64 c.moment-now.result) ≡ moment_of (get_or moments place 0)
    = to_z-of_z w64 c.moment-now.result fits ∙ c.moment-now.ensures
    ∙ ap (λ (l : List ℕ). moment_of (get_or l place 0)) known in
    subst (λ (before : List ℤ). Ticks (Some before)
    (Some (map moment_of (drop (place + 1) moments)))
    (to_z w64 (of_z w64 c.moment-now.result)))
    c.self.view_is
    (subst (λ (now : ℤ). Ticks (Some (map moment_of (drop place moments)))
    (Some (map moment_of (drop (place + 1) moments))) now)
    (sym given) (ticks_on moments place more))
