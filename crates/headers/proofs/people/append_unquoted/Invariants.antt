use Rattle.std.proofs.Common.{◌≡◌, ◌++◌, filter, length, not}
use Rattle.headers.specs.AddressByte.{bytes_of, has}
use Rattle.headers.specs.declared.address_byte.Role.TheVariants.{Quote}
use Rattle.headers.proofs.people.append_unquoted.Given as goal

abbrev pub invariant-loop-left : goal.invariant-loop-left
invariant-loop-left l =
    l.name.items ++ bytes_of (filter (λ b. not (has Quote b)) l.left)
    ≡ l.initial.name.items ++ bytes_of (filter (λ b. not (has Quote b)) l.bytes)

abbrev pub decreases-loop-left : goal.decreases-loop-left
decreases-loop-left l = length l.left
