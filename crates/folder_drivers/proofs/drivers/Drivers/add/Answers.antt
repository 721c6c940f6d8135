use Rattle.std.proofs.Common.{true, false, ◌≡◌}
use Rattle.folder_drivers.proofs.drivers.Drivers.add.Goals as goal

pub returns-then-has-clause-twice : goal.returns-then-has-clause-twice
returns-then-has-clause-twice g c = λ _. rw c.kind_of_box.ensures at (c.has.ensures.0 c.if-has.true)

pub returns-clause-once : goal.returns-clause-once
returns-clause-once g c = λ any.
    let held : c.has.result ≡ true = c.has.ensures.1 (rw c.kind_of_box.ensures any) in
    let free : c.has.result ≡ false = c.if-has.false in
    absurd (cc)
