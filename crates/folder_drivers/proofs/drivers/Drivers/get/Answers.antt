use Rattle.std.proofs.Common.{rules, arith}
use Rattle.std.proofs.lemmas.Grind.{common_steps}
use Rattle.folder_drivers.proofs.drivers.Drivers.get.Goals as goal

pub returns-then-eq-clause-held : goal.returns-then-eq-clause-held
returns-then-eq-clause-held g c = (
  c.loop-driver.driver-index,
  c.driver-item.result,
  search rules,
  grind (arith, common_steps),
  grind (arith, common_steps),
)
