use Rattle.pager.proofs.ShownLemmas.{broken_full, broken_shown, broken_whole, tabs_end}
use Rattle.pager.proofs.laws.lines_are_broken.Goals as goal

pub returns-clause-line : goal.returns-clause-line
returns-clause-line c = broken_whole

pub returns-clause-full : goal.returns-clause-full
returns-clause-full c = broken_full

pub returns-clause-shown : goal.returns-clause-shown
returns-clause-shown c = broken_shown

pub returns-clause-tabs : goal.returns-clause-tabs
returns-clause-tabs c = tabs_end
