use Rattle.std.proofs.Common.{◌≡◌, ◌<◌, ◌-◌, ◌++◌, length, drop}
use Rattle.bstr.specs.Text.{lines_of}
use Rattle.folder_core.specs.Mbox.{regions}
use Rattle.mbox_text.proofs.RegionsLemmas.{open_at}
use Rattle.mbox_text.proofs.regions.regions_of.Given as goal

abbrev pub invariant-loop-feed : goal.invariant-loop-feed
invariant-loop-feed l = record {
  cut : l.regions.items ++ open_at l.start l.at (lines_of (drop l.at l.bytes)) ≡ regions l.bytes;
  within : l.at < length l.bytes;
}

abbrev pub decreases-loop-feed : goal.decreases-loop-feed
decreases-loop-feed l = length l.bytes - l.at
