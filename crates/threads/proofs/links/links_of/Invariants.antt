use Rattle.std.proofs.Common.{◌≡◌, map}
use Rattle.std.specs.List.{range_with_len}
use Rattle.threads.specs.Links.{link_of}
use Rattle.threads.specs.Message.{plain_messages}
use Rattle.threads.proofs.links.links_of.Given as goal

abbrev pub invariant-loop-place : goal.invariant-loop-place
invariant-loop-place l =
    l.links.items ≡ map (link_of l.options (plain_messages l.messages)) (range_with_len 0 l.place)
