use Rattle.std.proofs.Common.{◌≡◌, length}
use Rattle.std.specs.List.{list_any}
use Rattle.mail_base.specs.Lines.{message_fields}
use Rattle.patterns_match.specs.Listings.{ids_named}
use Rattle.patterns_match.specs.Sought.{sought_found}
use Rattle.patterns_match.proofs.searched.id_in_fields.Given as goal

-- it is found in what is left or nowhere
abbrev pub invariant-loop-field : goal.invariant-loop-field
invariant-loop-field l =
    list_any (sought_found l.fn.sought) (ids_named l.fn.name (message_fields l.left))
    ≡ list_any (sought_found l.fn.sought) (ids_named l.fn.name (message_fields l.fn.raw))

abbrev pub decreases-loop-field : goal.decreases-loop-field
decreases-loop-field l = length l.left
