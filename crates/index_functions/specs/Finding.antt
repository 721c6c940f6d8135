-- What is told of what a check found.
use Rattle.std.specs.Prelude.{[], ◌∷◌, List, Option, None, Some}
use Rattle.folder_letters.specs.declared.listing.Listed.{Listed}
use Rattle.mail_base.specs.declared.kind.Id.{Id}
use Rattle.index_functions.specs.declared.notice.Notice.{Notice}
use Rattle.index_functions.specs.declared.notice.Notice.TheVariants.{NewMail, Modified}

-- what is told of what a check found: that messages are gone, else that some came
abbrev pub found_notice : List Id → List Listed → Option Notice
found_notice [] [] = None
found_notice [] (listed ∷ came) = Some NewMail
found_notice (id ∷ gone) came = Some Modified
