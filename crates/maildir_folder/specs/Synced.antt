-- The files of a folder that a sync looks for.
use Rattle.std.specs.Prelude.{List, None}
use Rattle.std.specs.List.{All}
use Rattle.maildir_folder.specs.Candidates.{IsCandidate, Rises, plain_file}
use Rattle.maildir_folder.specs.declared.candidates.Candidate.{Candidate}
use Rattle.std.specs.Prelude.{map}

-- files that may be messages, in the order of their bases
pub record AreFiles (files : List Candidate) : Type 0 where
  pub each : All IsCandidate files
  pub rises : Rises None (map plain_file files)
