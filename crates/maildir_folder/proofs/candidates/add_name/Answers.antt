use Rattle.std.proofs.lemmas.List.Elements.{All-push, All-same}
use Rattle.maildir_folder.specs.Candidates.{IsCandidate}
use Rattle.maildir_folder.proofs.candidates.add_name.Goals as goal

pub returns-in_ok-push-clause-each : goal.returns-in_ok-push-clause-each
returns-in_ok-push-clause-each c =
    All-same IsCandidate c.push.new.self.items _ c.in_ok-push.ensures.items
    (All-push IsCandidate c.args.files.now.items c.in_ok-candidate_of.field-0 c.requires.each
    c.in_ok-candidate_of.ensures.each)
