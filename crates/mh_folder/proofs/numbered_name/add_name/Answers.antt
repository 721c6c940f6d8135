use Rattle.std.proofs.lemmas.List.Elements.{All-push, All-same}
use Rattle.mh_folder.specs.NumberedName.{IsNumbered}
use Rattle.mh_folder.proofs.numbered_name.add_name.Goals as goal

pub returns-in_ok-push-clause-each : goal.returns-in_ok-push-clause-each
returns-in_ok-push-clause-each c =
    All-same IsNumbered c.push.new.self.items _ c.in_ok-push.ensures.items
    (All-push IsNumbered c.args.files.now.items c.in_ok-numbered.field-0 c.requires.each
    c.in_ok-numbered.ensures.each)
