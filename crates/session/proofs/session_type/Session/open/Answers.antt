use Rattle.std.proofs.Common.{arith, map}
use Rattle.folder_letters.specs.Letters.{plain_letter}
use Rattle.session.proofs.session_type.Session.open.Goals as goal

pub returns-clause-fits : goal.returns-clause-fits
returns-clause-fits g c = record {
  is_of = c.in_ok-open.ensures.core.is_of;
  reads = c.in_ok-open.ensures.reads (map plain_letter c.args.archive.now.items)
      c.run_hooks.new.self.window;
  can = record {
    window = rw c.run_hooks.ensures.rest.window c.requires.read.window;
    moment = c.requires.moment;
    few = omega (arith, c.requires.read.few, c.run_hooks.ensures.rest.replaced);
  };
}
