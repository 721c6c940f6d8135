use Rattle.std.proofs.Common.{◌∙◌, ap, Some}
use Rattle.std.specs.Prelude.{if◌then◌else◌}
use Rattle.std.specs.Str.{bytes_eq}
use Rattle.threads.specs.Firsts.{place_in}
use Rattle.threads.proofs.FirstsLemmas.{place_put}
use Rattle.threads.proofs.firsts.Firsts.put.Goals as goal

pub returns : goal.returns
returns c = record {
  had = c.in_ok-insert.ensures.old ∙ ap (λ l. place_in l c.args.text.now) c.self.view_is;
  put = λ other.
      ap (λ l. place_in l other) c.in_ok-insert.ensures.entries
      ∙ place_put c.self.inside.places.entries c.args.text c.args.place other
      ∙ ap (λ l. if bytes_eq other c.args.text.now then Some c.args.place else place_in l other)
      c.self.view_is;
}
