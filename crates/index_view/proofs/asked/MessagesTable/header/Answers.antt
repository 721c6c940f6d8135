use Rattle.std.proofs.Common.{◌∙◌, Option, ap, option_map, refl, sym}
use Rattle.std.proofs.lemmas.Option.{slice_get_past, slice_get_read}
use Rattle.headers.specs.Header.{PlainHeader}
use Rattle.patterns_match.specs.Listings.{Message}
use Rattle.index_listed.specs.Listed.{PlainListed, plain_listed}
use Rattle.index_listed.specs.declared.listed.Listed.{Listed}
use Rattle.index_view.proofs.TableLemmas.{told_listed}
use Rattle.index_view.proofs.asked.MessagesTable.header.Goals as goal

pub returns-in-Some : goal.returns-in-Some
returns-in-Some c =
    let m = c.args.self.now in
    let f : PlainListed → PlainHeader = λ l. l.header in
    let found = c.in-Some.ensures.lookup in
    sym (told_listed m (λ (o : Message). o.header) f (λ _. refl) c.args.place
    ∙ ap (λ (o : Option Listed). option_map f (option_map plain_listed o))
    (slice_get_read m.listed.now _ c.args.place c.in-Some.listed.now refl found.3.0 found.1))

pub returns-in-None : goal.returns-in-None
returns-in-None c =
    let m = c.args.self.now in
    let f : PlainListed → PlainHeader = λ l. l.header in
    sym (told_listed m (λ (o : Message). o.header) f (λ _. refl) c.args.place
    ∙ ap (λ (o : Option Listed). option_map f (option_map plain_listed o))
    (slice_get_past m.listed.now c.args.place c.in-None.ensures.lookup.3))
