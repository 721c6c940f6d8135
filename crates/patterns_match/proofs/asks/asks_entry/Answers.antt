use Rattle.std.proofs.Common.{FitsSigned, w32, arith}
use Rattle.std.proofs.lemmas.Int.{to_z-of_z}
use Rattle.jiff.proofs.SpanFacts.{signed_arith}
use Rattle.patterns_match.specs.Entries.{plain_entry}
use Rattle.patterns_match.proofs.SoughtLemmas.{search_asked}
use Rattle.patterns_match.proofs.asks.asks_entry.Goals as goal

pub returns-in-Searches-clause-value : goal.returns-in-Searches-clause-value
returns-in-Searches-clause-value g c =
    rw c.in-Searches.is
    (rw (search_asked c.args.people.now c.args.offset (g.T.Table.messages c.args.table.now)
    c.args.place (plain_entry c.args.entry.now) c.in-Searches.field c.in-Searches.sought)
    c.is_searched.ensures.value)

pub returns-in-Dated-clause-value : goal.returns-in-Dated-clause-value
returns-in-Dated-clause-value g c =
    let fits : FitsSigned w32 c.args.offset = omega (arith, signed_arith) in
    let dated = simp to_z-of_z at c.is_dated.ensures in
    rw c.in-Dated.is dated
