-- What terms search for.
use Rattle.std.proofs.Common.{◌≡◌, ℕ, ℤ, List, refl}
use Rattle.std.specs.List.{list_any}
use Rattle.people.specs.People.{PlainPeople}
use Rattle.patterns_match.specs.Asked.{plain_search}
use Rattle.patterns_match.specs.Listings.{Message, texts_of}
use Rattle.patterns_match.specs.Satisfies.{asks}
use Rattle.patterns_match.specs.Sought.{sought_found}
use Rattle.patterns_match.specs.declared.asked.Sought.{Sought}
use Rattle.patterns_match.specs.declared.asked.Sought.TheVariants.{Plain, Expression}
use Rattle.patterns_match.specs.declared.letter.Field.{Field}

pub search_asked : (people : PlainPeople) (offset : ℤ) (listing : List Message) (place : ℕ)
    (m : Message) (field : Field) (sought : Sought)
    → asks people offset listing place m (plain_search field sought)
    ≡ list_any (sought_found sought) (texts_of field m)
search_asked people offset listing place m field (Plain literal) = refl
search_asked people offset listing place m field (Expression expr) = refl
