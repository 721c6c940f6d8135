use Rattle.std.proofs.Common.{map}
use Rattle.folder_letters.specs.Letters.{plain_letter}
use Rattle.index_listed.proofs.HeadLemmas.{head_is, letter_is}
use Rattle.index_listed.proofs.listed.listed_with.Goals as goal

pub returns : goal.returns
returns c =
    let mail = letter_is c.args.letters.now c.args.id.0 c.index-letters-number.result
    c.requires.letter c.index-letters-number.is in
    let head = head_is c.args.heads.now (map plain_letter c.args.letters.now) c.requires.heads
    c.args.id.0 c.index-heads-number.result c.requires.head c.index-heads-number.is in
    λ i. record { id = c.args.id; mail = mail i; header = head i }
