use Rattle.headers.proofs.DecodeLemmas.{first_word-byte}
use Rattle.headers.proofs.decode.equals_at.Goals as goal

pub returns-clause-none : goal.returns-clause-none
returns-clause-none c = (first_word-byte c.args.text.now c.memchr.result c.memchr.ensures).0

pub returns-clause-some : goal.returns-clause-some
returns-clause-some c = (first_word-byte c.args.text.now c.memchr.result c.memchr.ensures).1
