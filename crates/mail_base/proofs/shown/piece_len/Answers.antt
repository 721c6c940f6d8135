use Rattle.std.proofs.Common.{sym, ◌∙◌, arith}
use Rattle.mail_base.proofs.ShownLemmas.{piece_some, piece_within, utf8_text_piece}
use Rattle.mail_base.proofs.shown.piece_len.Goals as goal

pub returns-in-None-default-clause-within : goal.returns-in-None-default-clause-within
returns-in-None-default-clause-within c =
    omega (arith, c.decode.ensures.size, piece_within c.args.bytes.now)

pub returns-in-None-default-clause-text : goal.returns-in-None-default-clause-text
returns-in-None-default-clause-text c =
    utf8_text_piece c.args.bytes.now c.decode.result.1 c.decode.ensures.size
    (sym c.decode.ensures.char ∙ c.in-None-default.is-0)

pub returns-in-None-default-clause-some : goal.returns-in-None-default-clause-some
returns-in-None-default-clause-some c some none =
    omega (arith, c.decode.ensures.size, piece_some c.args.bytes.now some)
