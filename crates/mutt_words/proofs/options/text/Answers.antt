use Rattle.std.proofs.Common.{sym, subst}
use Rattle.std.specs.Str.{IsUtf8}
use Rattle.std.proofs.lemmas.Str.{IsUtf8-from_is_utf8}
use Rattle.mutt_words.proofs.options.text.Goals as goal

pub returns-clause-utf8 : goal.returns-clause-utf8
returns-clause-utf8 c = subst IsUtf8 (sym c.in_ok-copy_of.ensures)
    (IsUtf8-from_is_utf8 c.args.value.now (sym c.if-not-is_utf8.ensures))
