use Rattle.std.proofs.Common.{◌++◌, replicate, ap, sym, ◌∙◌, append_assoc}
use Rattle.std.specs.Prelude.{encode_utf8}
use Rattle.std.specs.Str.{encode_utf8_all}
use Rattle.expando.proofs.LineLemmas.{times_next}
use Rattle.expando.proofs.line.push_times.Goals as goal

pub loop-i-preserved : goal.loop-i-preserved
loop-i-preserved c =
    let start = c.args.line.now.items in
    c.in_ok-push_char.ensures.ok
    ∙ ap (λ s. s ++ encode_utf8 c.args.c) c.loop-i.invariant
    ∙ append_assoc start (encode_utf8_all (replicate c.loop-i._i c.args.c)) (encode_utf8 c.args.c)
    ∙ ap (λ s. start ++ s) (sym (times_next c.loop-i._i c.args.c))
