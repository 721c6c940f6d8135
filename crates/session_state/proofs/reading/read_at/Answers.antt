use Rattle.std.proofs.Common.{◌∙◌, FitsSigned, Some, ap, arith, sym, w32, w64, ℤ}
use Rattle.jiff_core.proofs.SignedLemmas.{signed_arith}
use Rattle.std.proofs.lemmas.Int.{to_z-of_z}
use Rattle.std.specs.Prelude.{option_map}
use Rattle.patterns_match.specs.Pattern.{PlainPattern, pattern_tree}
use Rattle.patterns_match.specs.Trees.{Tree}
use Rattle.session_state.proofs.ReadingLemmas.{no_reading, reads_as}
use Rattle.session_state.proofs.reading.read_at.Goals as goal

pub returns-in-Ok-clause-read : goal.returns-in-Ok-clause-read
returns-in-Ok-clause-read g c = λ later keeps.
    let west = c.requires.west in
    let east = c.requires.east in
    let low = c.requires.moment.low in
    let high = c.requires.moment.high in
    let moment : FitsSigned w64 c.args.time.seconds = omega (arith, signed_arith) in
    let offset : FitsSigned w32 c.args.time.offset = omega (arith, signed_arith) in
    let same = simp to_z-of_z at c.in-Ok.ensures.offset in
    let read = simp to_z-of_z at c.in-Ok.ensures.reads in
    ap (λ (offset : ℤ). let limit : PlainPattern = record {
      tree = pattern_tree c.in-Ok.pattern;
      offset = offset;
    } in Some limit) same
    ∙ sym (ap (option_map (λ (tree : Tree). let limit : PlainPattern = record {
      tree = tree;
      offset = c.args.time.offset;
    } in limit))
    (reads_as _ _ _ _ _ _ _ _ read later keeps))

pub returns-in-Err : goal.returns-in-Err
returns-in-Err g c = record { keeps = c.in-Err.ensures.reads.read.judges.keeps; read = tt }

pub returns-in-Err-2-clause-read : goal.returns-in-Err-2-clause-read
returns-in-Err-2-clause-read g c = λ later keeps.
    let west = c.requires.west in
    let east = c.requires.east in
    let low = c.requires.moment.low in
    let high = c.requires.moment.high in
    let moment : FitsSigned w64 c.args.time.seconds = omega (arith, signed_arith) in
    let offset : FitsSigned w32 c.args.time.offset = omega (arith, signed_arith) in
    let read = simp to_z-of_z at c.in-Err.ensures.reads in
    sym (ap (option_map (λ (tree : Tree). let limit : PlainPattern = record {
      tree = tree;
      offset = c.args.time.offset;
    } in limit))
    (no_reading _ c.in-Err.error (reads_as _ _ _ _ _ _ _ _ read later keeps)
    (sym c.is_memory.ensures ∙ c.if-is_memory.false)))
