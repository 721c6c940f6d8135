use Rattle.std.proofs.Common.{◌≡◌, FitsSigned, arith, w32, w64}
use Rattle.std.proofs.lemmas.Int.{to_z-of_z}
use Rattle.std.proofs.lemmas.Result.{err_from_is_err_and}
use Rattle.patterns.proofs.ReadingLemmas.{asked_code, exprs_fail, exprs_read_on, read_fails}
use Rattle.jiff.proofs.SpanFacts.{signed_arith}
use Rattle.jiff_core.specs.Date.{epoch_day}
use Rattle.patterns.specs.Dates.{days_of}
use Rattle.patterns_match.specs.Days.{day_number}
use Rattle.patterns.specs.Patterns.{pattern_of}
use Rattle.patterns_match.specs.Pattern.{pattern_tree}
use Rattle.patterns.proofs.pattern_text.read_pattern.Goals as goal

pub returns-in_err-draft-clause-reads : goal.returns-in_err-draft-clause-reads
returns-in_err-draft-clause-reads g c =
    let p = err_from_is_err_and c.from_residual.result c.from_residual.ensures.1 in
    let today = c.day_at-today.result in
    let moment : FitsSigned w64 c.args.moment = omega (arith, signed_arith) in
    let offset : FitsSigned w32 c.args.offset = omega (arith, signed_arith) in
    let is_today : epoch_day today ≡ day_number c.args.moment c.args.offset =
    simp to_z-of_z at c.day_at-today.ensures in
    rw (p.1, p.2) (record {
      today = today;
      is_today = is_today;
      read = read_fails pattern_tree c.in_err-draft.field-0.0
          (pattern_of (days_of today) c.args.text.now) c.args.verdicts.now.kept _
          c.in_err-draft.ensures;
    })

pub returns-in_err-operations-clause-reads : goal.returns-in_err-operations-clause-reads
returns-in_err-operations-clause-reads g c =
    let p = err_from_is_err_and c.from_residual-in_err-operations.result
    c.from_residual-in_err-operations.ensures.1 in
    let today = c.day_at-today.result in
    let moment : FitsSigned w64 c.args.moment = omega (arith, signed_arith) in
    let offset : FitsSigned w32 c.args.offset = omega (arith, signed_arith) in
    let is_today : epoch_day today ≡ day_number c.args.moment c.args.offset =
    simp to_z-of_z at c.day_at-today.ensures in
    let draft = c.in_ok-draft.draft in
    rw (p.1, p.2) (record {
      today = today;
      is_today = is_today;
      read = exprs_fail pattern_tree draft.operations.items
          (pattern_of (days_of today) c.args.text.now) draft.code c.in_ok-draft.ensures
          c.in_err-operations.field-0.0 c.in_err-operations.ensures.errors
          (rw c.as_slice.ensures.value at c.in_err-operations.ensures.judges);
    })

pub invariant_of-result : goal.invariant_of-result
invariant_of-result g c =
    let same = rw c.as_slice.ensures.value at c.in_ok-operations.ensures.value in
    record {
      code = (asked_code c.in_ok-draft.draft.operations.items c.in_ok-operations.operations.items
          c.in_ok-draft.draft.code same).1;
    }

pub returns-clause-reads : goal.returns-clause-reads
returns-clause-reads g c =
    let today = c.day_at-today.result in
    let moment : FitsSigned w64 c.args.moment = omega (arith, signed_arith) in
    let offset : FitsSigned w32 c.args.offset = omega (arith, signed_arith) in
    let is_today : epoch_day today ≡ day_number c.args.moment c.args.offset =
    simp to_z-of_z at c.day_at-today.ensures in
    let draft = c.in_ok-draft.draft in
    let same = rw c.as_slice.ensures.value at c.in_ok-operations.ensures.value in
    record {
      today = today;
      is_today = is_today;
      read = exprs_read_on pattern_tree draft.operations.items
          (pattern_of (days_of today) c.args.text.now) draft.code c.in_ok-draft.ensures
          c.in_ok-operations.operations _
          (asked_code draft.operations.items c.in_ok-operations.operations.items draft.code same).0
          (rw c.as_slice.ensures.value at c.in_ok-operations.ensures.judges);
    }
