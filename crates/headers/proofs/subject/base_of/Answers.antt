use Rattle.std.proofs.Common.{◌≡◌, Some, sym, ◌∙◌}
use Rattle.headers.specs.Subject.{behind_prefix}
use Rattle.headers.proofs.SubjectLemmas.{base_from-found, utf8_behind_prefix}
use Rattle.headers.proofs.subject.base_of.Goals as goal

pub loop-rest-preserved : goal.loop-rest-preserved
loop-rest-preserved c =
    let left = c.loop-rest.left.now in
    let rest = c.in-Some.rest.now in
    let same = c.loop-rest.invariant.same in
    let found : behind_prefix left ≡ Some rest = sym c.in-Some.ensures.value in
    let next = base_from-found same.0 left rest same.1 c.in-Some.ensures.shorter found in
    record {
      utf8 = utf8_behind_prefix left rest found c.loop-rest.invariant.utf8;
      same = (next.0, next.1, sym next.2 ∙ same.2);
    }
