use Rattle.headers_laws.proofs.LawsOfFields.{written_fields_are_read, written_body_is_found}
use Rattle.headers_laws.proofs.laws.written_fields_are_read.Goals as goal

pub returns-clause-fields : goal.returns-clause-fields
returns-clause-fields c = written_fields_are_read

pub returns-clause-body : goal.returns-clause-body
returns-clause-body c = written_body_is_found
