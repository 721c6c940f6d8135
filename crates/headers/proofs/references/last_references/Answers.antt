use Rattle.std.proofs.Common.{◌≤◌, length, map, arith}
use Rattle.std.proofs.lemmas.List.{length-map}
use Rattle.mail_base.specs.Series.{plain_texts}
use Rattle.headers.specs.FoldedField.{plain_folded}
use Rattle.headers.specs.Values.{references}
use Rattle.headers.proofs.ReferencesLemmas.{last_ids_kept, last_ids_rest}
use Rattle.headers.proofs.references.last_references.Goals as goal

pub loop-left-preserved : goal.loop-left-preserved
loop-left-preserved c = record {
  few = c.in_ok-add_field.ensures.few;
  same = last_ids_rest c.loop-left.left.now _ (plain_texts c.loop-left.names)
      (plain_texts c.add_field.new.names) (references (map plain_folded c.args.fields.now))
      c.in-len1-up.len_at_least
      c.in_ok-add_field.ensures.value c.loop-left.invariant.same;
}

pub returns : goal.returns
returns c =
    let names = c.loop-left.names.items in
    let few : length (plain_texts c.loop-left.names) ≤ 64 =
    omega (arith, length-map names (λ name. name.items), c.loop-left.invariant.few) in
    last_ids_kept (plain_texts c.loop-left.names) (references (map plain_folded c.args.fields.now))
    c.loop-left.left.now
    c.in_default.len_below few c.loop-left.invariant.same
