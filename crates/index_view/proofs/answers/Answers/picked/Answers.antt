use Rattle.std.proofs.Common.{◌∙◌, ap, length, map, sym}
use Rattle.std.proofs.lemmas.List.{length-map}
use Rattle.index_listed.specs.Listed.{plain_listed}
use Rattle.index_view.proofs.TableLemmas.{table_long}
use Rattle.index_view.proofs.answers.Answers.picked.Goals as goal

pub passes-requires : goal.passes-requires
passes-requires c =
    let listed = c.args.listed.now in
    ap length c.messages_of-messages.ensures
    ∙ table_long (map plain_listed listed) c.deref.result.now c.deref-2.result.now
    ∙ length-map listed plain_listed ∙ sym c.requires
