use Rattle.std.proofs.Common.{◌∙◌, List, ap, length, map}
use Rattle.folder_letters.specs.Letters.{plain_letter}
use Rattle.folder_letters.specs.declared.change.Changed1.{Changed1}
use Rattle.mail_base.specs.declared.kind.Id.{Id}
use Rattle.index_functions.specs.Syncs.{count_discards}
use Rattle.index_items.specs.Changes.{plain_changes}
use Rattle.session_index.proofs.DeskLemmas.{synced_holds}
use Rattle.session_index.proofs.IndexLemmas.{turned_shows}
use Rattle.session_index.proofs.desk.Desk.synced.Goals as goal

pub returns-clause-ok : goal.returns-clause-ok
returns-clause-ok c =
    let mails = map plain_letter c.args.archive.now.items in
    let d = c.args.self.now in
    let w = c.settle.new.self in
    synced_holds mails d w c.args.kind (plain_changes c.args.changes.now.items)
    (turned_shows mails d.view w _ c.requires.is_of c.in_ok-settle.ensures.ok)
    c.len.result c.count_discards.result
    (c.len.ensures ∙ ap (λ (ids : List Id). length ids) c.ordered.ensures.value)
    (c.count_discards.ensures
    ∙ ap (λ (all : List Changed1). count_discards (plain_changes all)) c.as_slice.ensures)
