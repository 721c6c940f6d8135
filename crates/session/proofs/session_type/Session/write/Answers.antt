use Rattle.std.proofs.Common.{◌∙◌, List, ap, map, refl}
use Rattle.folder_letters.specs.Letters.{plain_letter}
use Rattle.rc_lang.specs.Values.{PlainValue}
use Rattle.rc_lang.specs.declared.variable.Variable.TheVariants.{MhPurge}
use Rattle.session_screen.specs.Tuning.{is_set}
use Rattle.index_items.specs.Changes.{plain_changes}
use Rattle.session.specs.declared.session_type.Session.{Session}
use Rattle.session.proofs.WritingLemmas.{syncs_by, writes}
use Rattle.session.proofs.session_type.Session.write.Goals as goal

pub returns : goal.returns
returns g c =
    let old : Session = c.args.self.now in
    let mid : Session = record old { folder = c.sync-tried.new.self } in
    writes (map plain_letter c.args.archive.now.items) (plain_changes c.args.changes.items)
    c.args.quits c.sync-tried.result.marks c.sync-tried.result.answer old mid
    c.take_tried-taken.new.self c.sync-tried.new.self _ c.take_tried-taken.result _ _ refl
    c.event.ensures
    (c.is_set-purges.ensures ∙ ap (λ (values : List PlainValue). is_set values MhPurge)
    c.settings.ensures) (syncs_by c.as_slice-owner.ensures c.sync-tried.ensures)
    c.take_tried-taken.ensures.takes
    c.take_tried-taken.ensures.rest c.requires.fits
