use Rattle.std.proofs.Common.{◌∙◌, ◌++◌, ◌∷◌, [], ap}
use Rattle.folder_drivers.specs.MboxRegion.{plain_region, quoted_text}
use Rattle.folder_drivers.specs.MboxPostmark.{postmark_line}
use Rattle.mbox_items.proofs.CalendarLemmas.{back_moment}
use Rattle.mbox_items.proofs.item_region.plain_region.Goals as goal

pub returns : goal.returns
unfolding plain_region
returns c =
    let item = c.args.item.now in
    c.in_ok-push.ensures.ok
    ∙ ap (λ l. l ++ 10 ∷ []) (c.in_ok-append_quoted.ensures
    ∙ ap (λ l. c.append_postmark.new.text.items ++ quoted_text l) c.as_slice-2.ensures
    ∙ ap (λ l. l ++ quoted_text item.text.items) (c.in_ok-append_postmark.ensures
    ∙ ap (λ m. c.new-region.result.items ++ postmark_line c.as_slice.result.now m)
    (back_moment item.moment item.in_range)
    ∙ ap (λ l. l ++ postmark_line c.as_slice.result.now item.moment) c.new-region.ensures
    ∙ ap (λ l. postmark_line l item.moment) c.as_slice.ensures))
