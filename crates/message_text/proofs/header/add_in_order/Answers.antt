use Rattle.std.proofs.Common.{◌∙◌, ◌++◌, ap, map, not}
use Rattle.std.specs.Prelude.{filter}
use Rattle.mail_base.specs.Series.{plain_texts}
use Rattle.headers.specs.Field.{plain_field}
use Rattle.headers.specs.Values.{is_named}
use Rattle.message_text.specs.Header.{field_line}
use Rattle.message_text.proofs.WeedingLemmas.{order_rest}
use Rattle.message_text.proofs.header.add_in_order.Goals as goal

pub loop-left-preserved : goal.loop-left-preserved
loop-left-preserved c =
    let old = plain_texts c.loop-left.lines in
    let name = c.as_slice-name.result.now in
    order_rest c.loop-left.left.now c.first-item.result name
    (map (λ f. plain_field f.now) c.loop-left.fields.items)
    (map (λ f. plain_field f.now) c.in_ok-fields.fields.items)
    old (plain_texts c.add_named.new.lines) _
    c.in-len1-up.len_at_least c.first-item.is c.as_slice-name.ensures
    (c.in_ok-add_named.ensures
    ∙ ap (λ l. old ++ map field_line (filter (is_named name) (map (λ f. plain_field f.now) l)))
    c.as_slice.ensures.value)
    (c.in_ok-fields.ensures
    ∙ ap (λ l. filter (λ f. not (is_named name f)) (map (λ f. plain_field f.now) l))
    c.as_slice-in-len1-up.ensures.value)
    c.loop-left.invariant
