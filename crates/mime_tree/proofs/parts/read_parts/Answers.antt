use Rattle.std.proofs.Common.{false, [], ◌∷◌, ◌++◌, map, sym, ap, ◌∙◌}
use Rattle.headers.specs.Field.{plain_field}
use Rattle.mime_tree.specs.Entity.{holds_parts, named_type}
use Rattle.mime_tree.specs.Part.{plain_part}
use Rattle.mime_tree.specs.Parts.{whole}
use Rattle.mime_tree.proofs.OrderLemmas.{in_order_parts, within_parts}
use Rattle.mime_tree.proofs.PartsLemmas.{joined_whole, leaf_read}
use Rattle.mime_tree.proofs.parts.read_parts.Goals as goal

pub returns-then-holds_parts-clause-order : goal.returns-then-holds_parts-clause-order
returns-then-holds_parts-clause-order c =
    in_order_parts 33 0 (whole c.args.raw.now) _
    (joined_whole _ _ _ (ap (map plain_part) c.new-parts.ensures) c.in_ok-add_message.ensures.ok)

pub returns-then-holds_parts-clause-within : goal.returns-then-holds_parts-clause-within
returns-then-holds_parts-clause-within c =
    within_parts 33 c.args.raw.now c.add_message.new.parts.items
    (joined_whole _ _ _ (ap (map plain_part) c.new-parts.ensures) c.in_ok-add_message.ensures.ok)

pub returns-clause-parts : goal.returns-clause-parts
returns-clause-parts c =
    leaf_read c.args.raw.now c.in_ok-content.content.items (plain_part c.in_ok-part_of.field-0)
    (map plain_part c.push.new.self.items)
    (c.in_ok-content.ensures
    ∙ ap (named_type false) (ap (map plain_field) c.as_slice.ensures ∙ c.in_ok-fields.ensures))
    (sym (c.holds_parts.ensures ∙ ap holds_parts c.as_slice-2.ensures) ∙ c.if-holds_parts.false)
    c.in_ok-part_of.ensures
    (ap (map plain_part)
    (c.in_ok-push.ensures.ok ∙ ap (λ l. l ++ c.in_ok-part_of.field-0 ∷ []) c.new-parts.ensures))

pub returns-clause-within : goal.returns-clause-within
returns-clause-within c =
    within_parts 33 c.args.raw.now c.push.new.self.items (returns-clause-parts c)
