use Rattle.std.proofs.Common.{◌∙◌, ap, ℕ, List}
use Rattle.std.specs.List.{insert}
use Rattle.mail_base.specs.Series.{Held}
use Rattle.disk_model.specs.Names.{place_of}
use Rattle.disk_state.specs.Plain.{plain_names}
use Rattle.disk_state.proofs.Inserting.{map-insert}
use Rattle.disk_state.proofs.listing.put_name.Goals as goal

pub returns : goal.returns
returns c =
    ap plain_names c.in_ok-insert.ensures.items
    ∙ map-insert (λ (name : Held ℕ). name.items) c.args.found.now.items c.place_of-place.result
    c.in_ok-copy_of.field-0
    ∙ ap (λ (place : ℕ). insert (plain_names c.args.found.now.items) place
    c.in_ok-copy_of.field-0.items)
    (c.place_of-place.ensures.place
    ∙ ap (λ (l : List (Held ℕ)). place_of c.args.name.now (plain_names l)) c.as_slice.ensures.value)
    ∙ ap (λ (name : List ℕ). insert (plain_names c.args.found.now.items)
    (place_of c.args.name.now (plain_names c.args.found.now.items)) name)
    c.in_ok-copy_of.ensures
