use Rattle.std.proofs.Common.{◌≡◌, ◌∙◌, ap, length, slice_set, subst, sym}
use Rattle.std.proofs.lemmas.List.{length-set}
use Rattle.patterns_match.specs.declared.row.Row.{Row}
use Rattle.index_listed.specs.Threading.{AllWithin}
use Rattle.index_view.proofs.RemarkLemmas.{set_numbers}
use Rattle.index_view.proofs.answers.Answers.remark.Goals as goal

pub invariant_of-self : goal.invariant_of-self
invariant_of-self c =
    let was = c.self.invariant in
    let rows = c.self.inside.rows.items in
    let place = c.args.place in
    let before = c.index_mut-row.result.now in
    let row : Row = record before {
      flags = c.shown-row.result;
      deleted = c.args.item.pending.deleted;
      tagged = c.args.item.tagged;
    } in
    let long : length rows ≡ length (slice_set rows place row) = sym (length-set rows place row) in
    record {
      places_are = was.places_are ∙ sym (set_numbers rows place row before
          (ap (λ (r : Row). r.id) c.index_mut-row.ensures.value));
      parents_long = was.parents_long ∙ long;
      links_long = was.links_long ∙ long;
      ties_long = was.ties_long ∙ long;
      within = subst (λ n. AllWithin n c.self.inside.links.items) long was.within;
      stances_long = was.stances_long;
      apart = was.apart;
      first = was.first;
    }
