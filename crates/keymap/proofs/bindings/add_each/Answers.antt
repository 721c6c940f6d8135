use Rattle.std.proofs.Common.{◌∙◌, ◌||◌, ◌++◌, sym, ap, append_assoc}
use Rattle.keymap.specs.Bindings.{is_among, is_front_below}
use Rattle.keymap.specs.Keys.{same_keys}
use Rattle.keymap.proofs.BindingsLemmas.{front_more, or_assoc, put_among, put_grown}
use Rattle.keymap.proofs.bindings.add_each.Goals as goal

pub loop-size-preserved : goal.loop-size-preserved
loop-size-preserved c =
    let before = c.loop-size.fronts.keys in
    let first = c.args.fronts.now.keys in
    let added = c.in_ok-from_slice.field-0 in
    let n = c.loop-size.size in
    let keys = c.args.keys.now in
    let more = c.loop-size.invariant.grown in
    let one = put_grown before added in
    record {
      among = λ s.
          ap (λ l. is_among l s) c.in_ok-insert.ensures.keys ∙ put_among before added s
          ∙ ap (λ b. b || same_keys s added.items) (c.loop-size.invariant.among s)
          ∙ or_assoc (is_among first s) (is_front_below n s keys) (same_keys s added.items)
          ∙ ap (λ l. is_among first s || (is_front_below n s keys || same_keys s l))
          (c.in_ok-from_slice.ensures.items ∙ c.split_at.ensures.front)
          ∙ ap (λ b. is_among first s || b) (sym (front_more n s keys c.loop-size-test.true));
      grown = (
        more.0 ++ one.0,
        c.in_ok-insert.ensures.keys ∙ one.1 ∙ ap (λ l. l ++ one.0) more.1
            ∙ append_assoc first more.0 one.0,
      );
    }
