use Rattle.std.proofs.Common.{◌++◌, length, refl, sym, ap, ◌∙◌, append-nil}
use Rattle.std.specs.List.{concat}
use Rattle.mbox_text.specs.Rewriting as spec
use Rattle.mbox_text.proofs.ChangingLemmas.{first_fits, goes_on, none_left, rest_of}
use Rattle.mbox_text.proofs.rewriting.append_changed.Goals as goal

pub loop-left-init : goal.loop-left-init
loop-left-init c = record {
  behind = c.requires.cover;
  added = λ changes tells. refl;
}

pub slice_bounds-append_one-count : goal.slice_bounds-append_one-count
slice_bounds-append_one-count c = (first_fits (length c.args.bytes.now) c.loop-left.left.now
    c.in-len1-up.len_at_least c.loop-left.invariant.behind).from_end

pub slice_bounds-append_one-end : goal.slice_bounds-append_one-end
slice_bounds-append_one-end c = (first_fits (length c.args.bytes.now) c.loop-left.left.now
    c.in-len1-up.len_at_least c.loop-left.invariant.behind).within

pub loop-left-preserved : goal.loop-left-preserved
loop-left-preserved c = record {
  behind = (first_fits (length c.args.bytes.now) c.loop-left.left.now
      c.in-len1-up.len_at_least c.loop-left.invariant.behind).next;
  added = λ changes tells.
      ap (λ l. c.append_one.new.text.items ++ concat (spec.changed_raws (spec.wanted_of changes l)
      (spec.raws_in c.args.bytes.now (rest_of c.loop-left.left.now)))) c.behind-listed.ensures
      ∙ goes_on changes c.loop-left.listed.now c.args.bytes.now c.loop-left.text.items
      c.append_one.new.text.items _ c.loop-left.left.now c.first_change.result
      c.in-len1-up.len_at_least (c.first_change.ensures changes tells)
      c.in_ok-append_one.ensures (c.loop-left.invariant.added changes tells);
}

pub returns : goal.returns
returns c changes tells =
    sym (append-nil c.loop-left.text.items)
    ∙ ap (λ l. c.loop-left.text.items ++ concat l)
    (sym (none_left (spec.wanted_of changes c.loop-left.listed.now) c.args.bytes.now
    c.loop-left.left.now c.in_default.len_below))
    ∙ c.loop-left.invariant.added changes tells
