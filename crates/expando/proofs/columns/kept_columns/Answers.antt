use Rattle.std.proofs.Common.{ℕ, ◌+◌, ◌-◌, ◌<◌, ◌≤◌, List, ◌∷◌, ◌++◌, [], length, drop, sym, ap}
use Rattle.std.proofs.Common.{subst, ◌∙◌, arith, add-zero}
use Rattle.std.proofs.lemmas.Iterator.{YieldsList-from_chars}
use Rattle.std.proofs.lemmas.Iterator.Consumers.{YieldsList-turn, YieldsList-end}
use Rattle.std.proofs.lemmas.List.{length_push}
use Rattle.std.specs.Str.{chars}
use Rattle.expando.specs.Columns.{columns_in, columns_of, shown_char}
use Rattle.expando.proofs.ColumnsLemmas.{kept_from, kept_fit, kept_cut, kept_end, counted_more}
use Rattle.expando.proofs.columns.kept_columns.Goals as goal

pub returns-then-left-columns : goal.returns-then-left-columns
returns-then-left-columns c =
    let cs = chars c.args.text.now in
    let n = length c.loop-c.yielded in
    let left = c.loop-c.left in
    let t = YieldsList-turn (YieldsList-from_chars c.args.text.now c.utf8.text cc) c.loop-c.yielded
    _
    c.loop-c.yielded_by _ _ c.in-Some.c c.in-Some.is c.next.ensures.steps in
    let width = c.columns_of-columns.ensures ∙ ap columns_of c.shown_char.ensures in
    let wide = subst (λ (w : ℕ). left < w) width c.if-left-columns.true in
    sym (add-zero (c.args.limit - left))
    ∙ ap (λ (s : List ℕ). c.args.limit - left + columns_in s)
    (sym (kept_cut left n c.in-Some.c cs t wide))
    ∙ c.loop-c.invariant.counted

pub loop-c-preserved : goal.loop-c-preserved
loop-c-preserved c =
    let cs = chars c.args.text.now in
    let n = length c.loop-c.yielded in
    let left = c.loop-c.left in
    let limit = c.args.limit in
    let shown = shown_char c.in-Some.c in
    let t = YieldsList-turn (YieldsList-from_chars c.args.text.now c.utf8.text cc) c.loop-c.yielded
    _
    c.loop-c.yielded_by _ _ c.in-Some.c c.in-Some.is c.next.ensures.steps in
    let width = c.columns_of-columns.ensures ∙ ap columns_of c.shown_char.ensures in
    let fits = subst (λ (w : ℕ). w ≤ left) width c.if-left-columns.false in
    let within : left ≤ limit = c.loop-c.invariant.within in
    record {
      counted = ap (λ (w : ℕ). limit - (left - w) + columns_in (kept_from (left - w)
          (drop (length (c.loop-c.yielded ++ c.in-Some.c ∷ [])) cs))) width
          ∙ ap (λ (k : ℕ). limit - (left - columns_of shown) + columns_in
          (kept_from (left - columns_of shown) (drop k cs)))
          (length_push c.loop-c.yielded c.in-Some.c)
          ∙ counted_more limit left (columns_of shown) _ within fits
          ∙ ap (λ (s : List ℕ). limit - left + columns_in s)
          (sym (kept_fit left n c.in-Some.c cs t fits))
          ∙ c.loop-c.invariant.counted;
      within = omega arith;
    }

pub returns : goal.returns
returns c =
    let cs = chars c.args.text.now in
    let t = YieldsList-end (YieldsList-from_chars c.args.text.now c.utf8.text cc) c.loop-c.yielded _
    c.loop-c.yielded_by _ _ c.in-None.is c.next.ensures.steps in
    sym (add-zero (c.args.limit - c.loop-c.left))
    ∙ ap (λ (s : List ℕ). c.args.limit - c.loop-c.left + columns_in s)
    (sym (kept_end c.loop-c.left (length c.loop-c.yielded) cs (omega (arith, t.1))))
    ∙ c.loop-c.invariant.counted
