use Rattle.std.proofs.Common.{◌≡◌, ℕ, ◌+◌, ◌-◌, ◌<◌, ◌≤◌, List, ◌∷◌, ◌++◌, [], length, drop, sym}
use Rattle.std.proofs.Common.{ap, subst, ◌∙◌}
use Rattle.std.proofs.Common.{arith, append_assoc}
use Rattle.std.proofs.lemmas.Iterator.{YieldsList-from_chars}
use Rattle.std.proofs.lemmas.Iterator.Consumers.{YieldsList-turn, YieldsList-end}
use Rattle.std.proofs.lemmas.List.{append-nil, length_push}
use Rattle.std.specs.Prelude.{encode_utf8, OnOk}
use Rattle.std.specs.Str.{chars}
use Rattle.expando.specs.Columns.{columns_of, shown_char}
use Rattle.expando.proofs.CutLemmas.{added, added_fit, added_cut, added_end}
use Rattle.expando.proofs.cutting.append_fitting.Goals as goal

pub returns-then-left-columns : goal.returns-then-left-columns
returns-then-left-columns c =
    let cs = chars c.args.text.now in
    let n = length c.loop-c.yielded in
    let left = c.loop-c.left in
    let t = YieldsList-turn (YieldsList-from_chars c.args.text.now c.utf8.text cc) c.loop-c.yielded
    _
    c.loop-c.yielded_by _ _ c.in-Some.c c.in-Some.is c.next.ensures.steps in
    let width = c.columns_of-columns.ensures ∙ ap columns_of c.shown_char-shown.ensures in
    let wide = subst (λ (w : ℕ). left < w) width c.if-left-columns.true in
    subst (λ (s : List ℕ). OnOk c.push_blank.result (c.push_blank.new.line.items ≡ s))
    (ap (λ (s : List ℕ). c.loop-c.line.items ++ s) (sym (added_cut left n c.in-Some.c cs t wide))
    ∙ c.loop-c.invariant)
    c.push_blank.ensures

pub loop-c-preserved : goal.loop-c-preserved
loop-c-preserved c =
    let cs = chars c.args.text.now in
    let n = length c.loop-c.yielded in
    let left = c.loop-c.left in
    let line = c.loop-c.line.items in
    let char = encode_utf8 (shown_char c.in-Some.c) in
    let t = YieldsList-turn (YieldsList-from_chars c.args.text.now c.utf8.text cc) c.loop-c.yielded
    _
    c.loop-c.yielded_by _ _ c.in-Some.c c.in-Some.is c.next.ensures.steps in
    let width = c.columns_of-columns.ensures ∙ ap columns_of c.shown_char-shown.ensures in
    let fits = subst (λ (w : ℕ). w ≤ left) width c.if-left-columns.false in
    let then = added (left - c.columns_of-columns.result)
    (drop (length (c.loop-c.yielded ++ c.in-Some.c ∷ [])) cs) in
    ap (λ (s : List ℕ). s ++ then)
    (c.in_ok-push_char.ensures.ok ∙ ap (λ (x : ℕ). line ++ encode_utf8 x) c.shown_char-shown.ensures)
    ∙ append_assoc line char then
    ∙ ap (λ (k : ℕ). line ++ (char ++ added (left - c.columns_of-columns.result) (drop k cs)))
    (length_push c.loop-c.yielded c.in-Some.c)
    ∙ ap (λ (w : ℕ). line ++ (char ++ added (left - w) (drop (n + 1) cs))) width
    ∙ ap (λ (s : List ℕ). line ++ s) (sym (added_fit left n c.in-Some.c cs t fits))
    ∙ c.loop-c.invariant

pub returns : goal.returns
returns c =
    let cs = chars c.args.text.now in
    let t = YieldsList-end (YieldsList-from_chars c.args.text.now c.utf8.text cc) c.loop-c.yielded _
    c.loop-c.yielded_by _ _ c.in-None.is c.next.ensures.steps in
    sym (append-nil c.loop-c.line.items)
    ∙ ap (λ (s : List ℕ). c.loop-c.line.items ++ s)
    (sym (added_end c.loop-c.left (length c.loop-c.yielded) cs (omega (arith, t.1))))
    ∙ c.loop-c.invariant
