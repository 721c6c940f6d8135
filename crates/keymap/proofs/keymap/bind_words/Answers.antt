use Rattle.std.proofs.Common.{rules, ◌≡◌, ◌∙◌, ◌∷◌, sym, ap, drop, fold, length}
use Rattle.keymap.specs.Bindings.{Run, bound}
use Rattle.keymap.specs.Keymap.{bound_word, one_word}
use Rattle.keymap.specs.Pieces.{pieces}
use Rattle.keymap.proofs.PiecesLemmas.{pieces_step}
use Rattle.keymap.proofs.keymap.bind_words.Goals as goal

pub loop-left-preserved : goal.loop-left-preserved
loop-left-preserved c =
    let function = c.args.function in
    let left = c.loop-left.left.now in
    let before = c.loop-left.bindings in
    let word = c.first_word-word.result.now in
    let rest = c.behind_piece-left.result.now in
    let step = pieces_step one_word left (search rules) in
    let first : word ∷ pieces one_word rest ≡ pieces one_word left =
    ap (λ l. word ∷ pieces one_word l) c.behind_piece-left.ensures.value
    ∙ ap (λ w. w ∷ pieces one_word (drop (length w) (drop 1 left))) c.first_word-word.ensures.value
    ∙ sym step in
    ap (λ b. fold (bound_word function) b (pieces one_word rest))
    (c.in_ok-bind.ensures.ok ∙ ap (λ keys. bound before keys (Run function))
    (c.as_slice.ensures ∙ c.in_ok-keys.ensures))
    ∙ ap (fold (bound_word function) before) first ∙ c.loop-left.invariant
