use Rattle.std.proofs.Common.{rules, ◌≡◌, ◌∙◌, ◌++◌, ◌∷◌, [], sym, ap, drop, append_assoc}
use Rattle.keymap.specs.KeyWords.{first_word_key, word_keys}
use Rattle.keymap.proofs.PiecesLemmas.{pieces_step}
use Rattle.keymap.proofs.key_word.read_keys.Goals as goal

pub loop-left-preserved : goal.loop-left-preserved
loop-left-preserved c =
    let functions = c.args.functions in
    let left = c.loop-left.left.now in
    let key = c.first_word_key-piece.result.key in
    let rest = c.behind_piece-left.result.now in
    let step = pieces_step (first_word_key functions) left (search rules) in
    let first : key ∷ word_keys functions rest ≡ word_keys functions left =
    ap (λ l. key ∷ word_keys functions l) c.behind_piece-left.ensures.value
    ∙ ap (λ p. p.value ∷ word_keys functions (drop p.more (drop 1 left)))
    c.first_word_key-piece.ensures
    ∙ sym step in
    ap (λ l. l ++ word_keys functions rest) c.in_ok-push.ensures.ok
    ∙ append_assoc c.loop-left.keys.items (key ∷ []) (word_keys functions rest)
    ∙ ap (λ l. c.loop-left.keys.items ++ l) first ∙ c.loop-left.invariant
