use Rattle.std.proofs.Common.{◌≡◌, ◌∙◌, ap, drop, map, sym, ℕ}
use Rattle.std.proofs.lemmas.List.{drop-map}
use Rattle.mail_base.specs.Series.{Held, plain_texts}
use Rattle.mutt_run.proofs.told.tell_later.Goals as goal

pub returns-clause-ok : goal.returns-clause-ok
returns-clause-ok g c =
    let text : map (λ (note : Held ℕ). note.items) c.lines_from.result.now
    ≡ drop c.args.told (plain_texts c.args.notes.now) =
    ap (map (λ (note : Held ℕ). note.items))
    (c.lines_from.ensures ∙ ap (drop c.args.told) c.as_slice.ensures)
    ∙ sym (drop-map (λ (note : Held ℕ). note.items) c.args.told c.args.notes.now.items) in
    rw text at c.tell_each.ensures.ok

pub returns-clause-err : goal.returns-clause-err
returns-clause-err g c =
    let text : map (λ (note : Held ℕ). note.items) c.lines_from.result.now
    ≡ drop c.args.told (plain_texts c.args.notes.now) =
    ap (map (λ (note : Held ℕ). note.items))
    (c.lines_from.ensures ∙ ap (drop c.args.told) c.as_slice.ensures)
    ∙ sym (drop-map (λ (note : Held ℕ). note.items) c.args.told c.args.notes.now.items) in
    rw text at c.tell_each.ensures.err
