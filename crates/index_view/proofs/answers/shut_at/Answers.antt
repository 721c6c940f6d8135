use Rattle.std.proofs.Common.{◌∙◌, Bool, ℕ, Option, Some, None, ap, sym}
use Rattle.std.specs.Prelude.{if◌then◌else◌}
use Rattle.index_listed.specs.Seen.{PlainSight, thread_has}
use Rattle.index_rows.specs.declared.shut.Shut.{Shut}
use Rattle.index_view.proofs.answers.shut_at.Goals as goal

-- the shut thread of a message, where that hides others
abbrev thread_at : PlainSight → ℕ → Bool → Option Shut
thread_at s p hiding = if hiding
    then Some (record {
      has_new = thread_has s.entries s.new_threads p;
      has_old = thread_has s.entries s.old_threads p;
    })
    else None

pub returns-then-not-hides : goal.returns-then-not-hides
returns-then-not-hides c = ap (thread_at c.args.sight.now c.args.place)
    (sym (sym c.hides.ensures ∙ c.if-not-hides.true))

pub returns : goal.returns
returns c =
    let s = c.args.sight.now in
    let p = c.args.place in
    (λ k. Some (record { has_new = c.has_new.ensures k; has_old = c.has_old.ensures k }))
    ∙ ap (thread_at s p) (sym (sym c.hides.ensures ∙ c.if-not-hides.false))
