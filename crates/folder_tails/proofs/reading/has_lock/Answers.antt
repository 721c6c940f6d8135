use Rattle.std.proofs.Common.{inl, sym, ◌∙◌}
use Rattle.folder_tails.specs.Sides.{home_of}
use Rattle.folder_tails.proofs.Leads as L
use Rattle.folder_tails.proofs.Locking.{lock_told, lock_untold, no_name}
use Rattle.folder_tails.proofs.reading.has_lock.Goals as goal

pub returns-then-held-clause-own : goal.returns-then-held-clause-own
returns-then-held-clause-own g c is ours passes =
    L.held_right (home_of c.args.sides.now) ours c.args.held.now c.if-held.true _

pub returns-then-held-clause-stays : goal.returns-then-held-clause-stays
returns-then-held-clause-stays g c ours =
    L.nothing (home_of c.args.sides.now) ours _
    (L.entered (home_of c.args.sides.now) ours c.args.held.now)

pub returns-then-is_empty-clause-stays : goal.returns-then-is_empty-clause-stays
returns-then-is_empty-clause-stays g c ours =
    L.nothing (home_of c.args.sides.now) ours _
    (L.entered (home_of c.args.sides.now) ours c.args.held.now)

pub returns-in_err-found-clause-stays : goal.returns-in_err-found-clause-stays
returns-in_err-found-clause-stays g c ours = c.in_err-found.ensures.stays ours c.args.held.now

pub returns-clause-stays : goal.returns-clause-stays
returns-clause-stays g c ours = c.in_ok-found.ensures.stays ours c.args.held.now

pub returns-clause-own : goal.returns-clause-own
returns-clause-own g c is ours passes =
    c.in_ok-found.ensures.own is ours c.args.held.now
    (L.owns c.args.owner.now c.args.line.now ours c.requires.line
    (sym c.is_empty.ensures ∙ c.if-is_empty.false) passes)

pub returns-then-held-clause-tells : goal.returns-then-held-clause-tells
returns-then-held-clause-tells g c =
    record { ours = λ is. inl c.if-held.true; not_ours = λ is. absurd (cc); why = tt }

pub returns-then-is_empty-clause-tells : goal.returns-then-is_empty-clause-tells
returns-then-is_empty-clause-tells g c = record {
  ours = λ is. absurd (cc);
  not_ours = λ is. (
    c.if-held.false,
    inl (no_name c.args.owner.now (sym c.is_empty.ensures ∙ c.if-is_empty.true)),
  );
  why = tt;
}

pub returns-in_err-found-clause-tells : goal.returns-in_err-found-clause-tells
returns-in_err-found-clause-tells g c =
    lock_untold (home_of c.args.sides.now) c.args.owner.now c.args.held.now _ c.from_residual.result
    c.from_residual.ensures c.in_err-found.ensures.tells.why

pub returns-clause-tells : goal.returns-clause-tells
returns-clause-tells g c =
    lock_told (home_of c.args.sides.now) c.args.owner.now c.args.line.now c.args.held.now _
    c.requires.line (sym c.is_empty.ensures ∙ c.if-is_empty.false) c.if-held.false
    c.in_ok-found.ensures.tells.saw
