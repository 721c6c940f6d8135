use Rattle.std.proofs.Common.{ap, inl, refl}
use Rattle.std.specs.Str.{bytes_eq}
use Rattle.folder_tails.specs.Sides.{home_of}
use Rattle.folder_tails.proofs.Causes.{read_around}
use Rattle.folder_tails.proofs.Leads as L
use Rattle.folder_tails.proofs.Locking.{had_line, had_no_line}
use Rattle.std.proofs.Common.{◌∙◌, sym}
use Rattle.folder_stops.proofs.Words.{equal}
use Rattle.folder_tails.proofs.reading.has_line.Goals as goal

pub returns-in-Ok-clause-stays : goal.returns-in-Ok-clause-stays
returns-in-Ok-clause-stays g c ours held =
    L.looked (home_of c.args.sides.now) ours c.read_lock.ensures.step.called refl tt
    (L.entered (home_of c.args.sides.now) ours held)

pub returns-in-Err-clause-stays : goal.returns-in-Err-clause-stays
returns-in-Err-clause-stays g c ours held =
    L.looked (home_of c.args.sides.now) ours c.read_lock.ensures.step.called refl tt
    (L.entered (home_of c.args.sides.now) ours held)

pub returns-in-Err-2-clause-stays : goal.returns-in-Err-2-clause-stays
returns-in-Err-2-clause-stays g c ours held =
    L.looked (home_of c.args.sides.now) ours c.read_lock.ensures.step.called refl tt
    (L.entered (home_of c.args.sides.now) ours held)

pub returns-in-Ok-clause-own : goal.returns-in-Ok-clause-own
returns-in-Ok-clause-own g c is ours held own =
    L.line_read (home_of c.args.sides.now) ours held c.args.line.now c.in-Ok.read.bytes.items _
    c.in-Ok.read.stat own
    (sym c.as_slice.ensures ∙ equal c.as_slice.result.now c.args.line.now (sym c.eq.ensures ∙ is))
    c.in-Ok.ensures.step.called

pub returns-in-Ok-clause-looked : goal.returns-in-Ok-clause-looked
returns-in-Ok-clause-looked g c = (_, _, c.in-Ok.ensures.step.called)

pub returns-in-Err-clause-looked : goal.returns-in-Err-clause-looked
returns-in-Err-clause-looked g c = (_, _, c.in-Err.ensures.step.called)

pub returns-in-Err-2-clause-looked : goal.returns-in-Err-2-clause-looked
returns-in-Err-2-clause-looked g c = (_, _, c.in-Err-2.ensures.step.called)

pub returns-in-Ok-clause-read : goal.returns-in-Ok-clause-read
returns-in-Ok-clause-read g c is =
    L.reads_line (home_of c.args.sides.now) c.args.line.now c.in-Ok.read.bytes.items _
    c.in-Ok.read.stat
    (sym c.as_slice.ensures ∙ equal c.as_slice.result.now c.args.line.now (sym c.eq.ensures ∙ is))
    c.in-Ok.ensures.step.called

pub returns-in-Ok-clause-tells : goal.returns-in-Ok-clause-tells
returns-in-Ok-clause-tells g c = record {
  saw = had_line (home_of c.args.sides.now) c.args.line.now c.in-Ok.read _
      (c.eq.ensures ∙ ap (λ l. bytes_eq l c.args.line.now) c.as_slice.ensures)
      c.in-Ok.ensures.step.called;
  why = tt;
}

pub returns-in-Err-clause-tells : goal.returns-in-Err-clause-tells
returns-in-Err-clause-tells g c = record {
  saw = had_no_line (home_of c.args.sides.now) c.args.line.now _
      (sym c.is_absence.ensures ∙ c.if-is_absence.true) c.in-Err.ensures.step.called;
  why = tt;
}

pub returns-in-Err-2-clause-tells : goal.returns-in-Err-2-clause-tells
returns-in-Err-2-clause-tells g c = record {
  saw = tt;
  why = read_around (home_of c.args.sides.now) (inl refl) c.in-Err.ensures.step.called;
}
