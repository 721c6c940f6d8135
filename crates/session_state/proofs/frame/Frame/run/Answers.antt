use Rattle.std.proofs.Common.{◌≡◌, ◌∙◌, ◌+◌, ◌<◌, ◌∷◌, Err, List, Ok, ap, drop, map, subst}
use Rattle.std.proofs.Common.{get_or, sym, ℕ}
use Rattle.std.proofs.lemmas.List.{at_drop_more}
use Rattle.patterns.proofs.CauseLemmas.{keeps_on}
use Rattle.rc_lang_words.specs.Faults.{plain_error}
use Rattle.rc_lang_words.specs.Words.{PlainLine, plain_line}
use Rattle.rc_lang_words.specs.declared.rc_line.RcLine.{RcLine}
use Rattle.session_state.specs.Commands.{Quiet, ToRead, ToShow, plain_obeyed}
use Rattle.session_state.specs.Frames.{commands_left, file_run, place_of}
use Rattle.session_state.specs.declared.commands.Obeyed.TheVariants.{Answered}
use Rattle.session_state.specs.Told.{PlainTold, plain_told}
use Rattle.session_state.proofs.FramesLemmas.{file_step}
use Rattle.session_state.proofs.frame.Frame.run.Goals as goal

pub returns-in-Source-clause-half : goal.returns-in-Source-clause-half
returns-in-Source-clause-half g c = λ later keeps.
    let lines : List PlainLine = map plain_line
    (drop (c.loop-self.self.next + 1) c.loop-self.self.commands.items) in
    let left : commands_left c.loop-self.self
    ≡ plain_line c.index-as_slice-self.result ∷ lines = at_drop_more (map plain_line)
    c.loop-self.self.commands.items c.loop-self.self.next c.index-as_slice-self.result
    (subst (λ (n : ℕ). c.loop-self.self.next < n) c.len.ensures c.loop-self-test.true)
    ∙ ap (λ (x : RcLine). map plain_line
    (x ∷ drop (c.loop-self.self.next + 1) c.loop-self.self.commands.items))
    (sym (c.index-as_slice-self.is ∙ ap (λ (xs : List RcLine). get_or xs c.loop-self.self.next
    c.index-as_slice-self.result) c.as_slice.ensures)) in
    file_step c.args.time later (place_of c.loop-self.self)
    (plain_line c.index-as_slice-self.result) lines c.loop-self.rules
    c.run_line.new.rules (plain_obeyed c.in_ok-obeyed.obeyed)
    _ c.command_place-place.ensures
    (c.in_ok-obeyed.ensures.ran later keeps)
    (plain_told c.loop-self.told) (Ok (ToRead c.in-Source.path.items))
    (sym (ap plain_obeyed (c.in-Answered.is ∙ ap Answered c.in-Source.is))
    ∙ c.in_ok-answer.ensures.value)
    ∙ ap (λ (ls : List PlainLine). file_run c.args.time later (place_of c.loop-self.self) ls
    c.loop-self.rules
    (plain_told c.loop-self.told)) (sym left)
    ∙ c.loop-self.invariant.went later (keeps_on _ _ _ c.run_line.ensures.keeps keeps)

pub loop-self-preserved-in-Quiet : goal.loop-self-preserved-in-Quiet
loop-self-preserved-in-Quiet g c = record {
  keeps = keeps_on _ _ _ c.loop-self.invariant.keeps c.run_line.ensures.keeps;
  went = λ later keeps.
      let lines : List PlainLine = map plain_line
      (drop (c.loop-self.self.next + 1) c.loop-self.self.commands.items) in
      let left : commands_left c.loop-self.self
      ≡ plain_line c.index-as_slice-self.result ∷ lines = at_drop_more (map plain_line)
      c.loop-self.self.commands.items c.loop-self.self.next c.index-as_slice-self.result
      (subst (λ (n : ℕ). c.loop-self.self.next < n) c.len.ensures c.loop-self-test.true)
      ∙ ap (λ (x : RcLine). map plain_line
      (x ∷ drop (c.loop-self.self.next + 1) c.loop-self.self.commands.items))
      (sym (c.index-as_slice-self.is ∙ ap (λ (xs : List RcLine). get_or xs c.loop-self.self.next
      c.index-as_slice-self.result) c.as_slice.ensures)) in
      file_step c.args.time later (place_of c.loop-self.self)
      (plain_line c.index-as_slice-self.result) lines c.loop-self.rules
      c.run_line.new.rules (plain_obeyed c.in_ok-obeyed.obeyed)
      _ c.command_place-place.ensures
      (c.in_ok-obeyed.ensures.ran later keeps)
      (plain_told c.loop-self.told) (Ok Quiet)
      (sym (ap plain_obeyed (c.in-Answered.is ∙ ap Answered c.in-Quiet.is))
      ∙ c.in_ok-answer.ensures.value)
      ∙ ap (λ (ls : List PlainLine). file_run c.args.time later (place_of c.loop-self.self) ls
      c.loop-self.rules (plain_told c.loop-self.told)) (sym left)
      ∙ c.loop-self.invariant.went later (keeps_on _ _ _ c.run_line.ensures.keeps keeps);
  file = c.loop-self.invariant.file;
  origin = c.loop-self.invariant.origin;
  depth = c.loop-self.invariant.depth;
  read = c.loop-self.invariant.read;
  commands = c.loop-self.invariant.commands;
}

pub loop-self-preserved-in-Show : goal.loop-self-preserved-in-Show
loop-self-preserved-in-Show g c = record {
  keeps = keeps_on _ _ _ c.loop-self.invariant.keeps c.run_line.ensures.keeps;
  went = λ later keeps.
      let lines : List PlainLine = map plain_line
      (drop (c.loop-self.self.next + 1) c.loop-self.self.commands.items) in
      let left : commands_left c.loop-self.self
      ≡ plain_line c.index-as_slice-self.result ∷ lines = at_drop_more (map plain_line)
      c.loop-self.self.commands.items c.loop-self.self.next c.index-as_slice-self.result
      (subst (λ (n : ℕ). c.loop-self.self.next < n) c.len.ensures c.loop-self-test.true)
      ∙ ap (λ (x : RcLine). map plain_line
      (x ∷ drop (c.loop-self.self.next + 1) c.loop-self.self.commands.items))
      (sym (c.index-as_slice-self.is ∙ ap (λ (xs : List RcLine). get_or xs c.loop-self.self.next
      c.index-as_slice-self.result) c.as_slice.ensures)) in
      ap (λ (told : PlainTold). file_run c.args.time later (place_of c.loop-self.self) lines
      c.run_line.new.rules told) c.answer.ensures
      ∙ file_step c.args.time later (place_of c.loop-self.self)
      (plain_line c.index-as_slice-self.result) lines
      c.loop-self.rules
      c.run_line.new.rules (plain_obeyed c.in_ok-obeyed.obeyed)
      _ c.command_place-place.ensures
      (c.in_ok-obeyed.ensures.ran later keeps)
      (plain_told c.loop-self.told) (Ok (ToShow c.in-Show.line.items))
      (sym (ap plain_obeyed (c.in-Answered.is ∙ ap Answered c.in-Show.is))
      ∙ c.in_ok-answer.ensures.value)
      ∙ ap (λ (ls : List PlainLine). file_run c.args.time later (place_of c.loop-self.self) ls
      c.loop-self.rules (plain_told c.loop-self.told)) (sym left)
      ∙ c.loop-self.invariant.went later (keeps_on _ _ _ c.run_line.ensures.keeps keeps);
  file = c.loop-self.invariant.file;
  origin = c.loop-self.invariant.origin;
  depth = c.loop-self.invariant.depth;
  read = c.loop-self.invariant.read;
  commands = c.loop-self.invariant.commands;
}

pub loop-self-preserved : goal.loop-self-preserved
loop-self-preserved g c = record {
  keeps = keeps_on _ _ _ c.loop-self.invariant.keeps c.run_line.ensures.keeps;
  went = λ later keeps.
      let lines : List PlainLine = map plain_line
      (drop (c.loop-self.self.next + 1) c.loop-self.self.commands.items) in
      let left : commands_left c.loop-self.self
      ≡ plain_line c.index-as_slice-self.result ∷ lines = at_drop_more (map plain_line)
      c.loop-self.self.commands.items c.loop-self.self.next c.index-as_slice-self.result
      (subst (λ (n : ℕ). c.loop-self.self.next < n) c.len.ensures c.loop-self-test.true)
      ∙ ap (λ (x : RcLine). map plain_line
      (x ∷ drop (c.loop-self.self.next + 1) c.loop-self.self.commands.items))
      (sym (c.index-as_slice-self.is ∙ ap (λ (xs : List RcLine). get_or xs c.loop-self.self.next
      c.index-as_slice-self.result) c.as_slice.ensures)) in
      ap (λ (told : PlainTold). file_run c.args.time later (place_of c.loop-self.self) lines
      c.run_line.new.rules told) c.in_ok-fault-in-Refused.ensures
      ∙ file_step c.args.time later (place_of c.loop-self.self)
      (plain_line c.index-as_slice-self.result) lines
      c.loop-self.rules
      c.run_line.new.rules (plain_obeyed c.in_ok-obeyed.obeyed)
      _ c.command_place-place.ensures
      (c.in_ok-obeyed.ensures.ran later keeps)
      (plain_told c.loop-self.told) (Err (plain_error c.in-Refused.error))
      (sym (ap plain_obeyed c.in-Refused.is)
      ∙ c.in_ok-answer.ensures.value)
      ∙ ap (λ (ls : List PlainLine). file_run c.args.time later (place_of c.loop-self.self) ls
      c.loop-self.rules (plain_told c.loop-self.told)) (sym left)
      ∙ c.loop-self.invariant.went later (keeps_on _ _ _ c.run_line.ensures.keeps keeps);
  file = c.loop-self.invariant.file;
  origin = c.loop-self.invariant.origin;
  depth = c.loop-self.invariant.depth;
  read = c.loop-self.invariant.read;
  commands = c.loop-self.invariant.commands;
}
