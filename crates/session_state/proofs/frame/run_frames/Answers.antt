use Rattle.std.proofs.Common.{◌≡◌, ◌∙◌, ◌+◌, ◌∷◌, List, None, Option, Some, ap, sym, ℕ}
use Rattle.std.proofs.lemmas.Result.{on_ok_weaker}
use Rattle.patterns.proofs.CauseLemmas.{keeps_on}
use Rattle.rc_lang.specs.Settings.{plain_shown}
use Rattle.session_state.specs.Frames.{Half, PlainFrame, Script, commands_left, frames_run, left_of}
use Rattle.session_state.specs.Frames.{inner_origin, place_of, plain_frame, plain_frames, unread}
use Rattle.session_state.specs.declared.frame.Frame.{Frame}
use Rattle.std.specs.Prelude.{map}
use Rattle.session_state.specs.Told.{plain_told}
use Rattle.session_state.proofs.FramesLemmas.{frames_step}
use Rattle.session_state.proofs.frame.run_frames.Goals as goal

pub returns-in-Some-2-clause-ran : goal.returns-in-Some-2-clause-ran
returns-in-Some-2-clause-ran g c =
    let frame : Frame = c.in-Some.frame in
    let rest : List PlainFrame = plain_frames c.take_first.new.frames in
    let half : Half = record {
      rules = c.run.new.rules;
      told = plain_told c.run.new.told;
      left = commands_left c.run.new.self;
      source = Some c.in-Some-2.path.items;
    } in
    let read = c.in_ok-path.ensures.read ∙ c.if-not-frame.false in
    let is : plain_frame c.run.new.self ≡ record { place = place_of frame; left = Some half.left } =
    λ i. record { place = c.in_ok-path.ensures.place i; left = left_of (read i) half.left } in
    on_ok_weaker c.put_inner.result (λ put later keeps.
    ap (λ (frames : List PlainFrame). let s : Script = record {
      rules = half.rules;
      frames = frames;
      told = half.told;
    } in s) (put ∙ (λ i. unread c.in-Some-2.path.items
    (inner_origin (c.in_ok-path.ensures.place i).origin)
    ((c.in_ok-path.ensures.place i).depth + 1) ∷ is i ∷ rest))
    ∙ frames_step c.args.time later (plain_frame frame) (commands_left frame) rest
    c.loop-frame.rules
    (plain_told c.loop-frame.told) half
    (ap (λ (s : Option (List ℕ)). let h : Half = record half { source = s } in h)
    (sym (ap plain_shown c.in-Some-2.is)) ∙ c.in_ok-path.ensures.half later keeps)
    (ap (λ b. left_of b (commands_left frame)) c.if-not-frame.false)
    ∙ sym (ap (λ (frames : List Frame). frames_run c.args.time later (map plain_frame frames)
    c.loop-frame.rules (plain_told c.loop-frame.told)) c.in-Some.ensures)
    ∙ c.loop-frame.invariant.went later (keeps_on _ _ _ c.run.ensures.keeps keeps))
    c.put_inner.ensures

pub loop-frame-preserved : goal.loop-frame-preserved
loop-frame-preserved g c =
    let frame : Frame = c.in-Some.frame in
    let rest : List PlainFrame = plain_frames c.take_first.new.frames in
    let half : Half = record {
      rules = c.run.new.rules;
      told = plain_told c.run.new.told;
      left = commands_left c.run.new.self;
      source = None;
    } in record {
      keeps = keeps_on _ _ _ c.loop-frame.invariant.keeps c.run.ensures.keeps;
      went = λ later keeps.
          frames_step c.args.time later (plain_frame frame) (commands_left frame) rest
          c.loop-frame.rules
          (plain_told c.loop-frame.told) half
          (ap (λ (s : Option (List ℕ)). let h : Half = record half { source = s } in h)
          (sym (ap plain_shown c.in-None.is)) ∙ c.in_ok-path.ensures.half later keeps)
          (ap (λ b. left_of b (commands_left frame)) c.if-not-frame.false)
          ∙ sym (ap (λ (frames : List Frame). frames_run c.args.time later (map plain_frame frames)
          c.loop-frame.rules (plain_told c.loop-frame.told)) c.in-Some.ensures)
          ∙ c.loop-frame.invariant.went later (keeps_on _ _ _ c.run.ensures.keeps keeps);
    }
