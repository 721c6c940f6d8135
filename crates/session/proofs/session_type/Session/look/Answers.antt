use Rattle.std.proofs.Common.{◌≡◌, ◌∙◌, ℕ, Bor, List, Some, ap, option_map, sym}
use Rattle.std.proofs.Math.Facts.{to_z-of_z}
use Rattle.mail_base.specs.Series.{Held}
use Rattle.session_events.specs.Wishes.{Open}
use Rattle.session_screen.specs.Places.{folder_path, new_kind}
use Rattle.session.proofs.session_type.Session.look.Goals as goal
use Rattle.session.proofs.session_type.Session.look.Goals.{in-Some, in-None}

pub returns-clause-ok : goal.returns-clause-ok
returns-clause-ok g c at empty owner =
    let named_is : option_map (λ (b : Bor (List ℕ)). b.now) c.match-self.named
    ≡ option_map (λ (p : Held ℕ). p.items) c.args.self.now.named =
    elim c.match-self.branch [
      | in-Some w ↦ ap (option_map (λ (b : Bor (List ℕ)). b.now)) w.named-is
          ∙ ap Some w.as_slice.ensures
          ∙ sym (ap (option_map (λ (p : Held ℕ). p.items)) w.in-Some.is)
      | in-None w ↦ ap (option_map (λ (b : Bor (List ℕ)). b.now)) w.named-is
          ∙ sym (ap (option_map (λ (p : Held ℕ). p.items)) w.in-None.is)
    ] in record {
      tells = c.open_event.ensures.tells at (empty
          ∙ sym (c.new_kind-empty.ensures ∙ ap new_kind c.settings-settings.ensures))
          (owner ∙ sym c.as_slice-owner.ensures);
      answers = c.open_event.ensures.answers
          ∙ ap Open (c.in_ok-name.ensures ∙ c.as_slice-2.ensures.bytes ∙ c.in_ok-path.ensures
          ∙ (λ i. folder_path (c.settings-settings.ensures i) (named_is i)));
      listed = c.open_event.ensures.listed;
      opening = rw (to_z-of_z c.ranges.moment) at c.open_event.ensures.opening;
      answer_is = c.open_event.ensures.answer;
    }
