use Rattle.std.proofs.Common.{◌≡◌, ◌∙◌, length, sym, ap}
use Rattle.mail_base.specs.Lines.{without_feed}
use Rattle.folder_core.specs.Mbox.{with_feed}
use Rattle.mbox_text.proofs.FedLines.{fed_more, fed_same}
use Rattle.mbox_text.proofs.status_fields.kept_text.Goals as goal
use Rattle.mbox_text.proofs.status_fields.kept_text.Goals.{then-without_feed-len+in_ok-push}
use Rattle.mbox_text.proofs.status_fields.kept_text.Goals.{else-without_feed-len}

pub returns : goal.returns
returns c =
    let text = c.in_ok-text.text.items in
    let front : c.without_feed.result.now ≡ without_feed text =
    c.without_feed.ensures ∙ ap without_feed c.as_slice.ensures in
    elim c.if-without_feed-len.branch [
      | then-without_feed-len+in_ok-push w ↦ ap (λ k. k.items) w.text-is
          ∙ w.in_ok-push.ensures.ok
          ∙ sym (fed_more text (sym (ap length front)
          ∙ w.if-without_feed-len.true ∙ c.len.ensures))
          ∙ ap with_feed c.in_ok-text.ensures
      | else-without_feed-len w ↦ ap (λ k. k.items) w.text-is
          ∙ sym (fed_same text (λ same. w.if-without_feed-len.false (ap length front ∙ same
          ∙ sym c.len.ensures)))
          ∙ ap with_feed c.in_ok-text.ensures
    ]
