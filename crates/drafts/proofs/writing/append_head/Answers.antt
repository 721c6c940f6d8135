use Rattle.std.proofs.Common.{List, ℕ, ◌++◌, ◌∙◌, ap, codes}
use Rattle.mail_base.specs.Series.{Held}
use Rattle.drafts.specs.Draft.{plain_draft}
use Rattle.drafts.specs.Spelled.{field_line, references_line, reply_line}
use Rattle.drafts.specs.Texts.{texts}
use Rattle.drafts.proofs.LoopLemmas.{five_behind}
use Rattle.drafts.proofs.writing.append_head.Goals as goal

pub returns : goal.returns
returns c =
    let d = plain_draft c.args.draft.now in
    let to = field_line (codes "To: ") d.to in
    let subject = field_line (codes "Subject: ") d.subject in
    let reply = reply_line d.in_reply_to in
    let references = references_line d.references in
    let last = codes "X-Mutt-Draft: 1\n\n" in
    let out = c.args.out.now.items in
    c.in_ok-append.ensures.ok
    ∙ ap (λ (l : List ℕ). l ++ last)
    (c.in_ok-append_references.ensures
    ∙ ap (λ (l : List (Held ℕ)). c.append_reply.new.out.items ++ references_line (texts l))
    c.as_slice-3.ensures
    ∙ ap (λ (l : List ℕ). l ++ references)
    (c.in_ok-append_reply.ensures
    ∙ ap (λ (l : List ℕ). l ++ reply)
    (c.in_ok-append_field-2.ensures
    ∙ ap (λ (l : List ℕ). c.append_field.new.out.items ++ field_line (codes "Subject: ") l)
    c.as_slice-2.ensures.bytes
    ∙ ap (λ (l : List ℕ). l ++ subject)
    (c.in_ok-append_field.ensures
    ∙ ap (λ (l : List ℕ). out ++ field_line (codes "To: ") l) c.as_slice.ensures.bytes))))
    ∙ five_behind out to subject reply references last
