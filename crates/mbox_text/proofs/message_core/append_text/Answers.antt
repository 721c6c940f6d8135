use Rattle.std.proofs.Common.{◌≡◌, ◌∙◌, ◌++◌, List, ℕ, sym, ap, subst, append_assoc}
use Rattle.std.specs.Prelude.{OnOk}
use Rattle.std.specs.List.{concat}
use Rattle.bstr.specs.Text.{lines_of}
use Rattle.folder_core.specs.Mbox.{last_line, without_separator}
use Rattle.folder_core.proofs.Messages.{concat-lines}
use Rattle.mbox_text.proofs.MessageLemmas.{separator-push}
use Rattle.mbox_text.proofs.message_core.append_text.Goals as goal

pub returns : goal.returns
returns c =
    let last = c.in-Some.last.now in
    let end = concat (last_line last) in
    let old = c.args.core.now.items in
    let front = c.as_bytes.result.now in
    let same : c.append.new.self.items ++ end ≡ old
    ++ concat (without_separator (lines_of c.args.text.now)) =
    ap (λ (l : List ℕ). l ++ end) c.in_ok-append.ensures.ok
    ∙ append_assoc old front end
    ∙ ap (λ (l : List ℕ). old ++ (l ++ end))
    (sym (concat-lines front) ∙ ap concat c.as_bytes.ensures)
    ∙ ap (λ (l : List ℕ). old ++ l) (sym (separator-push c.next_back.new.self last)
    ∙ ap (λ (ls : List (List ℕ)). concat (without_separator ls))
    (sym c.in-Some.ensures.steps ∙ c.lines_with_terminator-lines.ensures.value)) in
    subst (λ (l : List ℕ). OnOk c.append_last.result (c.append_last.new.core.items ≡ l)) same
    c.append_last.ensures
