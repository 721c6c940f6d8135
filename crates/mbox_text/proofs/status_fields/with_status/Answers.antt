use Rattle.std.proofs.Common.{◌∙◌, ◌++◌, ap, append_assoc, drop, take}
use Rattle.std.specs.List.{concat}
use Rattle.folder_core.specs.Mbox.{core, status}
use Rattle.mbox_text.specs.WithStatus.{status_lines}
use Rattle.mbox_text.proofs.WithStatusLemmas.{bytes_with, core_with, status_with}
use Rattle.mbox_text.proofs.status_fields.with_status.Goals as goal

pub returns-clause-text : goal.returns-clause-text
returns-clause-text c =
    let kept = c.as_slice-kept.result.now in
    let end = c.block_end.result in
    let more = concat (status_lines c.args.flags) in
    c.in_ok-append-2.ensures.ok
    ∙ ap (λ l. l ++ c.split_at.result.1.now) (c.in_ok-append_status.ensures
    ∙ ap (λ l. l ++ more) (c.in_ok-append.ensures.ok
    ∙ ap (λ l. l ++ c.split_at.result.0.now) c.new-text.ensures))
    ∙ ap (λ l. (l ++ more) ++ c.split_at.result.1.now) c.split_at.ensures.front
    ∙ ap (λ l. (take end kept ++ more) ++ l) c.split_at.ensures.back
    ∙ append_assoc (take end kept) more (drop end kept)
    ∙ bytes_with c.args.flags c.args.region.now kept end
    (c.as_slice-kept.ensures ∙ c.in_ok-kept.ensures) c.block_end.ensures.end

pub returns-clause-core : goal.returns-clause-core
returns-clause-core c =
    ap core (returns-clause-text c) ∙ core_with c.args.flags c.args.region.now

pub returns-clause-status : goal.returns-clause-status
returns-clause-status c =
    ap status (returns-clause-text c) ∙ status_with c.args.flags c.args.region.now
