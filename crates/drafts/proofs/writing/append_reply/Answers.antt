use Rattle.std.proofs.Common.{List, ℕ, ◌++◌, ◌∙◌, ap, codes}
use Rattle.drafts.specs.Spelled.{field_line}
use Rattle.drafts.proofs.writing.append_reply.Goals as goal

pub returns : goal.returns
returns c =
    let out = c.args.out.now.items in
    rw c.in-Some.is
    (c.in_ok-append_field.ensures
    ∙ ap (λ (l : List ℕ). out ++ field_line (codes "In-Reply-To: ") l) c.as_slice.ensures)
