use Rattle.std.proofs.Common.{◌≡◌, ◌∙◌, ◌*◌, ◌/◌, ap, drop, subst}
use Rattle.mail_base.specs.Series.{plain_texts}
use Rattle.session_pager.specs.Kept.{KeptParts}
use Rattle.session_pager.specs.Lines.{rows_page}
use Rattle.session_pager.proofs.LinesLemmas.{page_made}
use Rattle.session_pager.proofs.parts.Parts.lines.Goals as goal

pub returns : goal.returns
returns c =
    let size = c.args.size in
    let parts = c.self.inside in
    subst (λ (p : KeptParts). plain_texts c.put_rows.new.lines
    ≡ rows_page size c.args.cols p.cursor p.rows) c.self.view_is
    (page_made size c.args.cols parts.cursor parts.rows.items c.behind-rows.result.now
    c.new-lines.result c.put_rows.new.lines
    (c.behind-rows.ensures ∙ ap (drop (parts.cursor / size * size)) c.as_slice.ensures)
    c.new-lines.ensures c.in_ok-put_rows.ensures)
