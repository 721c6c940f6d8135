use Rattle.std.proofs.Common.{◌≡◌, ◌∙◌, ◌-◌, ◌++◌, [], FitsSigned, List, ℕ, ap, length, map}
use Rattle.std.proofs.Common.{replicate, w32}
use Rattle.std.proofs.Math.Facts.{to_z-of_z}
use Rattle.folder_letters.specs.Letters.{plain_letter}
use Rattle.mail_base.specs.Series.{Held}
use Rattle.index_listed.specs.Page.{page as page_of}
use Rattle.index_listed.specs.Seen.{PlainSight, visible_ids}
use Rattle.index_view.specs.Lines.{PlainStyle, marked_line, page}
use Rattle.index_view.proofs.view.View.lines.Goals as goal

pub returns : goal.returns
returns c =
    let rows = c.args.rows in
    let style : PlainStyle = record {
      format = c.args.index_format.now;
      to_chars = c.args.to_chars.now;
      offset = c.args.offset;
    } in
    let offset : FitsSigned w32 c.args.offset = c.ranges.offset in
    let put = rw (to_z-of_z offset) at c.in_ok-put_rows.ensures in
    let page_is : c.page-page.result.now ≡ page rows c.args.self.now = c.page-page.ensures.page
    ∙ ap (λ (s : PlainSight). page_of rows (visible_ids s) c.self.inside.cursor)
    c.sight.ensures.value
    ∙ (λ i. page_of rows (visible_ids (c.self.view_is i).answers.sight)
    (c.self.view_is i).cursor) in
    c.in_ok-put_blanks.ensures
    ∙ ap (λ (front : List (List ℕ)). front ++ replicate (rows - length c.page-page.result.now) [])
    (put ∙ ap
    (λ (l : List (List ℕ)). l
    ++ map (marked_line (map plain_letter c.args.archive.now.items) c.args.self.now style
    c.args.cols) c.page-page.result.now)
    (ap (λ (xs : List (Held ℕ)). map (λ h. h.items) xs) c.new-lines.ensures))
    ∙ (λ i. map (marked_line (map plain_letter c.args.archive.now.items) c.args.self.now style
    c.args.cols) (page_is i) ++ replicate (rows - length (page_is i)) [])
