use Rattle.std.proofs.Common.{◌≡◌, ◌∙◌, List, [], Option, FitsSigned, ap, map, of_z, option_map}
use Rattle.std.proofs.Common.{rules, sym, to_z, unwrap_or, w32, ℕ}
use Rattle.std.proofs.lemmas.Int.{to_z-of_z}
use Rattle.folder_letters.specs.Letters.{plain_letter}
use Rattle.index_view.specs.Lines.{line}
use Rattle.session_screen.specs.Places.{text_in}
use Rattle.session_screen.proofs.pager_status.pager_line.Goals as goal

pub returns-in-Some : goal.returns-in-Some
returns-in-Some c =
    let mails = map plain_letter c.args.archive.now.items in
    let fits : FitsSigned w32 c.args.window.offset = search rules in
    let offset : to_z w32 (of_z w32 c.args.window.offset) ≡ c.args.window.offset =
    to_z-of_z w32 c.args.window.offset fits in
    ap (λ l. unwrap_or (option_map (λ k. k.items) l) []) (sym c.in-Some.is)
    ∙ ap (λ (l : Option (List ℕ)). unwrap_or l []) c.in_ok-line.ensures.value
    ∙ (λ k. unwrap_or (line mails c.args.view.now (record {
      format = c.in_ok-format.ensures k;
      to_chars = text_in (c.text-to_chars.ensures k);
      offset = offset k;
    }) c.args.window.cols c.args.id) [])
