use Rattle.std.proofs.Common.{ap, map, ◌∙◌, ◌++◌, true, false}
use Rattle.folder_core.specs.Maildir.{comes_before, files_in}
use Rattle.mail_base.specs.Ordered.{in_order_by}
use Rattle.maildir_folder.specs.Candidates.{plain_file}
use Rattle.maildir_folder.proofs.Sorting.{sorted_files}
use Rattle.maildir_folder.proofs.candidates.candidates.Goals as goal

pub returns : goal.returns
returns c =
    let order =
    sorted_files c.add_names-2.new.files.items c.sort.new.self.items
    c.in_ok-add_names-2.ensures.each
    c.in_ok-sort.ensures.permutation c.in_ok-sort.ensures.sorted in
    record {
      each = order.0;
      rises = order.1;
      sorted = order.2 ∙ ap (in_order_by comes_before) (c.in_ok-add_names-2.ensures.files
          ∙ ap (λ files. files ++ files_in false (map (λ name. name.items) c.args.new.now))
          (c.in_ok-add_names.ensures.files
          ∙ ap (λ files. map plain_file files
          ++ files_in true (map (λ name. name.items) c.args.cur.now))
          c.new-files.ensures.items));
    }
