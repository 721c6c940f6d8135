use Rattle.std.proofs.Common.{rules, map, ap, ◌∙◌, ◌++◌}
use Rattle.std.proofs.lemmas.Fn.{dedup_same}
use Rattle.std.specs.List.{filter}
use Rattle.folder_core.specs.Mh.{is_number}
use Rattle.mh_folder.specs.NumberedName.{plain_names}
use Rattle.mh_folder.proofs.NumberedNameLemmas.{same_name, sorted_names}
use Rattle.mh_folder.proofs.numbered_name.numbered_names.Goals as goal

pub returns : goal.returns
returns c =
    sorted_names (map (λ name. name.items) c.args.names.now) c.add_names.new.files.items
    c.sort.new.self.items
    c.dedup_by.new.self.items c.in_ok-add_names.ensures.each
    (c.in_ok-add_names.ensures.files
    ∙ ap (λ files. plain_names files ++ filter is_number
    (map (λ name. name.items) c.args.names.now))
    c.new-files.ensures.items)
    c.in_ok-sort.ensures.permutation c.in_ok-sort.ensures.sorted
    (dedup_same _ same_name _ (λ x y b f' x' y' k. search rules) c.sort.new.self.items
    c.dedup_by.new.self.items
    c.dedup_by.ensures.filtered)
