use Rattle.std.proofs.Common.{◌≡◌, ℕ, List, map, subst}
use Rattle.mail_base.specs.Series.{Held}
use Rattle.folder_core.proofs.CostsLemmas.{raises_then}
use Rattle.folder_core.proofs.FirstLookLemmas.{stood_first, stood_later}
use Rattle.folder_core.proofs.SeenLemmas.{only_then}
use Rattle.maildir_folder.specs.declared.candidates.Candidate.{Candidate}
use Rattle.maildir_folder.specs.Candidates.{AreInOrder}
use Rattle.maildir_folder.specs.Files.{plain_names}
use Rattle.maildir_folder.proofs.Finding.{folder_seen, names_seen, no_memory, refused_later}
use Rattle.maildir_folder.proofs.Finding.{was_found}
use Rattle.maildir_folder.proofs.files.list_files.Goals as goal

both_names : (cur curs new news : List (Held ℕ)) (files : List Candidate) → cur ≡ curs → new ≡ news
    → AreInOrder (map (λ name. name.items) cur) (map (λ name. name.items) new) files
    → AreInOrder (map (λ name. name.items) curs) (map (λ name. name.items) news) files
both_names cur curs new news files first second order =
    subst (λ (l : List (Held ℕ)). AreInOrder (map (λ name. name.items) l)
    (map (λ name. name.items) news) files) first
    (subst (λ (l : List (Held ℕ)). AreInOrder (map (λ name. name.items) cur)
    (map (λ name. name.items) l) files) second
    order)

pub returns-in-Err : goal.returns-in-Err
returns-in-Err g c =
    refused_later c.args.path.now c.in-Err.why _ _ _ c.find_folder.ensures.only
    c.in_ok-find_folder.ensures.saw
    (stood_first _ c.args.path.now _ _ c.in_ok-find_folder.ensures.first)
    c.find_folder.ensures.reads c.in-Err.ensures.found

pub returns-in-Err-cur_names : goal.returns-in-Err-cur_names
returns-in-Err-cur_names g c =
    let find = c.find_folder.ensures in
    let news = c.new_names.ensures.found in
    refused_later c.args.path.now c.in-Err-cur_names.why _ _ _
    (only_then _ _ _ find.only news.only)
    (folder_seen c.args.path.now _ _ _ find.only.looks news.only.looks
    c.in_ok-find_folder.ensures.saw)
    (stood_later c.args.path.now _ _ _ find.only.looks news.only.looks
    (stood_first _ c.args.path.now _ _ c.in_ok-find_folder.ensures.first))
    (raises_then _ _ _ 0 0 find.reads news.reads)
    c.in-Err-cur_names.ensures.found

pub returns-in-Ok-candidates : goal.returns-in-Ok-candidates
returns-in-Ok-candidates g c =
    let find = c.find_folder.ensures in
    let news = c.new_names.ensures.found in
    let curs = c.cur_names.ensures.found in
    let rest = only_then _ _ _ news.only curs.only in
    was_found c.args.path.now c.in-Ok-candidates.files _ _
    (only_then _ _ _ find.only rest)
    (stood_later c.args.path.now _ _ _ find.only.looks rest.looks
    (stood_first _ c.args.path.now _ _ c.in_ok-find_folder.ensures.first))
    (raises_then _ _ _ 0 0 find.reads (raises_then _ _ _ 0 0 news.reads curs.reads)) (record {
      cur = plain_names c.in-Ok-cur_names.names;
      new_names = plain_names c.in-Ok.names;
      order = both_names c.as_slice.result.now c.in-Ok-cur_names.names.items c.as_slice-2.result.now
          c.in-Ok.names.items c.in-Ok-candidates.files.items c.as_slice.ensures
          c.as_slice-2.ensures
          c.in-Ok-candidates.ensures;
      saw = names_seen c.args.path.now (plain_names c.in-Ok-cur_names.names)
          (plain_names c.in-Ok.names)
          _ _ _ _ find.only.looks news.only.looks curs.only.looks rest.looks
          c.in_ok-find_folder.ensures.saw c.in-Ok.ensures.found.saw
          c.in-Ok-cur_names.ensures.found.saw;
    })

pub returns : goal.returns
returns g c =
    let find = c.find_folder.ensures in
    let news = c.new_names.ensures.found in
    let curs = c.cur_names.ensures.found in
    let rest = only_then _ _ _ news.only curs.only in
    no_memory c.args.path.now _ _ (only_then _ _ _ find.only rest)
    (stood_later c.args.path.now _ _ _ find.only.looks rest.looks
    (stood_first _ c.args.path.now _ _ c.in_ok-find_folder.ensures.first))
    (raises_then _ _ _ 0 0 find.reads (raises_then _ _ _ 0 0 news.reads curs.reads))
