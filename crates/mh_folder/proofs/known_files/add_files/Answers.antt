use Rattle.std.proofs.Common.{◌≡◌, ◌<◌, ◌++◌, ◌∷◌, [], ◌∙◌, ℕ, false, List, length, map, ap}
use Rattle.std.proofs.Common.{refl, sym, append_assoc, slice_index_or}
use Rattle.std.proofs.lemmas.List.Elements.{All-rest}
use Rattle.folder_letters.specs.Letters.{Mail, plain_letter}
use Rattle.folder_letters.specs.declared.listing.Listed.{Listed}
use Rattle.folder_core.specs.Keeping.{mails_of, with_mail}
use Rattle.folder_core.proofs.SeenLemmas.{first_and_rest}
use Rattle.mh_folder.specs.KnownFile.{file_of, files_of}
use Rattle.mh_folder.specs.declared.known_file.KnownFile.{KnownFile}
use Rattle.mh_folder.proofs.known_files.add_files.Goals as goal

one_more : (mails : List Mail) (left rest : List Listed) (item : Listed) (stamps others : List ℕ)
    (stamp : ℕ) (made : KnownFile) (old mid all : List KnownFile) → left ≡ item ∷ rest
    → stamps ≡ stamp ∷ others → made ≡ file_of (with_mail mails item) stamp
    → mid ≡ old ++ made ∷ [] → old ++ files_of (mails_of mails left) stamps ≡ all
    → mid ++ files_of (mails_of mails rest) others ≡ all
one_more mails left rest item stamps others stamp made old mid all whole known is more so_far =
    ap (λ (l : List KnownFile). l ++ files_of (mails_of mails rest) others)
    (more ∙ ap (λ (f : KnownFile). old ++ f ∷ []) is)
    ∙ append_assoc old (file_of (with_mail mails item) stamp ∷ [])
    (files_of (mails_of mails rest) others)
    ∙ (λ i. old ++ files_of (mails_of mails (sym whole i)) (sym known i)) ∙ so_far

-- what stands for a listed message where there is none
abbrev no_listed : Listed
no_listed = record {
  id = record { 0 = 0 };
  flags = record {
    seen = false;
    aged = false;
    replied = false;
    flagged = false;
    passed = false;
    draft = false;
    trashed = false;
  };
}

pub loop-left-preserved : goal.loop-left-preserved
loop-left-preserved c =
    let item : Listed = slice_index_or c.loop-left.left.now 0 no_listed in
    let stamp : ℕ = slice_index_or c.loop-left.stamps_left.now 0 0 in
    let whole = first_and_rest c.loop-left.left.now no_listed item refl
    c.in-len1-up.len_at_least in
    let known = first_and_rest c.loop-left.stamps_left.now 0 stamp refl
    c.in-len1-up-stamps_left.len_at_least in
    record {
      within = All-rest (λ listed. listed.id.0 < length c.args.archive.now.items)
          item _ c.loop-left.left.now whole c.loop-left.invariant.within;
      files = one_more (map plain_letter c.args.archive.now.items) c.loop-left.left.now _
          item c.loop-left.stamps_left.now _ stamp
          c.known_file.result c.loop-left.files.items _ _ whole known c.known_file.ensures
          c.in_ok-push.ensures.items c.loop-left.invariant.files;
    }
