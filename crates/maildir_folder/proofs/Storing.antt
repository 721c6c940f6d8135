-- What a look at a file gives.
use Rattle.std.proofs.Common.{◌≡◌, ◌-◌, ◌+◌, ℕ, Bool, true, false, not, List, [], Option, Some}
use Rattle.std.proofs.Common.{None, length, map, is_some, refl, sym, ◌∙◌, ap, subst, arith}
use Rattle.std.specs.Prelude.{option_and_then, option_map}
use Rattle.disk_model.specs.Journal.{Past, ReadAll, StatPath}
use Rattle.disk_model.specs.Judge.{GoesOn, stat_node}
use Rattle.disk_model.specs.Seen.{Seen}
use Rattle.disk_model.specs.Tree.{TreeNode, node_at}
use Rattle.disk_model.specs.declared.answers.FileRead.{FileRead}
use Rattle.disk_model.specs.declared.answers.Stat.{Stat}
use Rattle.folder_core.specs.Costs.{RaisesAtMost}
use Rattle.folder_core.specs.Directory.{node_file}
use Rattle.folder_core.specs.Keeping.{IsThere, mail_of}
use Rattle.folder_core.specs.Limits.{most_bytes, told_sum}
use Rattle.folder_core.specs.ListedSoFar.{Store, store_known, store_message, store_of}
use Rattle.folder_core.specs.Looked.{FileSeen, IsContent, FitsLimit, NoFileSeen, SawAt}
use Rattle.folder_core.specs.Looked.{content_length, stat_there}
use Rattle.folder_core.specs.Maildir.{MaildirFile, maildir_format, maildir_letter}
use Rattle.folder_core.specs.Maildir.{message_of, path_of}
use Rattle.folder_core.specs.declared.listed_so_far.ListedSoFar.{ListedSoFar}
use Rattle.folder_core.specs.declared.looks.Content.{Content}
use Rattle.folder_core.specs.declared.looks.Content.TheVariants.{NoFile, TooLong, Whole}
use Rattle.folder_core.proofs.CostsLemmas.{raises_more}
use Rattle.folder_core.proofs.ListedSoFarLemmas.{known_stored, long_past, long_seen, long_stored}
use Rattle.folder_core.proofs.ListedSoFarLemmas.{none_seen, whole_seen}
use Rattle.folder_core.proofs.SeenLemmas.{goes_as}
use Rattle.folder_letters.specs.Letters.{Mail, plain_letter}
use Rattle.folder_letters.specs.declared.letter.Letter.{Letter}
use Rattle.mail_base.specs.declared.flags.Flags.{Flags}
use Rattle.maildir_folder.specs.Walk.{Keeps, KnownSeen, SawFile, Takes, kept_store}

true_false : ◌≡◌ {A = Bool} true false → ⊥
true_false e = cc

met_file : (path : List ℕ) (file : MaildirFile) (bytes : List ℕ) (stamp : ℕ) (a b : Option Past)
    → GoesOn (FileSeen (path_of path file) bytes stamp) a b
    → GoesOn (SawFile path file None (Some bytes)) a b
met_file path file bytes stamp a b saw = goes_as a b (λ p q s. (
  ReadAll (path_of path file) s.0,
  record {
    mark = s.1.mark;
    from = s.1.from;
    to = s.1.to;
    answer = s.1.answer;
    own = s.1.own;
    tells = ap (option_map (message_of file)) s.1.tells.0;
  },
)) saw

met_none : (path : List ℕ) (file : MaildirFile) (a b : Option Past)
    → GoesOn (NoFileSeen (path_of path file)) a b → GoesOn (SawFile path file None None) a b
met_none path file a b saw = goes_as a b (λ p q s. (
  ReadAll (path_of path file) s.0,
  record {
    mark = s.1.mark;
    from = s.1.from;
    to = s.1.to;
    answer = s.1.answer;
    own = s.1.own;
    tells = s.1.tells;
  },
)) saw

-- a file that is not there
pub took_none : (mails : List Mail) (path : List ℕ) (file : MaildirFile) (limit : ℕ)
    (content : Content) (store : Store) (a b : Seen) → content ≡ NoFile
    → RaisesAtMost a.bytes_read b.bytes_read (content_length content)
    → GoesOn (SawAt (ReadAll (path_of path file) limit)
    (λ tree. IsContent limit content tree (path_of path file))) a.told b.told
    → Takes mails path file None false store store a b
took_none mails path file limit content store a b told reads saw = record {
  found = None;
  is = refl;
  store_is = refl;
  core = tt;
  reads = raises_more a.bytes_read b.bytes_read (content_length content) 0
      (omega (arith, ap content_length told)) reads;
  saw = met_none path file a.told b.told
      (none_seen (path_of path file) (path_of path file) limit content a.told b.told refl told saw);
}

-- a file that is read
pub took_whole : (mails : List Mail) (path : List ℕ) (file : MaildirFile) (limit : ℕ)
    (content : Content) (read : FileRead) (store new_store : Store) (a b : Seen)
    → content ≡ Whole read
    → new_store ≡ store_message maildir_format None (message_of file read.bytes.items) store
    → RaisesAtMost a.bytes_read b.bytes_read (content_length content)
    → GoesOn (SawAt (ReadAll (path_of path file) limit)
    (λ tree. IsContent limit content tree (path_of path file))) a.told b.told
    → Takes mails path file None true store new_store a b
took_whole mails path file limit content read store new_store a b told stored reads saw = record {
  found = Some read.bytes.items;
  is = refl;
  store_is = stored;
  core = tt;
  reads = raises_more a.bytes_read b.bytes_read (content_length content)
      (length read.bytes.items) (omega (arith, ap content_length told)) reads;
  saw = met_file path file read.bytes.items read.stat.stamp a.told b.told
      (whole_seen (path_of path file) (path_of path file) limit content read a.told b.told refl
      told saw);
}

-- a file that is too long to be read
pub took_long : (mails : List Mail) (path : List ℕ) (file : MaildirFile) (limit : ℕ)
    (content : Content) (size : ℕ) (store new_store : Store) (a b : Seen)
    → limit ≡ most_bytes - store.bytes → content ≡ TooLong size → FitsLimit limit content
    → new_store ≡ record store {
      count = store.count + 1;
      fresh = store.fresh + 1;
      bytes = told_sum (store.bytes + size);
    }
    → RaisesAtMost a.bytes_read b.bytes_read (content_length content)
    → GoesOn (SawAt (ReadAll (path_of path file) limit)
    (λ tree. IsContent limit content tree (path_of path file))) a.told b.told
    → Takes mails path file None true store new_store a b
took_long mails path file limit content size store new_store a b left told past stored reads saw =
    let met = long_seen (path_of path file) (path_of path file) limit content size a.told b.told
    refl told saw in
    record {
      found = Some met.bytes;
      is = refl;
      store_is = stored ∙ long_stored store (message_of file met.bytes).flags
          (maildir_letter 0 (message_of file met.bytes)) size limit left
          (long_past limit content size told past)
          met.length_is;
      core = tt;
      reads = raises_more a.bytes_read b.bytes_read (content_length content) (length met.bytes)
          (omega (arith, ap content_length told)) reads;
      saw = met_file path file met.bytes met.stamp a.told b.told met.saw;
    }

-- Known messages.

-- what stands there is a file
abbrev pub is_file : Option Stat → Bool
is_file None = false
is_file (Some stat) = not stat.folder

file_told : (node : Option TreeNode) (found : Option Stat) → found ≡ stat_there node
    → is_some (option_and_then node_file node) ≡ is_file found
file_told None found is = sym (ap is_file is)
file_told (Some node) found is = by_bytes node.bytes ∙ sym (ap is_file is)
  where
    by_bytes : (bytes : Option (List ℕ))
        → is_some bytes ≡ not (stat_node bytes node.stamp).folder
    by_bytes None = refl
    by_bytes (Some bytes) = refl

-- whether a file was there, by what stood there
pub known_seen : (path : List ℕ) (file : MaildirFile) (found : Option Stat) (kept : Bool)
    (a b : Option Past) → is_file found ≡ kept
    → GoesOn (SawAt (StatPath (path_of path file))
    (λ tree. found ≡ stat_there (node_at tree (path_of path file)))) a b
    → GoesOn (KnownSeen path file kept) a b
known_seen path file found kept a b is saw = goes_as a b (λ p q s. (
  StatPath (path_of path file),
  record {
    mark = s.mark;
    from = s.from;
    to = s.to;
    answer = s.answer;
    own = s.own;
    tells = file_told _ found s.tells ∙ is;
  },
)) saw

there_known : (file : MaildirFile) (id : ℕ) (core : List ℕ) (bytes : Option (List ℕ))
    → is_some bytes ≡ true
    → IsThere (Some id) (message_of file core) (option_map (message_of file) bytes)
there_known file id core None some = absurd (true_false (sym some))
there_known file id core (Some bytes) some = (bytes, refl)

not_there : (bytes : Option (List ℕ)) → is_some bytes ≡ false → bytes ≡ None
not_there None none = refl
not_there (Some bytes) none = absurd (true_false none)

-- the messages so far beside any archive
kept_stored : (so_far new_so_far : ListedSoFar) (archive : List Letter) (kept : Bool) (id : ℕ)
    (flags : Flags) (size : ℕ)
    → store_of new_so_far [] ≡ kept_store kept id flags size (store_of so_far [])
    → store_of new_so_far archive ≡ kept_store kept id flags size (store_of so_far archive)
kept_stored so_far new_so_far archive true id flags size is =
    known_stored so_far new_so_far archive id flags size is
kept_stored so_far new_so_far archive false id flags size is =
    ap (λ (s : Store). record s { archive = map plain_letter archive }) is

took_kept : (mails : List Mail) (path : List ℕ) (file : MaildirFile) (id size : ℕ) (kept : Bool)
    (store new_store : Store) (a b : Seen) → size ≡ length (mail_of mails id).core
    → new_store ≡ kept_store kept id (message_of file []).flags size store
    → RaisesAtMost a.bytes_read b.bytes_read 0
    → GoesOn (KnownSeen path file kept) a.told b.told
    → Takes mails path file (Some id) kept store new_store a b
took_kept mails path file id size true store new_store a b long stored reads saw =
    let core : List ℕ = (mail_of mails id).core in
    record {
      found = Some core;
      is = refl;
      store_is = stored
          ∙ ap (λ (n : ℕ). store_known id (message_of file []).flags n store) long;
      core = refl;
      reads = reads;
      saw = goes_as a.told b.told (λ p q s. (
        s.0,
        record {
          mark = s.1.mark;
          from = s.1.from;
          to = s.1.to;
          answer = s.1.answer;
          own = s.1.own;
          tells = there_known file id core _ s.1.tells;
        },
      )) saw;
    }
took_kept mails path file id size false store new_store a b long stored reads saw = record {
  found = None;
  is = refl;
  store_is = stored;
  core = tt;
  reads = reads;
  saw = goes_as a.told b.told (λ p q s. (
    s.0,
    record {
      mark = s.1.mark;
      from = s.1.from;
      to = s.1.to;
      answer = s.1.answer;
      own = s.1.own;
      tells = not_there _ s.1.tells;
    },
  )) saw;
}

-- a known message that is kept where its file is there
pub took_known : (at path : List ℕ) (file : MaildirFile) (archive : List Letter) (keep : Option ℕ)
    (id size : ℕ) (kept : Bool) (so_far new_so_far : ListedSoFar) (a b : Seen)
    → at ≡ path → Some id ≡ keep → size ≡ length (mail_of (map plain_letter archive) id).core
    → Keeps at file id size kept (store_of so_far []) (store_of new_so_far []) a b
    → Takes (map plain_letter archive) path file keep kept (store_of so_far archive)
    (store_of new_so_far archive) a b
took_known at path file archive keep id size kept so_far new_so_far a b same is long keeps =
    subst (λ (k : Option ℕ). Takes (map plain_letter archive) path file k kept
    (store_of so_far archive) (store_of new_so_far archive) a b) is
    (took_kept (map plain_letter archive) path file id size kept (store_of so_far archive)
    (store_of new_so_far archive) a b long
    (kept_stored so_far new_so_far archive kept id (message_of file []).flags size keeps.store_is)
    keeps.reads
    (subst (λ (p : List ℕ). GoesOn (KnownSeen p file kept) a.told b.told) same keeps.saw))
