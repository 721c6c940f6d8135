-- What looks at a folder tell before its files are read.
use Rattle.std.proofs.Common.{◌≡◌, ◌≤◌, ◌+◌, ℕ, List, [], Option, Some, Err, ap, arith, length}
use Rattle.std.proofs.Common.{true}
use Rattle.std.specs.Prelude.{unwrap_or}
use Rattle.disk_model.specs.Journal.{Past, ReadAll}
use Rattle.disk_model.specs.Judge.{GoesOn}
use Rattle.disk_model.specs.Looking.{LooksOnly, OnlyLooks}
use Rattle.disk_model.specs.Seen.{Seen}
use Rattle.disk_model.specs.declared.answers.FileRead.{FileRead}
use Rattle.disk_model.specs.State.{tree_at}
use Rattle.folder_core.specs.Costs.{RaisesAtMost}
use Rattle.folder_core.specs.Directory.{file_at}
use Rattle.folder_core.specs.FirstLook.{found_first}
use Rattle.folder_core.specs.Looked.{IsContent, SawAt, content_length}
use Rattle.folder_core.specs.Mh.{ReadsBeside, sequences_path}
use Rattle.folder_core.proofs.CostsLemmas.{raises_more}
use Rattle.folder_core.proofs.FirstLookLemmas.{tells_there}
use Rattle.folder_core.specs.declared.error.ScanError.TheVariants.{NoMemory}
use Rattle.folder_core.specs.declared.looks.Content.{Content}
use Rattle.folder_core.specs.declared.looks.Content.TheVariants.{NoFile, Whole}
use Rattle.folder_core.proofs.ListedSoFarLemmas.{none_seen, whole_seen}
use Rattle.folder_core.proofs.SeenLemmas.{goes_as, longer_later}
use Rattle.mh_folder.specs.Folder.{Finds, ReadsMarks}
use Rattle.mh_sequences.specs.Marks.{AreMarks}
use Rattle.mh_sequences.specs.declared.marks.Marks.{Marks}

pub nothing_marked : (path at : List ℕ) (limit : ℕ) (content : Content) (marks : Marks)
    (a b : Option Past)
    → at ≡ sequences_path path → content ≡ NoFile → AreMarks [] marks
    → GoesOn (SawAt (ReadAll at limit) (λ tree. IsContent limit content tree at)) a b
    → ReadsMarks path marks a b
nothing_marked path at limit content marks a b same told are saw = record {
  bytes = [];
  are = are;
  saw = goes_as a b (λ p q s. (
    s.0,
    record {
      mark = s.1.mark;
      from = s.1.from;
      to = s.1.to;
      answer = s.1.answer;
      own = s.1.own;
      tells = ap (λ (bytes : Option (List ℕ)). unwrap_or bytes []) s.1.tells;
    },
  )) (none_seen at (sequences_path path) limit content a b same told saw);
}

pub whole_marked : (path at : List ℕ) (limit : ℕ) (content : Content) (read : FileRead)
    (marks : Marks)
    (a b : Option Past) → at ≡ sequences_path path → content ≡ Whole read
    → AreMarks read.bytes.items marks
    → GoesOn (SawAt (ReadAll at limit) (λ tree. IsContent limit content tree at)) a b
    → ReadsMarks path marks a b
whole_marked path at limit content read marks a b same told are saw = record {
  bytes = read.bytes.items;
  are = are;
  saw = goes_as a b (λ p q s. (
    s.0,
    record {
      mark = s.1.mark;
      from = s.1.from;
      to = s.1.to;
      answer = s.1.answer;
      own = s.1.own;
      tells = ap (λ (bytes : Option (List ℕ)). unwrap_or bytes []) s.1.tells.0;
    },
  )) (whole_seen at (sequences_path path) limit content read a b same told saw);
}

-- What was read of the file of the sequences.

-- nothing was read
pub sequences_unread : (path : List ℕ) (a b : Seen) → LooksOnly a.told b.told
    → RaisesAtMost a.bytes_read b.bytes_read 0 → ReadsBeside path 0 a b
sequences_unread path a b looks reads = record {
  sequences = 0;
  held = goes_as a.told b.told (λ p q looked. record {
    mark = length p.journal;
    from = omega arith;
    to = longer_later p q looked;
    held = omega arith;
  }) looks;
  reads = reads;
}

pub no_content : (content : Content) (a b : Option ℕ) → content ≡ NoFile
    → RaisesAtMost a b (content_length content) → RaisesAtMost a b 0
no_content content a b is reads =
    raises_more a b (content_length content) 0 (omega (arith, ap content_length is)) reads

bytes_there : (bytes : Option (List ℕ)) (read : List ℕ) → bytes ≡ Some read
    → length read ≤ length (unwrap_or bytes [])
bytes_there bytes read is =
    omega (arith, ap (λ (b : Option (List ℕ)). length (unwrap_or b [])) is)

pub sequences_read : (path at : List ℕ) (limit : ℕ) (content : Content) (read : FileRead)
    (a b : Seen) → at ≡ sequences_path path → content ≡ Whole read
    → GoesOn (SawAt (ReadAll at limit) (λ tree. IsContent limit content tree at)) a.told b.told
    → RaisesAtMost a.bytes_read b.bytes_read (content_length content) → ReadsBeside path 0 a b
sequences_read path at limit content read a b same told saw reads = record {
  sequences = length read.bytes.items;
  held = goes_as a.told b.told (λ p q s. record {
    mark = s.1.mark;
    from = s.1.from;
    to = s.1.to;
    held = bytes_there (file_at (tree_at q s.1.mark) (sequences_path path)) read.bytes.items
        s.1.tells.0;
  }) (whole_seen at (sequences_path path) limit content read a.told b.told same told saw);
  reads = raises_more a.bytes_read b.bytes_read (content_length content)
      (length read.bytes.items + 0) (omega (arith, ap content_length told)) reads;
}

-- memory ran out behind looks
pub no_memory : {A : Type 0} {Sees : A → Option Past → Option Past → Type 0} (path : List ℕ)
    (a b : Seen)
    → OnlyLooks a b → GoesOn (λ p q. found_first path p q ≡ Some true) a.told b.told
    → RaisesAtMost a.bytes_read b.bytes_read 0 → Finds path (Err NoMemory) Sees a b
no_memory {A} path a b before there reads = record {
  saw = tt;
  refused = λ archive known. goes_as a.told b.told (λ p q x. tt) before.looks;
  never_full = λ is. absurd (cc);
  first = tells_there {A = A} (Err NoMemory) path a.told b.told (λ e. (cc)) there;
  only = before;
  reads = reads;
  cause = λ is. absurd (cc);
}
