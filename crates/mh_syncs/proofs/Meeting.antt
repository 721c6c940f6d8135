-- What calls met, in longer stretches of a past.
use Rattle.std.proofs.Common.{◌≡◌, ◌&&◌, ◌==◌, ℕ, true, not, List, [], ◌∷◌, Option}
use Rattle.std.proofs.Common.{Some, None, length, refl, sym, ◌∙◌, ap, subst, arith, is_some}
use Rattle.std.proofs.Common.{inr}
use Rattle.std.specs.Prelude.{unwrap_or}
use Rattle.mail_base.specs.Ordered.{IsIn}
use Rattle.mail_base.specs.declared.kind.Id.{Id}
use Rattle.disk_model.specs.Journal.{Call, Past}
use Rattle.disk_model.specs.Judge.{GoesOn, Grows, stat_node}
use Rattle.disk_model.specs.State.{tree_at}
use Rattle.disk_model.specs.Tree.{TreeNode, node_at}
use Rattle.disk_model.specs.declared.answers.Stat.{Stat}
use Rattle.disk_model.proofs.Marks.{length_longer, tree_at-longer}
use Rattle.disk_model.specs.Looking.{LooksOnly}
use Rattle.disk_model.proofs.Looking.{grows_same, grows_then, looks_grows, looks_same, looks_then}
use Rattle.index_items.specs.Changes.{Changed}
use Rattle.folder_letters.specs.Letters.{Mail}
use Rattle.folder_core.specs.Directory.{file_at, path_in}
use Rattle.folder_core.specs.Keeping.{mail_of}
use Rattle.folder_core.specs.Known.{KnownFolder}
use Rattle.folder_core.specs.Looked.{IsContent, SawAt, stat_there}
use Rattle.folder_core.specs.Mh.{is_number, sequences_at, sequences_path}
use Rattle.folder_changes.specs.Asked.{ids_of}
use Rattle.folder_core.specs.declared.looks.Content.{Content}
use Rattle.folder_core.specs.declared.looks.Content.TheVariants.{NoFile, Whole}
use Rattle.folder_core.proofs.SeenLemmas.{goes_as}
use Rattle.disk_model.specs.declared.answers.FileRead.{FileRead}
use Rattle.folder_drivers.specs.MhLeft.{BoreStamp, bears, stamp_known}
use Rattle.mh_syncs.specs.Met.{Met}
use Rattle.mh_syncs.specs.Numbers.{AreNumbers}
use Rattle.mh_syncs.specs.Parts.{Reads}
use Rattle.mh_syncs.specs.Stamps.{AllBear, Bears, bears_found}
use Rattle.mh_syncs.proofs.Calling.{goes_both}

-- what was met in a part of a call was met in the call

pub met_later : (Is : List TreeNode → Type 0) (a b c : Option Past) → Met Is a b → Grows b c
    → Met Is a c
met_later Is a b c met grows =
    goes_both a b c (λ p q r x y. record {
      mark = x.mark;
      from = x.from;
      to = omega (arith, x.to, length_longer q r y);
      is = subst Is (sym (tree_at-longer q r x.mark y x.to)) x.is;
    }) met grows

pub met_earlier : (Is : List TreeNode → Type 0) (a b c : Option Past) → Grows a b → Met Is b c
    → Met Is a c
met_earlier Is a b c grows met =
    goes_both a b c (λ p q r x y. record {
      mark = y.mark;
      from = omega (arith, y.from, length_longer p q x);
      to = y.to;
      is = y.is;
    }) grows met

-- The sequences.

pub read_none : (path at : List ℕ) (limit : ℕ) (call : Call) (content : Content)
    (bytes : List ℕ) (old new : Option Past) → content ≡ NoFile → bytes ≡ []
    → at ≡ sequences_path path
    → GoesOn (SawAt call (λ tree. IsContent limit content tree at)) old new
    → Reads path bytes old new
read_none path at limit call content bytes old new none empty is saw =
    goes_as old new (λ p q s. record {
      mark = s.mark;
      from = s.from;
      to = s.to;
      is = ap (λ (o : Option (List ℕ)). unwrap_or o [])
          (sym (ap (file_at (tree_at q s.mark)) is)
          ∙ subst (λ (c : Content). IsContent limit c (tree_at q s.mark) at) none s.tells)
          ∙ sym empty;
    }) saw

pub read_whole : (path at : List ℕ) (limit : ℕ) (call : Call) (content : Content)
    (read : FileRead) (old new : Option Past) → content ≡ Whole read → at ≡ sequences_path path
    → GoesOn (SawAt call (λ tree. IsContent limit content tree at)) old new
    → Reads path read.bytes.items old new
read_whole path at limit call content read old new whole is saw =
    goes_as old new (λ p q s. record {
      mark = s.mark;
      from = s.from;
      to = s.to;
      is = ap (λ (o : Option (List ℕ)). unwrap_or o [])
          (sym (ap (file_at (tree_at q s.mark)) is)
          ∙ (subst (λ (c : Content). IsContent limit c (tree_at q s.mark) at) whole s.tells).0);
    }) saw

-- Stamps.

bears_node : (stamp : Option ℕ) (node : Option TreeNode)
    → bears_found stamp (stat_there node) ≡ bears stamp node
bears_node None there = refl
bears_node (Some stamp) None = refl
bears_node (Some stamp) (Some node) = by node.bytes
  where
    by : (bytes : Option (List ℕ))
        → (not (stat_node bytes node.stamp).folder && (stat_node bytes node.stamp).stamp == stamp)
        ≡ (is_some bytes && node.stamp == stamp)
    by None = refl
    by (Some bytes) = refl

pub found_bears : (stamp : Option ℕ) (at : List ℕ) (call : Call) (found : Option Stat)
    (old new : Option Past) → bears_found stamp found ≡ true
    → GoesOn (SawAt call (λ tree. found ≡ stat_there (node_at tree at))) old new
    → Bears stamp at old new
found_bears stamp at call found old new is saw =
    goes_as old new (λ p q s. record {
      mark = s.mark;
      from = s.from;
      to = s.to;
      is = sym (bears_node stamp (node_at (tree_at q s.mark) at))
          ∙ sym (ap (bears_found stamp) s.tells) ∙ is;
    }) saw

pub all_bear_later : (known : KnownFolder) (mails : List Mail) (changes : List Changed)
    (a b c : Option Past) → AllBear known mails changes a b → Grows b c
    → AllBear known mails changes a c
all_bear_later known mails [] a b c bear grows = tt
all_bear_later known mails (changed ∷ changes) a b c bear grows =
    (met_later _ a b c bear.0 grows, all_bear_later known mails changes a b c bear.1 grows)

pub all_bear_earlier : (known : KnownFolder) (mails : List Mail) (changes : List Changed)
    (a b c : Option Past) → Grows a b → AllBear known mails changes b c
    → AllBear known mails changes a c
all_bear_earlier known mails [] a b c grows bear = tt
all_bear_earlier known mails (changed ∷ changes) a b c grows bear =
    (met_earlier _ a b c grows bear.0, all_bear_earlier known mails changes a b c grows bear.1)

-- the file of a message had its stamp in the call
pub bore_stamp : (known : KnownFolder) (mails : List Mail) (changed : Changed)
    (changes : List Changed) (old new : Option Past)
    → AllBear known mails (changed ∷ changes) old new
    → GoesOn (λ p q. BoreStamp known mails changed.id (length p.journal) (length q.journal) q)
    old new
bore_stamp known mails changed changes old new bear =
    goes_as old new (λ p q m. record {
      mark = m.mark;
      from = m.from;
      to = m.to;
      bore = m.is;
    }) bear.0

-- The files of messages up to one of them.

-- what is left to be checked, at whatever past it is checked, makes up all
pub record CheckedSoFar (known : KnownFolder) (mails : List Mail) (changes left : List Changed)
    (old now : Option Past) : Type 0 where
  pub looks : LooksOnly old now
  pub among : (id : Id) → IsIn id (ids_of left) → IsIn id (ids_of changes)
  pub bears : (later : Option Past) → Grows now later → AllBear known mails left old later
      → AllBear known mails changes old later
  pub numbers : AreNumbers mails left → AreNumbers mails changes

pub checked_first : (known : KnownFolder) (mails : List Mail) (changes : List Changed)
    (told : Option Past) → CheckedSoFar known mails changes changes told told
checked_first known mails changes told = record {
  looks = looks_same told;
  among = λ id held. held;
  bears = λ later grows bear. bear;
  numbers = λ are. are;
}

pub checked_next : (known : KnownFolder) (mails : List Mail) (changes : List Changed)
    (changed : Changed) (left all : List Changed) (old now next : Option Past)
    → all ≡ changed ∷ left → CheckedSoFar known mails changes all old now
    → LooksOnly now next
    → Bears (stamp_known known.listing known.stamps changed.id.0)
    (path_in known.path (mail_of mails changed.id.0).key) now next
    → is_number (mail_of mails changed.id.0).key ≡ true
    → CheckedSoFar known mails changes left old next
checked_next known mails changes changed left all old now next whole so_far looks bears number =
    by (subst (λ (l : List Changed). CheckedSoFar known mails changes l old now) whole so_far)
  where
    by : CheckedSoFar known mails changes (changed ∷ left) old now
        → CheckedSoFar known mails changes left old next
    by so_far = record {
      looks = looks_then old now next so_far.looks looks;
      among = λ id held. so_far.among id (inr held);
      bears = λ later grows bear. so_far.bears later
          (grows_then now next later (looks_grows now next looks) grows) (
            met_later _ old next later
                (met_earlier _ old now next (looks_grows old now so_far.looks) bears) grows,
            bear,
          );
      numbers = λ are. so_far.numbers (number, are);
    }

pub checked_bears : (known : KnownFolder) (mails : List Mail) (changes left : List Changed)
    (old now : Option Past) → left ≡ [] → CheckedSoFar known mails changes left old now
    → AllBear known mails changes old now
checked_bears known mails changes left old now none so_far =
    by (subst (λ (l : List Changed). CheckedSoFar known mails changes l old now) none so_far)
  where
    by : CheckedSoFar known mails changes [] old now → AllBear known mails changes old now
    by so_far = so_far.bears now (grows_same now) tt

pub checked_numbers : (known : KnownFolder) (mails : List Mail) (changes left : List Changed)
    (old now : Option Past) → left ≡ [] → CheckedSoFar known mails changes left old now
    → AreNumbers mails changes
checked_numbers known mails changes left old now none so_far =
    by (subst (λ (l : List Changed). CheckedSoFar known mails changes l old now) none so_far)
  where
    by : CheckedSoFar known mails changes [] old now → AreNumbers mails changes
    by so_far = so_far.numbers tt

-- the sequences that were read in a part of a call
pub reads_at : (at path bytes : List ℕ) (a b c d : Option Past) → at ≡ path → Grows a b
    → Reads at bytes b c → Grows c d → Reads path bytes a d
reads_at at path bytes a b c d is before reads behind =
    met_later (λ tree. sequences_at tree path ≡ bytes) a c d
    (met_earlier (λ tree. sequences_at tree path ≡ bytes) a b c before
    (subst (λ (p : List ℕ). Reads p bytes b c) is reads)) behind
