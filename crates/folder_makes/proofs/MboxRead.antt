-- A mailbox in one file as it is read: what its bytes tell, and what the first look met.
use Rattle.std.proofs.Common.{◌≡◌, ◌∷◌, ◌++◌, ◌∙◌, [], ℕ, Bool, true, false, List, Option, Some}
use Rattle.std.proofs.Common.{None, Result, Ok, Err, ap, codes, if◌then◌else◌, inl, inr, is_some}
use Rattle.std.proofs.Common.{length, map, nat_lt, refl, subst, sym, take, ◌⊎◌}
use Rattle.std.proofs.lemmas.Bool.{cond-true}
use Rattle.std.proofs.lemmas.Slice.Eq.{bytes_eq-Decides}
use Rattle.std.specs.List.{concat}
use Rattle.std.specs.Prelude.{option_and_then}
use Rattle.std.specs.Str.{bytes_eq}
use Rattle.bstr.specs.Text.{lines_of}
use Rattle.mail_base.specs.declared.kind.Kind.{Kind}
use Rattle.mail_base.specs.declared.kind.Kind.TheVariants.{Mbox}
use Rattle.disk_model.specs.Journal.{Action, Done, Entry, Others, Own, Past, ReadAll}
use Rattle.disk_model.specs.Journal.{has_foreign}
use Rattle.disk_model.specs.Judge.{Called, read_at, read_node, read_of}
use Rattle.disk_model.specs.State.{State, run_entries}
use Rattle.disk_model.specs.State.{tree_of}
use Rattle.disk_model.specs.Tree.{TreeNode, node_at}
use Rattle.disk_model.specs.declared.answers.DiskError.{DiskError}
use Rattle.disk_model.specs.declared.answers.DiskError.TheVariants as disk
use Rattle.disk_model.specs.declared.answers.Stat.{Stat}
use Rattle.folder_core.specs.Directory.{file_at, node_file}
use Rattle.folder_core.specs.Kinds.{bytes_kind, empty_file_kind, file_kind, front_kind, node_kind}
use Rattle.folder_core.specs.Mbox.{begins_mailbox, begins_with_postmark, file_reads, is_postmark}
use Rattle.folder_core.specs.Mbox.{mbox_message, messages, messages_of, node_reads}
use Rattle.folder_core.specs.Message.{Message}
use Rattle.folder_core.proofs.Messages.{concat-lines}
use Rattle.mbox_text.proofs.RegionsLemmas.{begins_empty, not_mark}
use Rattle.bstr.proofs.lemmas.LineLemmas.{lines-empty}
use Rattle.folder_stops.specs.Along.{Grown}
use Rattle.folder_stops.proofs.Along.{grown_map, judged_grown}
use Rattle.folder_drivers.specs.Making.{IsSoAt, MetFirst}
use Rattle.folder_drivers.specs.MboxMade.{IsMailboxMade, MadeMailboxAlone, fits_mailbox}
use Rattle.folder_drivers.specs.MboxMade.{may_be_mailbox, read_before}
use Rattle.folder_makes.proofs.Looking.{first_last}

true_false : ◌≡◌ {A = Bool} true false → ⊥
true_false e = cc

-- A mailbox by its bytes.

postmark_front : (line : List ℕ) → is_postmark line ≡ true → take 5 line ≡ codes "From "
postmark_front line is = by (bytes_eq (take 5 line) (codes "From ")) refl
  where
    by : (t : Bool) → bytes_eq (take 5 line) (codes "From ") ≡ t → take 5 line ≡ codes "From "
    by true same = (bytes_eq-Decides (take 5 line) (codes "From ")).0 same
    by false same = absurd (true_false (sym is ∙ not_mark line (λ e.
        true_false (sym ((bytes_eq-Decides (take 5 line) (codes "From ")).1 e) ∙ same))))

front_more : (line rest : List ℕ) → take 5 line ≡ codes "From "
    → take 5 (line ++ rest) ≡ codes "From "
front_more [] rest is = absurd (cc)
front_more (a ∷ []) rest is = absurd (cc)
front_more (a ∷ b ∷ []) rest is = absurd (cc)
front_more (a ∷ b ∷ c ∷ []) rest is = absurd (cc)
front_more (a ∷ b ∷ c ∷ d ∷ []) rest is = absurd (cc)
front_more (a ∷ b ∷ c ∷ d ∷ e ∷ line) rest is = is

front_of_lines : (lines : List (List ℕ)) → begins_with_postmark lines ≡ true
    → (lines ≡ []) ⊎ (take 5 (concat lines) ≡ codes "From ")
front_of_lines [] is = inl refl
front_of_lines (line ∷ lines) is = inr (front_more line (concat lines) (postmark_front line is))

-- the rule of kinds finds it
kind_of_bytes : (empty : Kind) (bytes : List ℕ) → begins_mailbox bytes ≡ true
    → empty_file_kind empty ≡ Mbox → file_kind empty bytes ≡ Ok Mbox
kind_of_bytes empty bytes is same = by (front_of_lines (lines_of bytes) is)
  where
    by : (lines_of bytes ≡ []) ⊎ (take 5 (concat (lines_of bytes)) ≡ codes "From ")
        → file_kind empty bytes ≡ Ok Mbox
    by (inl none) =
        ap (file_kind empty) (sym (concat-lines bytes) ∙ ap concat none) ∙ ap Ok same
    by (inr front) =
        ap (file_kind empty) (sym (concat-lines bytes)) ∙ ap (front_kind empty) front

reads_by : (node : Option TreeNode) (bytes : List ℕ) → option_and_then node_file node ≡ Some bytes
    → node_reads node ≡ messages_of bytes
reads_by None bytes is = absurd (cc)
reads_by (Some node) bytes is = ap file_reads is

kind_by : (empty : Kind) (tree : List TreeNode) (path : List ℕ) (node : Option TreeNode)
    (bytes : List ℕ) → option_and_then node_file node ≡ Some bytes
    → node_kind empty tree path node ≡ file_kind empty bytes
kind_by empty tree path None bytes is = absurd (cc)
kind_by empty tree path (Some node) bytes is = ap (bytes_kind empty tree path) is

before_by : (node : Option TreeNode) (bytes : List ℕ) → option_and_then node_file node ≡ Some bytes
    → read_before node ≡ messages_of bytes
before_by None bytes is = absurd (cc)
before_by (Some node) bytes is = ap file_reads is

some_if : (b : Bool) (messages : List Message)
    → is_some (if b then Some messages else None) ≡ b
some_if true messages = refl
some_if false messages = refl

some_messages : (bytes : List ℕ) → is_some (messages_of bytes) ≡ begins_mailbox bytes
some_messages bytes = some_if (begins_mailbox bytes) _

fits_by : (path : List ℕ) (tree : List TreeNode) (node : Option TreeNode) (bytes : List ℕ)
    → option_and_then node_file node ≡ Some bytes
    → fits_mailbox path tree node ≡ begins_mailbox bytes
fits_by path tree None bytes is = absurd (cc)
fits_by path tree (Some node) bytes is = ap (λ o. is_some (file_reads o)) is ∙ some_messages bytes

-- an empty one has no messages
pub empty_begins : begins_mailbox [] ≡ true
empty_begins = begins_empty [] refl

pub empty_messages : messages_of [] ≡ Some []
empty_messages = cond-true (begins_mailbox []) _ None empty_begins
    ∙ ap (λ lines. Some (map mbox_message (map concat (messages lines)))) (lines-empty [] refl)

-- a mailbox of these bytes stands, and its messages are those from before
pub mailbox_made : (path bytes : List ℕ) (old new : List TreeNode) → file_at new path ≡ Some bytes
    → begins_mailbox bytes ≡ true → read_before (node_at old path) ≡ messages_of bytes
    → IsMailboxMade path old new
mailbox_made path bytes old new there is before = record {
  mailbox = ap is_some (reads_by (node_at new path) bytes there) ∙ some_messages bytes ∙ is;
  reads = reads_by (node_at new path) bytes there ∙ sym before;
  kind = λ empty same. kind_by empty new path (node_at new path) bytes there
      ∙ kind_of_bytes empty bytes is same;
}

-- A file that was read.

read_bytes : (bytes : Option (List ℕ)) (stamp limit : ℕ) (stat : Stat) (held : List ℕ)
    → Ok (stat, held) ≡ read_node bytes stamp limit → bytes ≡ Some held
read_bytes None stamp limit stat held is = absurd (cc)
read_bytes (Some bytes) stamp limit stat held is = by (nat_lt limit (length bytes)) _ is
  where
    by : (long : Bool) (one : Stat)
        → ◌≡◌ {A = Result (Stat × List ℕ) DiskError} (Ok (stat, held))
        (if long then Err (disk.Long (length bytes)) else Ok (one, bytes)) → Some bytes ≡ Some held
    by true one is = absurd (cc)
    by false one is = let e : (stat, held) ≡ (one, bytes) = cc in
        ap (λ (p : Stat × List ℕ). Some p.1) (sym e)

read_there : (path : List ℕ) (limit : ℕ) (tree : List TreeNode) (stat : Stat) (bytes : List ℕ)
    → Ok (stat, bytes) ≡ read_of tree path limit → file_at tree path ≡ Some bytes
read_there path limit tree stat bytes is = by (node_at tree path) is
  where
    by : (node : Option TreeNode) → Ok (stat, bytes) ≡ read_at node limit
        → option_and_then node_file node ≡ Some bytes
    by None is = absurd (cc)
    by (Some node) is = read_bytes node.bytes node.stamp limit stat bytes is

module _ (path : List ℕ) (limit : ℕ) {stat : Stat} {bytes : List ℕ} {a b : Option Past}
    (took : Called (Ok (stat, bytes)) (ReadAll path limit) (λ tree. read_of tree path limit) a b)
  where
    -- the first look met a mailbox, or a file that is none
    pub met_file : (value : Bool) → begins_mailbox bytes ≡ value
        → Grown a b (MetFirst (may_be_mailbox path) value)
    met_file value is =
        grown_map a b _ _ (judged_grown (stat, bytes) (ReadAll path limit) _ a b took.goes)
        (λ s es read.
        subst (λ (l : List Entry). MetFirst (may_be_mailbox path) value s l) (sym read.1)
        (subst (IsSoAt (may_be_mailbox path) value)
        (sym (first_last read.0 (ReadAll path limit) Done s []))
        (fits_by path _ (node_at (tree_of (run_entries (map Others read.0) s)) path) bytes
        (read_there path limit _ stat bytes read.2) ∙ is)))

    -- it stands
    pub made_file : begins_mailbox bytes ≡ true → Grown a b (MadeMailboxAlone path)
    made_file is =
        grown_map a b _ _ (judged_grown (stat, bytes) (ReadAll path limit) _ a b took.goes)
        (λ s es read none. by s es read.0 read.1 read.2 none)
      where
        by : (s : State) (es : List Entry) (actions : List Action)
            → es ≡ map Others actions ++ Own (ReadAll path limit) Done ∷ []
            → Ok (stat, bytes) ≡ read_of (tree_of (run_entries (map Others actions) s)) path limit
            → has_foreign es ≡ false
            → IsMailboxMade path (tree_of s) (tree_of (run_entries es s))
        by s es [] e read none =
            let there = read_there path limit (tree_of s) stat bytes read in
            subst (λ (l : List Entry). IsMailboxMade path (tree_of s) (tree_of (run_entries l s)))
            (sym e)
            (mailbox_made path bytes (tree_of s) (tree_of s) there is
            (before_by (node_at (tree_of s) path) bytes there))
        by s es (action ∷ actions) e read none =
            absurd (true_false (sym (ap has_foreign e) ∙ none))
