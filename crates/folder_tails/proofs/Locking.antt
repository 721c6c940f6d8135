-- What looks at the lock and at the tail file told.
use Rattle.std.proofs.Common.{◌≡◌, ◌<◌, ◌==◌, ◌&&◌, ℕ, Bool, true, false, not, List, [], ◌∷◌}
use Rattle.std.proofs.Common.{Option, Some, None, Result, Ok, Err, length, nat_lt, is_some, refl}
use Rattle.std.proofs.Common.{if◌then◌else◌, sym, ◌∙◌, ap, subst, arith, ltb-true, inr}
use Rattle.std.specs.Prelude.{IsErr, IsErrAnd, option_and_then}
use Rattle.std.specs.Str.{bytes_eq}
use Rattle.disk_model.specs.Tree.{TreeNode, node_at}
use Rattle.disk_model.specs.Journal.{Done, Entry, Past, ReadAll, Refused, StatPath}
use Rattle.disk_model.specs.Judge.{Called, read_at, read_node, read_of, stat_at, stat_node, stat_of}
use Rattle.disk_model.specs.declared.answers.DiskError.{DiskError}
use Rattle.disk_model.specs.declared.answers.DiskError.TheVariants.{Exists, Fault, Long, Missing}
use Rattle.disk_model.specs.declared.answers.DiskError.TheVariants.{NoMemory, WrongNode}
use Rattle.disk_model.specs.declared.answers.FileRead.{FileRead}
use Rattle.disk_model.specs.declared.answers.Stat.{Stat}
use Rattle.folder_core.specs.Directory.{file_at, node_file}
use Rattle.folder_core.specs.FirstLook.{has_failed}
use Rattle.folder_core.proofs.LookedLemmas.{read_tells}
use Rattle.folder_stops.proofs.Words.{equal}
use Rattle.folder_tails.specs.Causes.{HadLine, HadNothing, HadTail, HadUnfit, IsOfTree, NotOwned}
use Rattle.folder_tails.specs.Causes.{Owned, ReadsFor, TellsLock, WasAround, WasLast, WasSeen}
use Rattle.folder_tails.specs.Causes.{is_absence, is_unfit, passes}
use Rattle.folder_tails.specs.Sides.{lock_of, tail_of}
use Rattle.folder_tails.specs.Tails.{is_owners, line_of}
use Rattle.folder_tails.specs.Taking.{MissesTail}
use Rattle.folder_tails.proofs.Causes.{last_ok, seen_as, seen_ok, seen_refused}
use Rattle.folder_tails.proofs.Folders.{has_more}

-- The lock.

-- these bytes are the line, or not
pub had_line : {a b : Option Past} (path line : List ℕ) (read : FileRead) (found : Bool)
    → found ≡ bytes_eq read.bytes.items line
    → Called (Ok (read.stat, read.bytes.items)) (ReadAll (lock_of path) (length line))
    (λ tree. read_of tree (lock_of path) (length line)) a b → WasSeen (HadLine path line found) a b
had_line path line read found is took =
    seen_ok (HadLine path line found)
    (λ tree judged. (
      (Done, refl, refl),
      ap (passes (λ bytes. bytes_eq bytes line))
          (read_tells tree (lock_of path) (length line) read judged).0 ∙ sym is,
    )) took

longer : (bytes line : List ℕ) → length line < length bytes → bytes_eq bytes line ≡ false
longer bytes line more = by_value (bytes_eq bytes line) refl
  where
    by_value : (same : Bool) → bytes_eq bytes line ≡ same → same ≡ false
    by_value true same = absurd (omega (arith, more, ap length (equal bytes line same)))
    by_value false same = refl

bytes_unread : (why : DiskError) (bytes : Option (List ℕ)) (stamp : ℕ) (line : List ℕ)
    → ◌≡◌ {A = Result (Stat × List ℕ) DiskError} (Err why) (read_node bytes stamp (length line))
    → passes (λ bytes. bytes_eq bytes line) bytes ≡ false
bytes_unread why None stamp line is = refl
bytes_unread why (Some bytes) stamp line is =
    by_length (nat_lt (length line) (length bytes)) refl is
  where
    by_length : (long : Bool) → nat_lt (length line) (length bytes) ≡ long
        → ◌≡◌ {A = Result (Stat × List ℕ) DiskError} (Err why)
        (if long then Err (Long (length bytes)) else Ok (stat_node (Some bytes) stamp, bytes))
        → bytes_eq bytes line ≡ false
    by_length true long is =
        longer bytes line (omega (arith, ltb-true (length line) (length bytes) long))
    by_length false long is = absurd (cc)

line_unread : (why : DiskError) (node : Option TreeNode) (line : List ℕ)
    → ◌≡◌ {A = Result (Stat × List ℕ) DiskError} (Err why) (read_at node (length line))
    → passes (λ bytes. bytes_eq bytes line) (option_and_then node_file node) ≡ false
line_unread why None line is = refl
line_unread why (Some node) line is = bytes_unread why node.bytes node.stamp line is

absence_of_tree : (why : DiskError) → is_absence why ≡ true → IsOfTree why
absence_of_tree Missing absent = tt
absence_of_tree WrongNode absent = tt
absence_of_tree (Long size) absent = tt
absence_of_tree Exists absent = tt
absence_of_tree Fault absent = absurd (cc)
absence_of_tree NoMemory absent = absurd (cc)

absence_told : (why : DiskError) → is_absence why ≡ true → has_failed (Refused why 0) ≡ false
absence_told Missing absent = refl
absence_told WrongNode absent = refl
absence_told (Long size) absent = refl
absence_told Exists absent = refl
absence_told Fault absent = absurd (cc)
absence_told NoMemory absent = refl

-- no file with so few bytes was read
pub had_no_line : {a b : Option Past} (path line : List ℕ) (why : DiskError)
    → is_absence why ≡ true
    → Called {A = Stat × List ℕ} (Err why) (ReadAll (lock_of path) (length line))
    (λ tree. read_of tree (lock_of path) (length line)) a b → WasSeen (HadLine path line false) a b
had_no_line path line why absent took =
    seen_refused why (HadLine path line false)
    (λ tree is. (
      (Refused why 0, refl, absence_told why absent),
      line_unread why (node_at tree (lock_of path)) line is,
    ))
    took (absence_of_tree why absent)

-- for an owner with a name, his is the lock with his line
owner_passes : (owner : List ℕ) (file : Option (List ℕ)) → (length owner == 0) ≡ false
    → passes (is_owners owner) file ≡ passes (λ bytes. bytes_eq bytes (line_of owner)) file
owner_passes owner None named = refl
owner_passes owner (Some bytes) named =
    ap (λ (b : Bool). not b && bytes_eq bytes (line_of owner)) named

line_owned : (path owner line : List ℕ) (found : Bool) (entry : Entry) (tree : List TreeNode)
    → line ≡ line_of owner → (length owner == 0) ≡ false → HadLine path line found entry tree
    → ReadsFor path (line_of owner) entry
    × (passes (is_owners owner) (file_at tree (lock_of path)) ≡ found)
line_owned path owner line found entry tree is named had =
    let his = subst (λ (l : List ℕ). HadLine path l found entry tree) is had in
    (his.0, owner_passes owner (file_at tree (lock_of path)) named ∙ his.1)

-- the lock was looked into
pub lock_told : {a b : Option Past} (path owner line : List ℕ) (held found : Bool)
    → line ≡ line_of owner → (length owner == 0) ≡ false → held ≡ false
    → WasSeen (HadLine path line found) a b → TellsLock path owner held (Ok found) a b
lock_told path owner line held found is named free seen = record {
  ours = λ yes. inr (seen_as {Other = Owned path owner} (λ entry tree had.
      let his = line_owned path owner line found entry tree is named had in
      (his.0, his.1 ∙ yes)) seen);
  not_ours = λ no. (
    free,
    inr (seen_as {Other = NotOwned path owner} (λ entry tree had.
        let his = line_owned path owner line found entry tree is named had in
        (his.0, his.1 ∙ no)) seen),
  );
  why = tt;
}

-- the look was refused
pub lock_untold : {a b : Option Past} (path owner : List ℕ) (held : Bool) (why : DiskError)
    (result : Result Bool DiskError) → IsErr result × IsErrAnd result (λ told. told ≡ why)
    → (IsOfTree why → WasLast (WasAround path) a b) → TellsLock path owner held result a b
lock_untold path owner held why (Ok found) from around = absurd from.1
lock_untold {a} {b} path owner held why (Err told) from around = record {
  ours = tt;
  not_ours = tt;
  why = subst (λ (e : DiskError). IsOfTree e → WasLast (WasAround path) a b) (sym from.1) around;
}

-- an owner without a name
pub no_name : (owner : List ℕ) → (length owner == 0) ≡ true → owner ≡ []
no_name [] empty = refl
no_name (b ∷ owner) empty =
    let more : true ≡ false = sym empty ∙ has_more b owner in absurd (cc)

-- The tail file.

some_there : (stat : Stat) (node : Option TreeNode) → Ok stat ≡ stat_at node → is_some node ≡ true
some_there stat None is = absurd (cc)
some_there stat (Some node) is = refl

none_there : (node : Option TreeNode) → Err Missing ≡ stat_at node → node ≡ None
none_there None is = refl
none_there (Some node) is = absurd (cc)

pub had_tail : {stat : Stat} {a b : Option Past} (path : List ℕ)
    → Called (Ok stat) (StatPath (tail_of path)) (λ tree. stat_of tree (tail_of path)) a b
    → WasSeen (HadTail path) a b
had_tail {stat} path took = seen_ok (HadTail path)
    (λ tree judged. (refl, some_there stat (node_at tree (tail_of path)) judged)) took

pub had_nothing : {a b : Option Past} (path : List ℕ) → MissesTail path a b
    → WasSeen (HadNothing path) a b
had_nothing path took = seen_refused Missing (HadNothing path)
    (λ tree judged. (refl, none_there (node_at tree (tail_of path)) judged)) took tt

-- its bytes are none that we could have written, and no call came behind
pub had_unfit : {a b c : Option Past} (path text : List ℕ) (limit : ℕ) (read : FileRead)
    → text ≡ read.bytes.items → is_unfit text ≡ true → c ≡ b
    → Called (Ok (read.stat, read.bytes.items)) (ReadAll (tail_of path) limit)
    (λ tree. read_of tree (tail_of path) limit) a b → WasLast (HadUnfit path) a c
had_unfit {a} path text limit read same unfit none took =
    subst (λ (end : Option Past). WasLast (HadUnfit path) a end) (sym none)
    (last_ok (HadUnfit path)
    (λ tree judged. (
      (limit, refl),
      ap (passes is_unfit) (read_tells tree (tail_of path) limit read judged).0
          ∙ ap is_unfit (sym same) ∙ unfit,
    )) took)
