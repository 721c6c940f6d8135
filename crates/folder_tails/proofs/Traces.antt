-- What calls of ours a journal grew by, one behind another.
use Rattle.std.proofs.Common.{Err, List, None, Ok, Option, Result, Some, inl, map, refl, subst, sym}
use Rattle.std.proofs.Common.{ℕ}
use Rattle.std.proofs.Common.{[], ◌∷◌}
use Rattle.disk_model.specs.Tree.{TreeNode}
use Rattle.disk_model.specs.Journal.{Call, Done, Others, Own, Past, StatPath}
use Rattle.disk_model.specs.Judge.{Called, Grows}
use Rattle.disk_model.specs.declared.answers.DiskError.{DiskError}
use Rattle.folder_stops.specs.Along.{Grown}
use Rattle.folder_stops.specs.Words.{Among}
use Rattle.folder_stops.proofs.Along.{done_grown, grown_map, grown_then, refused_grown}
use Rattle.folder_stops.proofs.Does.{own_append}
use Rattle.folder_stops.proofs.Words.{among_left, among_right}
use Rattle.folder_tails.specs.Sides.{tail_of}
use Rattle.folder_tails.specs.Traces.{IsOnLock, LockAlone, MeetsTail}
use Rattle.folder_tails.proofs.Leading.{own_done, own_refused}

pub grows_grown : (a b : Option Past) → Grows a b → Grown a b (λ s es. Unit {0})
grows_grown None b is = is
grows_grown (Some past) None is = absurd is
grows_grown (Some past) (Some new) is =
    record { same_first = is.same_first; more = is.more; journal = is.journal; along = tt }

pub meets : {T : Type 0} {v : T} {wanted : List TreeNode → Result T DiskError} {a b : Option Past}
    (path : List ℕ) → Called (Ok v) (StatPath (tail_of path)) wanted a b → MeetsTail path a b
meets {v = v} {wanted = wanted} {a = a} {b = b} path took =
    grown_map a b _ _ (done_grown v (StatPath (tail_of path)) wanted a b took.goes)
    (λ s es is. subst (Among (Own (StatPath (tail_of path)) Done)) (sym is.1)
    (among_right (Own (StatPath (tail_of path)) Done) (map Others is.0)
    (Own (StatPath (tail_of path)) Done ∷ []) (inl refl)))

pub meets_later : (path : List ℕ) (a b c : Option Past) → Grows a b → MeetsTail path b c
    → MeetsTail path a c
meets_later path a b c grows met =
    grown_then a b c _ _ _ (grows_grown a b grows) met
    (λ s xs ys p q. among_right (Own (StatPath (tail_of path)) Done) xs ys q)

pub meets_before : (path : List ℕ) (a b c : Option Past) → MeetsTail path a b → Grows b c
    → MeetsTail path a c
meets_before path a b c met grows =
    grown_then a b c _ _ _ met (grows_grown b c grows)
    (λ s xs ys p q. among_left (Own (StatPath (tail_of path)) Done) xs ys p)

pub alone : {T : Type 0} {result : Result T DiskError} {call : Call}
    {wanted : List TreeNode → Result T DiskError} {a b : Option Past} (path : List ℕ)
    → Called result call wanted a b → IsOnLock path call → LockAlone path a b
alone {result = Ok v} {call = call} {wanted = wanted} {a = a} {b = b} path took is =
    grown_map a b _ _ (done_grown v call wanted a b took.goes)
    (λ s es went. own_done (λ call answer. IsOnLock path call) call s es is went)
alone {result = Err e} {call = call} {wanted = wanted} {a = a} {b = b} path took is =
    grown_map a b _ _ (refused_grown e call wanted a b took.goes)
    (λ s es went. own_refused (λ call answer. IsOnLock path call) call s es (λ answer. is) went)

pub alone_then : (path : List ℕ) (a b c : Option Past) → LockAlone path a b → LockAlone path b c
    → LockAlone path a c
alone_then path a b c first next =
    grown_then a b c _ _ _ first next
    (λ s xs ys p q. own_append (λ call answer. IsOnLock path call) xs ys p q)
