-- Which calls of ours are among the entries by which a journal grew.
use Rattle.std.proofs.Common.{◌≡◌, ◌++◌, List, [], ◌∷◌, Option, Some, None, Result, Ok, inl, inr}
use Rattle.std.proofs.Common.{map, refl, subst, sym}
use Rattle.disk_model.specs.Journal.{Action, Call, Done, Entry, Others, Own, Past}
use Rattle.disk_model.specs.Judge.{Called, GoesOn, Grows, StepBy}
use Rattle.disk_model.specs.State.{State}
use Rattle.disk_model.specs.Tree.{TreeNode}
use Rattle.disk_model.specs.declared.answers.DiskError.{DiskError}
use Rattle.folder_stops.specs.Along.{Grown}
use Rattle.folder_stops.specs.Words.{Among}
use Rattle.folder_stops.proofs.Along.{done_grown, grown_map, grown_then}

-- the past went on, by any entries
grown_on : (a b : Option Past) → Grows a b → Grown a b (λ s es. Unit {0})
grown_on None b grows = grows
grown_on (Some past) None grows = absurd grows
grown_on (Some past) (Some new) grows = record {
  same_first = grows.same_first;
  more = grows.more;
  journal = grows.journal;
  along = tt;
}

among_last : (e : Entry) (actions : List Action) → Among e (map Others actions ++ e ∷ [])
among_last e [] = inl refl
among_last e (action ∷ actions) = inr (among_last e actions)

pub among_left : (e : Entry) (xs ys : List Entry) → Among e xs → Among e (xs ++ ys)
among_left e [] ys held = absurd held
among_left e (x ∷ xs) ys (inl same) = inl same
among_left e (x ∷ xs) ys (inr held) = inr (among_left e xs ys held)

pub among_right : (e : Entry) (xs ys : List Entry) → Among e ys → Among e (xs ++ ys)
among_right e [] ys held = held
among_right e (x ∷ xs) ys held = inr (among_right e xs ys held)

-- a call that was done is among the entries
pub step_among : (v : Unit {0}) (call : Call)
    (wanted : List TreeNode → Result (Unit {0}) DiskError) (a b : Option Past)
    → GoesOn (StepBy (Ok v) call wanted) a b → Grown a b (λ s es. Among (Own call Done) es)
step_among v call wanted a b step =
    grown_map a b _ _ (done_grown v call wanted a b step)
    (λ s es is. subst (Among (Own call Done)) (sym is.1) (among_last (Own call Done) is.0))

-- the same of a call's clause
pub done_among : {v : Unit {0}} {call : Call} {wanted : List TreeNode → Result (Unit {0}) DiskError}
    {a b : Option Past} → Called (Ok v) call wanted a b
    → Grown a b (λ s es. Among (Own call Done) es)
done_among {v} {call} {wanted} {a} {b} took = step_among v call wanted a b took.goes

-- whatever comes behind
pub among_more : (e : Entry) (a b c : Option Past) → Grown a b (λ s es. Among e es) → Grows b c
    → Grown a c (λ s es. Among e es)
among_more e a b c first rest =
    grown_then a b c _ _ _ first (grown_on b c rest)
    (λ s xs ys held any. among_left e xs ys held)

-- whatever came before
pub among_behind : (e : Entry) (a b c : Option Past) → Grows a b
    → Grown b c (λ s es. Among e es) → Grown a c (λ s es. Among e es)
among_behind e a b c first rest =
    grown_then a b c _ _ _ (grown_on a b first) rest
    (λ s xs ys any held. among_right e xs ys held)
