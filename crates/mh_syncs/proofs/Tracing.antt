-- Why calls were refused, traced back over earlier calls of ours.
use Rattle.std.proofs.Common.{◌≡◌, ◌≤◌, ◌⊎◌, ◌∙◌, ℕ, Bool, true, false, List, Option, ap, arith}
use Rattle.std.proofs.Common.{drop, inl, inr, is_some, length, ltb-true, nat_lt, refl, take, ◌+◌}
use Rattle.disk_model.specs.Journal.{Call, Past}
use Rattle.disk_model.specs.Judge.{IsLonger}
use Rattle.disk_model.specs.Refusals.{refusal}
use Rattle.disk_model.specs.State.{tree_at}
use Rattle.disk_model.specs.Tree.{TreeNode}
use Rattle.disk_model.specs.declared.answers.DiskError.{DiskError}
use Rattle.folder_changes.specs.Calls.{GoesBy}
use Rattle.folder_changes.specs.Refused.{StepRefused, refuses}
use Rattle.folder_changes.specs.Worked.{WasCause, others_at}
use Rattle.folder_changes.proofs.TraceLemmas.{IsUnmade, MetRefusal, Traced, met_traced}
use Rattle.folder_changes.proofs.TraceLemmas.{traced_earlier}

not_less : (i j : ℕ) → nat_lt i j ≡ false → j ≤ i
not_less i j is = grind (arith, is)

-- so it is from an earlier mark on, where at the first mark it was, if it was so there
pub traced_over : (is_so : List TreeNode → Bool) (m k n mark : ℕ) (past : Past) → m ≤ k
    → Traced is_so k n mark past
    → (is_so (tree_at past k) ≡ true → Traced is_so m n k past)
    → Traced is_so m n mark past
traced_over is_so m k n mark past low traced before = by traced.cause.whose
  where
    was : WasCause is_so k n past
    was = traced.cause

    by : (was.since ≡ k)
        ⊎ ((b : ℕ) × (was.since ≡ b + 1) × (others_at b past ≡ true))
        → Traced is_so m n mark past
    by (inr whose) = record {
      cause = record {
        since = was.since;
        mark = was.mark;
        from = omega (arith, low, was.from);
        on = was.on;
        to = was.to;
        stands = was.stands;
        whose = inr whose;
      };
      same = traced.same;
    }
    by (inl first) = joined (before (was.stands k (omega (arith, first)) here))
      where
        here : k ≤ was.mark
        here = omega (arith, first, was.on)

        joined : Traced is_so m n k past → Traced is_so m n mark past
        joined early = record {
          cause = record {
            since = early.cause.since;
            mark = was.mark;
            from = early.cause.from;
            on = omega (arith, early.cause.on, early.same, here);
            to = was.to;
            stands = λ x from to. at x from to (nat_lt x k) refl;
            whose = early.cause.whose;
          };
          same = traced.same;
        }
          where
            at : (x : ℕ) → early.cause.since ≤ x → x ≤ was.mark → (t : Bool) → nat_lt x k ≡ t
                → is_so (tree_at past x) ≡ true
            at x from to true is = early.cause.stands x from
                (omega (arith, early.same, ltb-true x k is))
            at x from to false is = was.stands x
                (omega (arith, first, not_less x k is)) to

-- a weaker state has the cause of a stronger one
pub traced_as : (is_so also : List TreeNode → Bool) (m n mark : ℕ) (past : Past)
    → ((tree : List TreeNode) → is_so tree ≡ true → also tree ≡ true)
    → Traced is_so m n mark past → Traced also m n mark past
traced_as is_so also m n mark past weaker traced = record {
  cause = record {
    since = traced.cause.since;
    mark = traced.cause.mark;
    from = traced.cause.from;
    on = traced.cause.on;
    to = traced.cause.to;
    stands = λ k from to. weaker (tree_at past k) (traced.cause.stands k from to);
    whose = traced.cause.whose;
  };
  same = traced.same;
}

-- A call that was refused for a state that was traced back.
pub traced_step : (Needs : Call → Type 0) (why : DiskError) (call : Call) (old new : Past) (m : ℕ)
    → Needs call → (met : MetRefusal why call old new)
    → Traced (refuses call) m (length new.journal) met.mark new
    → StepRefused Needs m (length new.journal) new
traced_step Needs why call old new m needs met traced = record {
  call = call;
  needs = needs;
  why = why;
  refused = traced.cause;
  asked = ap (λ (i : ℕ). refusal call (tree_at new i)) traced.same ∙ met.met;
  own = ap (λ (i : ℕ). take 1 (drop i new.journal)) traced.same ∙ met.own;
}

-- behind calls that do not bring it about
pub met_behind : (Is : Call → Type 0) (why : DiskError) (call : Call) (old mid new : Past)
    → IsUnmade Is (refuses call) → GoesBy Is old mid → IsLonger mid new
    → (met : MetRefusal why call mid new)
    → Traced (refuses call) (length old.journal) (length new.journal) met.mark new
met_behind Is why call old mid new unmade goes on met =
    traced_earlier Is (refuses call) old mid new (length new.journal) met.mark unmade goes on
    (met_traced (refuses call) why call mid new met
    (λ tree is. ap (λ (w : Option DiskError). is_some w) is))
