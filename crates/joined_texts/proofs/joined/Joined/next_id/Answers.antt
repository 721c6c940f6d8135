use Rattle.std.proofs.Common.{◌∙◌, ◌∷◌, length, sym, ap, arith}
use Rattle.headers.specs.Ids.{ids}
use Rattle.joined_texts.specs.Joined.{whole}
use Rattle.joined_texts.proofs.IdsLemmas.{behind_shorter, ids_none, ids_open, ids_some}
use Rattle.joined_texts.proofs.joined.Joined.next_id.Goals as goal

pub returns-then-first-eq60-clause-some : goal.returns-then-first-eq60-clause-some
returns-then-first-eq60-clause-some c =
    let behind = whole c.in-Some-behind_first.behind in
    ids_some (whole c.args.self) (whole c.loop-first.text) (whole c.in-Some.rest) behind
    c.in-Some.first c.if-first-eq60.true c.in-Some.ensures.some c.loop-first.invariant.same
    (sym c.in-Some-behind_first.ensures)
    ∙ ap (λ l. l ∷ ids behind) (sym c.up_to.ensures)

pub returns-then-first-eq60-clause-shorter : goal.returns-then-first-eq60-clause-shorter
returns-then-first-eq60-clause-shorter c =
    let behind = whole c.in-Some-behind_first.behind in
    let short = behind_shorter 62 (whole c.in-Some.rest) behind
    (sym c.in-Some-behind_first.ensures) in
    omega (arith, c.loop-first.invariant.within, ap length c.in-Some.ensures.some, short)

pub returns-clause-none : goal.returns-clause-none
returns-clause-none c =
    ids_none (whole c.args.self) (whole c.loop-first.text) c.in_default.ensures.none
    c.loop-first.invariant.same

pub returns-in_default-behind_first-clause-none : goal.returns-in_default-behind_first-clause-none
returns-in_default-behind_first-clause-none c =
    ids_open (whole c.args.self) (whole c.loop-first.text) (whole c.in-Some.rest)
    c.in-Some.first c.if-first-eq60.true c.in-Some.ensures.some c.loop-first.invariant.same
    (sym c.in_default-behind_first.ensures)
