use Rattle.std.proofs.Common.{ℕ, ◌≤◌, List, length, take, ap, sym, subst, ◌∙◌}
use Rattle.std.specs.List.{list_all}
use Rattle.pager.specs.Inner.{is_printable}
use Rattle.pager.proofs.PrintableLemmas.{printable_cut}
use Rattle.pager.proofs.breaker.split_printable.Goals as goal

pub split_at-requires : goal.split_at-requires
split_at-requires c =
    let same = c.as_bytes.ensures.value in
    let k = c.printable_len.result in
    printable_cut c.args.text.now k c.utf8.text
    (subst (λ (t : List ℕ). k ≤ length t) same c.printable_len.ensures.within)
    (ap (λ (t : List ℕ). list_all is_printable (take k t)) (sym same)
    ∙ c.printable_len.ensures.printable)
