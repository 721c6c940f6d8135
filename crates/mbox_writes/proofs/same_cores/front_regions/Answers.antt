use Rattle.std.proofs.Common.{◌≡◌, Err, List, subst, sym, ap}
use Rattle.std.specs.Prelude.{IfOk}
use Rattle.folder_core.specs.declared.region.Region.{Region}
use Rattle.mbox_writes.proofs.FrontLemmas.{one_line}
use Rattle.mbox_writes.proofs.same_cores.front_regions.Goals as goal

pub returns-in-Err-NotMailbox : goal.returns-in-Err-NotMailbox
returns-in-Err-NotMailbox c =
    let known = c.args.known.now in
    let none = c.in-Err-NotMailbox.ensures.not_mailbox
    (ap (λ e. Err e) c.in-Err-NotMailbox.field-0-is) in
    subst (λ (l : List Region). IfOk c.one_region.result (λ r. r.items ≡ l))
    (sym (one_line known c.args.bytes.now c.requires.front c.requires.mailbox none))
    c.one_region.ensures
