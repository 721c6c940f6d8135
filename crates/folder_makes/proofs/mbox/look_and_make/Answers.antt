use Rattle.std.proofs.Common.{◌≡◌, ◌∙◌, Err, Ok, ap, false, sym, true}
use Rattle.folder_core.specs.Mbox.{begins_mailbox}
use Rattle.folder_drivers.specs.Refusing.{IsAny}
use Rattle.folder_makes.specs.Parts.{IsAt, Nowhere}
use Rattle.folder_makes.proofs.MboxKept.{ends_if, ends_read}
use Rattle.folder_makes.proofs.MboxMade.{looked_if, made_if}
use Rattle.folder_makes.proofs.MboxParts.{look_refused, look_then, tries, unfit}
use Rattle.folder_makes.proofs.MboxRead.{made_file, met_file}
use Rattle.folder_makes.proofs.Parting.{part_met}
use Rattle.folder_makes.proofs.mbox.look_and_make.Goals as goal

pub returns-then-is_mailbox : goal.returns-then-is_mailbox
returns-then-is_mailbox g c =
    let path = c.args.path.now in
    let step = c.in-Ok.ensures.0 in
    let read = c.in-Ok.read in
    let is : begins_mailbox read.bytes.items ≡ true =
    ap begins_mailbox (sym c.as_slice.ensures) ∙ sym c.is_mailbox.ensures ∙ c.if-is_mailbox.true in
    tries path (Ok tt)
    (part_met Nowhere (IsAt path) IsAny tt (Ok (read.stat, read.bytes.items)) tt step)
    (made_file path _ step.called is) (met_file path _ step.called true is)
    (ends_read path _ step.called)

pub returns-in-Ok : goal.returns-in-Ok
returns-in-Ok g c =
    let path = c.args.path.now in
    let step = c.in-Ok.ensures.0 in
    let read = c.in-Ok.read in
    let is : begins_mailbox read.bytes.items ≡ false =
    ap begins_mailbox (sym c.as_slice.ensures) ∙ sym c.is_mailbox.ensures ∙ c.if-is_mailbox.false in
    unfit path (part_met Nowhere (IsAt path) IsAny tt (Ok (read.stat, read.bytes.items)) tt step)
    (met_file path _ step.called false is)

pub returns-in-Err-Missing : goal.returns-in-Err-Missing
returns-in-Err-Missing g c =
    let path = c.args.path.now in
    let why = c.in-Err-Missing.field-0 in
    let step = c.in-Err-Missing.ensures.0 in
    let made = c.make_file.ensures in
    let look = part_met Nowhere Nowhere IsAny tt (Err why) tt step in
    tries path c.make_file.result (look_then path c.make_file.result look made.part)
    (made_if path _ why _ _ c.in-Err-Missing.field-0-is step.called c.make_file.result _ made.there)
    (looked_if path _ why _ _ c.in-Err-Missing.field-0-is step.called c.make_file.result _
    made.around)
    (ends_if path c.make_file.result _ _ _ look.calls made.kept)

pub returns : goal.returns
returns g c = let path = c.args.path.now in
    tries path (Err c.from.result)
    (look_refused path _ c.in-Err.why c.from.result c.from.ensures c.in-Err.ensures.0) tt tt tt
