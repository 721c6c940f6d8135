use Rattle.mail_base.specs.Series.{plain_texts}
use Rattle.drafts.proofs.LoopLemmas.{pieces_end, pieces_on, texts_push}
use Rattle.drafts.proofs.reader.ids_of.Goals as goal

pub loop-id-preserved : goal.loop-id-preserved
loop-id-preserved c =
    pieces_on (plain_texts c.loop-id.names) (plain_texts c.push.new.self)
    c.in-Some-split_once.id.now c.in-Some-split_once.rest.now c.loop-id.left.now _
    (texts_push c.loop-id.names.items c.in_ok-copy_of.field-0 c.in-Some-split_once.id.now
    c.push.new.self.items c.in_ok-push.ensures.ok c.in_ok-copy_of.ensures)
    c.in-Some-split_once.ensures.value c.loop-id.invariant

pub returns : goal.returns
returns c =
    rw c.in-Some.is
    (pieces_end (plain_texts c.loop-id.names) (plain_texts c.push-2.new.self) c.loop-id.left.now _
    (texts_push c.loop-id.names.items c.in_ok-copy_of-2.field-0 c.loop-id.left.now
    c.push-2.new.self.items c.in_ok-push-2.ensures.ok c.in_ok-copy_of-2.ensures)
    c.in_default-split_once.ensures.value c.loop-id.invariant)
