use Rattle.mail_base.proofs.Texts.{utf8_longer}
use Rattle.mail_base.proofs.line.Line.append_bytes.Goals as goal

pub invariant_of-self-2 : goal.invariant_of-self-2
invariant_of-self-2 c = utf8_longer _ _ _ c.in_ok-append.ensures.ok c.self.invariant c.requires
