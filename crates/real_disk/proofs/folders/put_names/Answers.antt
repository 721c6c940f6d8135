use Rattle.std.proofs.Common.{◌∙◌, List, ℕ, subst, sym}
use Rattle.std.specs.Str.{IsUtf8}
use Rattle.mail_base.specs.Series.{Held}
use Rattle.disk_model.specs.Answers.{AreText}
use Rattle.disk_model.proofs.Texts.{AreText-push}
use Rattle.real_disk.proofs.folders.put_names.Goals as goal

pub loop-name-preserved : goal.loop-name-preserved
loop-name-preserved c =
    subst (λ (names : List (Held ℕ)). AreText names) (sym c.in_ok-push.ensures.ok)
    (AreText-push c.loop-name.put.items c.in_ok-copy_of.field-0 c.loop-name.invariant
    (subst (λ (l : List ℕ). IsUtf8 l) (sym (c.in_ok-copy_of.ensures ∙ c.as_bytes.ensures.value))
    c.as_str.utf8))
