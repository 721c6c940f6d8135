use Rattle.std.proofs.Common.{◌∙◌, ◌&&◌, length}
use Rattle.std.specs.Prelude.{nat_lt}
use Rattle.keymap.specs.Stream.{begins, forms, plain_form}
use Rattle.keymap.proofs.TableLemmas.{same_any}
use Rattle.keymap.proofs.escape.is_in_form.Goals as goal

pub returns : goal.returns
returns c =
    let bytes = c.args.bytes.now in
    c.some_goes_on.ensures
    ∙ same_any (λ f. nat_lt (length bytes) (length f.text) && begins f.text bytes) plain_form
    c.forms.result.now forms c.forms.ensures
