use Rattle.std.proofs.Common.{◌∙◌, ap, option_map}
use Rattle.keymap.specs.Stream.{begins, forms, plain_form}
use Rattle.keymap.proofs.TableLemmas.{same_found}
use Rattle.keymap.proofs.escape.Form.find.Goals as goal

pub returns : goal.returns
returns c =
    ap (option_map plain_form) c.form_in.ensures
    ∙ same_found (λ f. begins c.args.bytes.now f.text) plain_form c.forms.result.now forms
    c.forms.ensures
