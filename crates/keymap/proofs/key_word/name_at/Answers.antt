use Rattle.std.proofs.Common.{◌∙◌, ap, option_map}
use Rattle.keymap.specs.KeyWords.{begins_alike, key_names, plain_name}
use Rattle.keymap.proofs.TableLemmas.{same_found}
use Rattle.keymap.proofs.key_word.name_at.Goals as goal

pub returns : goal.returns
returns c =
    ap (option_map plain_name) c.name_in.ensures
    ∙ same_found (λ n. begins_alike c.args.text.now n.name) plain_name c.names.result.now key_names
    c.names.ensures
