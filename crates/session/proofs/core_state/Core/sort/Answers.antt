use Rattle.std.proofs.Common.{◌∙◌, List, ap, map, ℕ}
use Rattle.std.proofs.lemmas.Result.{on_ok_weaker}
use Rattle.folder_letters.specs.Letters.{plain_letter}
use Rattle.rc_lang.specs.Settings.{outcome}
use Rattle.session_state.specs.Rules.{PlainRules}
use Rattle.session.specs.Answers.{tuned}
use Rattle.session.specs.Core.{CoreState, plain_core}
use Rattle.session.proofs.CoreLemmas.{stands_as}
use Rattle.session.proofs.core_state.Core.sort.Goals as goal

pub returns : goal.returns
returns c =
    let mails = map plain_letter c.args.archive.now.items in
    let old = plain_core c.args.self.now in
    let rules = c.in_ok-set_by.ensures ∙ ap (λ (words : List (List ℕ)). record old.rules {
      settings = (outcome old.rules.settings words).values;
    }) c.in_ok-words.ensures in
    on_ok_weaker c.tune.result (λ stands. stands_as mails _ _ _
    (ap (tuned mails) (ap (λ (r : PlainRules). let n : CoreState = record old { rules = r } in n)
    rules)) stands) c.tune.ensures
