use Rattle.std.proofs.Common.{◌≡◌, List, ℕ, ◌++◌, sym, subst, ◌∙◌, OnOk}
use Rattle.mime_tree.proofs.Base64Lemmas.{filter_above}
use Rattle.mime_tree.proofs.base64_body.append_solid.Goals as goal

pub returns-then-is_above_blank : goal.returns-then-is_above_blank
returns-then-is_above_blank c =
    let all = sym c.is_above_blank.ensures ∙ c.if-is_above_blank.true in
    subst (λ (t : List ℕ). OnOk c.append.result (c.append.new.self.items
    ≡ c.args.solid.now.items ++ t)) (sym (filter_above c.args.text.now all)) c.append.ensures.ok
