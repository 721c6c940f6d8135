use Rattle.std.proofs.Common.{◌≡◌, ◌∙◌, ap, length, map, sym, take}
use Rattle.std.proofs.lemmas.List.{length-map, take-map}
use Rattle.headers.specs.Header.{plain_header}
use Rattle.std.proofs.lemmas.Result.{on_err_weaker}
use Rattle.index_view.specs.View.{PlainView}
use Rattle.index_view.proofs.view.View.take_delta.Goals as goal

pub returns-then-is_err-clause-err : goal.returns-then-is_err-clause-err
returns-then-is_err-clause-err c =
    let old = c.args.self.now in
    let more = c.self-2.inside.heads.items in
    let known : c.len-known.result ≡ length old.heads = c.len-known.ensures
    ∙ c.self.inside.heads.ok.0 ∙ sym (length-map c.self.inside.heads.items plain_header)
    ∙ ap (λ (v : PlainView). length v.heads) c.self.view_is in
    on_err_weaker c.join-joined.result (λ with.
    let heads = ap (map plain_header) c.truncate.ensures.items
    ∙ sym (take-map plain_header c.len-known.result more)
    ∙ (λ i. take (known i) (c.self-2.view_is i).heads) ∙ with.front in
    (λ i. record (c.self-2.view_is i) { heads = heads i }) ∙ sym with.same)
    c.join-joined.ensures.err
