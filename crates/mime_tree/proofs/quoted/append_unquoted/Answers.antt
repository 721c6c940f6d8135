use Rattle.std.proofs.Common.{Some, None, List, ℕ, [], ◌∷◌, ◌++◌, sym, ap, ◌∙◌, append_assoc}
use Rattle.mime_tree.specs.Quoted.{escaped_byte, unquoted}
use Rattle.mime_tree.proofs.QuotedLemmas.{unquoted-split_once}
use Rattle.mime_tree.proofs.quoted.append_unquoted.Goals as goal

pub loop-plain-preserved : goal.loop-plain-preserved
loop-plain-preserved c =
    let bytes = c.loop-plain.bytes.items in
    let left = c.loop-plain.left.now in
    let plain = c.in-Some.plain.now in
    let byte = (escaped_byte c.in-Some.rest.now).0 in
    let rest = c.escaped_byte-byte.result.1.now in
    let cut = unquoted-split_once left (Some (plain, c.in-Some.rest.now)) c.in-Some.ensures.value in
    ap (λ (l : List ℕ). l ++ unquoted rest)
    (c.in_ok-push.ensures.ok
    ∙ ap (λ (b : ℕ). c.append.new.self.items ++ b ∷ []) c.escaped_byte-byte.ensures.byte
    ∙ ap (λ (l : List ℕ). l ++ byte ∷ []) c.in_ok-append.ensures.ok)
    ∙ append_assoc (bytes ++ plain) (byte ∷ []) (unquoted rest)
    ∙ append_assoc bytes plain (byte ∷ unquoted rest)
    ∙ ap (λ (t : List ℕ). bytes ++ (plain ++ byte ∷ t)) (sym c.escaped_byte-byte.ensures.text)
    ∙ ap (λ (t : List ℕ). bytes ++ t) (sym cut)
    ∙ c.loop-plain.invariant

pub returns : goal.returns
returns c =
    let bytes = c.loop-plain.bytes.items in
    let left = c.loop-plain.left.now in
    c.in_ok-append-2.ensures.ok
    ∙ ap (λ (t : List ℕ). bytes ++ t)
    (sym (unquoted-split_once left None c.in_default.ensures.value))
    ∙ c.loop-plain.invariant
