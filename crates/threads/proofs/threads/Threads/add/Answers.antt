use Rattle.std.proofs.Common.{◌≡◌, ◌∙◌, ◌++◌, ◌∷◌, [], None, Some, false, ap, is_some}
use Rattle.std.proofs.Common.{nat_eq, sym}
use Rattle.std.specs.Prelude.{if◌then◌else◌, Option}
use Rattle.std.specs.List.{list_any}
use Rattle.std.proofs.lemmas.Bool.{false≢true}
use Rattle.std.proofs.lemmas.List.{map_push}
use Rattle.threads.specs.Message.{PlainMessage, numbers, plain_message, plain_messages}
use Rattle.threads.specs.Threads.{place_of}
use Rattle.threads.specs.declared.threads.Found.{Found}
use Rattle.threads.proofs.FoundLemmas.{absent_number}
use Rattle.threads.proofs.threads.Threads.add.Goals as goal

nothing_found : (o : Option Found) (f : Found) → is_some o ≡ false → o ≡ Some f → ⊥
nothing_found None f e is = cc
nothing_found (Some g) f e is = false≢true (sym e)

pub invariant_of-self-2 : goal.invariant_of-self-2
invariant_of-self-2 c =
    let old = c.self.inside.messages.items in
    let ms = plain_messages old in
    let kept = c.in_ok-kept.kept in
    let absent : place_of ms c.args.id
    ≡ None = ap (λ t. place_of t.messages c.args.id) c.self.view_is ∙ c.requires.absent in
    let items : c.push_reserved.new.self.items ≡ old ++ kept ∷ [] =
    c.push_reserved.ensures.items ∙ ap (λ l. l ++ kept ∷ []) c.in_ok-reserve.ensures.items in
    let all : numbers (plain_messages c.push_reserved.new.self.items)
    ≡ numbers ms ++ c.args.id.0 ∷ [] =
    ap (λ l. numbers (plain_messages l)) items
    ∙ ap numbers (map_push plain_message old kept)
    ∙ map_push (λ (m : PlainMessage). m.id.0) ms (plain_message kept)
    ∙ ap (λ (m : PlainMessage). numbers ms ++ m.id.0 ∷ []) c.in_ok-kept.ensures in
    record {
      the_numbers = c.in_ok-insert.ensures.keys
          ∙ ap (λ l. if list_any (nat_eq c.args.id.0) l then l else l ++ c.args.id.0 ∷ [])
          c.self.invariant.the_numbers
          ∙ ap (λ b. if b then numbers ms else numbers ms ++ c.args.id.0 ∷ []) (absent_number
          (numbers ms) c.args.id.0 absent)
          ∙ sym all;
      distinct = c.in_ok-insert.ensures.unique;
      worked_out = λ f is. absurd (nothing_found c.self.inside.found f
          (ap (λ t. t.is_finished) c.self.view_is ∙ c.requires.open) is);
    }
