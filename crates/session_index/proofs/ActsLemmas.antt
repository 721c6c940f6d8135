-- Where no act changes what is seen, acts one after the other are one change.
use Rattle.std.proofs.Common.{◌≡◌, ◌∙◌, List, [], ◌∷◌, Option, ap, subst, sym}
use Rattle.folder_letters.specs.Letters.{Mail}
use Rattle.mail_base.specs.declared.kind.Id.{Id}
use Rattle.index_items.specs.Acts.{acted_all as all_acted_items}
use Rattle.index_items.specs.declared.act.Act.{Act}
use Rattle.index_listed.specs.Cursor.{Stands, moved}
use Rattle.index_view.specs.Answers.{Facts}
use Rattle.index_view.specs.View.{answers_over}
use Rattle.index_view.specs.Staying.{touched}
use Rattle.index_view.proofs.RemarkLemmas.{seen_acted, stays_put}
use Rattle.index_view.proofs.StillLemmas.{AreBlind, IsBlind}
use Rattle.session_index.specs.Acts.{acted, acted_all}
use Rattle.session_index.specs.Index.{PlainIndex, given, seen_of}
use Rattle.session_index.specs.Shown.{seen}

module _ (mails : List Mail) (act : Act) where
  -- all of them at once
  abbrev at_once : List Id → PlainIndex → PlainIndex
  at_once ids i =
      given mails (record i.facts { items = all_acted_items act ids i.facts.items }) i

  pub acted_at_once : (ids : List Id) (i : PlainIndex) → IsBlind (touched act) i.facts.limit
      → AreBlind i.facts.scores → Stands (seen_of mails i) i.cursor
      → acted_all mails act ids i ≡ at_once ids i
  acted_at_once [] i blind scores stands =
      λ k. record i { cursor = sym (stays_put (seen_of mails i) i.cursor stands) k }
  acted_at_once (id ∷ ids) i blind scores stands =
      let j = acted mails act id i in
      let same : seen_of mails j ≡ seen_of mails i =
      seen_acted mails i.facts act id blind scores in
      let cursor : j.cursor ≡ i.cursor =
      ap (λ (ids : List Id). moved (seen_of mails i) ids i.cursor) same
      ∙ stays_put (seen_of mails i) i.cursor stands in
      let stood : Stands (seen_of mails j) j.cursor =
      subst (λ (c : Option Id). Stands (seen_of mails j) c) (sym cursor)
      (subst (λ (ids : List Id). Stands ids i.cursor) (sym same) stands) in
      let facts : Facts = record i.facts {
        items = all_acted_items act (id ∷ ids) i.facts.items;
      } in
      acted_at_once ids j blind scores stood
      ∙ (λ k. record {
        facts = facts;
        cursor = moved (same k) (seen (answers_over mails facts)) (cursor k);
        aliases = i.aliases;
      })
