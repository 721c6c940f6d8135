use Rattle.std.proofs.Common.{List, ℕ, ◌++◌, ◌∙◌, ap, codes, filter, map, refl, option_map}
use Rattle.std.proofs.Common.{option_to_list}
use Rattle.mail_base.specs.Series.{plain_texts}
use Rattle.headers.specs.Decode.{decoded_words}
use Rattle.headers.specs.Field.{plain_field}
use Rattle.headers.specs.Subject.{base_of}
use Rattle.headers.specs.Values.{references, subject}
use Rattle.drafts.specs.Clean.{clean}
use Rattle.drafts.specs.PlainDraft.{can_be, is_id}
use Rattle.drafts.specs.Reply.{ids_before, kept_id, own_id, replied_to}
use Rattle.drafts.proofs.ReplyLemmas.{drafted_same, reply_can}
use Rattle.drafts.proofs.reply.reply_with.Goals as goal

pub invariant_of-result : goal.invariant_of-result
invariant_of-result c =
    let fields = map plain_field c.args.fields.now in
    let body = plain_texts c.args.body in record {
      may_be = ap can_be
          (drafted_same c.in_ok-to_of.field-0.items (clean (decoded_words (replied_to fields)))
          c.in_ok-subject_of.field-0.items (clean (codes "Re: " ++ base_of (subject fields)))
          (option_map (λ id. id.items) c.in_ok-kept_id.field-0) (kept_id (own_id fields))
          (plain_texts c.in_ok-ids_before.field-0) (filter is_id (ids_before fields)) body body
          c.in_ok-to_of.ensures
          (c.in_ok-subject_of.ensures
          ∙ ap (λ (l : List ℕ). clean (codes "Re: " ++ l)) c.requires.subject)
          (c.in_ok-kept_id.ensures ∙ ap kept_id c.requires.own)
          (c.in_ok-ids_before.ensures
          ∙ ap (λ o. filter is_id (references fields ++ option_to_list o)) c.requires.own)
          refl)
          ∙ reply_can fields body c.requires.body;
    }
