-- Drafts as contracts see them.
use Rattle.std.specs.Prelude.{option_map}
use Rattle.mail_base.specs.Series.{plain_texts}
use Rattle.drafts.specs.PlainDraft.{PlainDraft}
use Rattle.drafts.specs.declared.draft.Draft.{Draft}

-- a draft without the rooms of its texts
abbrev pub plain_draft : Draft → PlainDraft
plain_draft d = record {
  to = d.to.items;
  subject = d.subject.items;
  in_reply_to = option_map (λ id. id.items) d.in_reply_to;
  references = plain_texts d.references;
  body = plain_texts d.body;
}
