-- What is done to messages.
use Rattle.std.specs.Prelude.{List, [], ◌∷◌}
use Rattle.folder_letters.specs.Letters.{Mail}
use Rattle.mail_base.specs.declared.kind.Id.{Id}
use Rattle.index_items.specs.Acts.{acted as acted_item, acted_all as all_acted_items}
use Rattle.index_items.specs.Alteration.{alter_at}
use Rattle.index_items.specs.declared.act.Act.{Act}
use Rattle.session_index.specs.Index.{PlainIndex, answers_of, given}

-- this is done to the message with an id, if it is listed
abbrev pub acted : List Mail → Act → Id → PlainIndex → PlainIndex
acted mails act id i = given mails
    (record i.facts { items = alter_at id (acted_item act) i.facts.items }) i

-- the same is done to messages, one after the other
abbrev pub acted_all : List Mail → Act → List Id → PlainIndex → PlainIndex
acted_all mails act [] i = i
acted_all mails act (id ∷ ids) i = acted_all mails act ids (acted mails act id i)

-- this is done to all messages at once
abbrev pub all_acted : List Mail → Act → PlainIndex → PlainIndex
all_acted mails act i = given mails (record i.facts {
  items = all_acted_items act (answers_of mails i).sight.order i.facts.items;
}) i
