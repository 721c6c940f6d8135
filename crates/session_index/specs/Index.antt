-- The index as its user has it; what it shows is worked out from scratch.
use Rattle.std.specs.Prelude.{◌≡◌, List, Option}
use Rattle.folder_letters.specs.Letters.{Mail}
use Rattle.mail_base.specs.declared.kind.Id.{Id}
use Rattle.people.specs.People.{Alias}
use Rattle.index_view.specs.Answers.{Facts, PlainAnswers}
use Rattle.index_listed.specs.Cursor.{moved, moved_by_shutting}
use Rattle.index_view.specs.View.{IsOf, PlainView, answers_over, facts_of}
use Rattle.session_index.specs.Shown.{seen}

-- what was given, where the cursor stands, and the aliases that were added
pub record PlainIndex : Type 0 where
  pub facts : Facts
  pub cursor : Option Id
  pub aliases : List Alias

-- what is answered over these letters
abbrev pub answers_of : List Mail → PlainIndex → PlainAnswers
answers_of mails i = answers_over mails i.facts

-- the ids that are seen, in order
abbrev pub seen_of : List Mail → PlainIndex → List Id
seen_of mails i = seen (answers_of mails i)

-- other facts; the cursor goes where it has to
abbrev pub given : List Mail → Facts → PlainIndex → PlainIndex
given mails facts i = record {
  facts = facts;
  cursor = moved (seen_of mails i) (seen (answers_over mails facts)) i.cursor;
  aliases = i.aliases;
}

-- the same where threads were shut or opened
abbrev pub folded : List Mail → Facts → PlainIndex → PlainIndex
folded mails facts i = record {
  facts = facts;
  cursor = moved_by_shutting (answers_over mails facts).sight (seen_of mails i)
      (seen (answers_over mails facts)) i.cursor;
  aliases = i.aliases;
}

-- a view without what it answers
abbrev pub index_of : PlainView → PlainIndex
index_of v = record { facts = facts_of v; cursor = v.cursor; aliases = v.aliases }

-- a view of this index over these letters
pub record Shows (mails : List Mail) (i : PlainIndex) (v : PlainView) : Type 0 where
  pub is_of : IsOf mails v
  pub same : index_of v ≡ i
