use Rattle.std.proofs.Common.{◌∙◌, ap, map}
use Rattle.folder_letters.specs.Letters.{plain_letter}
use Rattle.headers.specs.Header.{plain_header}
use Rattle.index_view.specs.Answers.{facts}
use Rattle.index_view.specs.View.{PlainView, answers_over, facts_of}
use Rattle.index_view.proofs.JudgingLemmas.{judged}
use Rattle.index_view.proofs.view.View.judge.Goals as goal

pub returns-clause-ok : goal.returns-clause-ok
returns-clause-ok c =
    let mails = map plain_letter c.args.archive.now.items in
    let inside = c.self.inside in
    let same = c.in_ok-answers.ensures.same in
    judged mails c.args.self.now _ _ c.in_ok-answers.answers c.requires.heads c.requires.within
    c.requires.apart (c.in_ok-answers.ensures.value
    ∙ (λ i. answers_over mails (record (facts inside.options c.as_slice.result.now inside.tables)
    { items = c.as_slice.ensures i }))
    ∙ ap (λ (v : PlainView). answers_over mails (facts_of v)) c.self.view_is)
    ((λ i. record {
      options = inside.options;
      items = inside.items;
      people = (same i).people;
      scores = (same i).scores.entries.items;
      limit = (same i).limit;
      heads = map plain_header inside.heads.items;
      answers = inside.answers;
      cursor = inside.cursor;
      aliases = inside.aliases.aliases;
    }) ∙ c.self.view_is) c.turn.ensures
