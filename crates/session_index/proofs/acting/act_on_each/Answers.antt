use Rattle.std.proofs.Common.{◌∙◌, ap, map, sym}
use Rattle.folder_letters.specs.Letters.{plain_letter}
use Rattle.session_index.specs.Acts.{acted_all}
use Rattle.session_index.specs.Index.{index_of}
use Rattle.session_index.proofs.IndexLemmas.{turned_shows}
use Rattle.session_index.proofs.acting.act_on_each.Goals as goal

pub loop-first-preserved : goal.loop-first-preserved
loop-first-preserved c =
    let mails = map plain_letter c.args.archive.now.items in
    let v = c.loop-first.view in
    let act = c.args.act in
    let shows = turned_shows mails v c.act_on.new.self _ c.loop-first.invariant.is_of
    c.in_ok-act_on.ensures.ok in
    record {
      is_of = shows.is_of;
      same = ap (acted_all mails act c.in-Some.rest.now) shows.same
          ∙ ap (λ ids. acted_all mails act ids (index_of v)) (sym c.in-Some.ensures.cases.0)
          ∙ c.loop-first.invariant.same;
    }
