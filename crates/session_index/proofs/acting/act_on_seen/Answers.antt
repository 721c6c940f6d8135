use Rattle.std.proofs.Common.{◌≡◌, ◌∙◌, ap, map, subst, sym}
use Rattle.std.specs.List.{count_by}
use Rattle.folder_letters.specs.Letters.{plain_letter}
use Rattle.index_listed.specs.Cursor.{at_or_last, is_seen}
use Rattle.index_view.specs.View.{IsOf, visible_of}
use Rattle.session_index.specs.Acts.{acted_all}
use Rattle.session_index.specs.Hiding.{before_cursor}
use Rattle.session_index.specs.Index.{Shows, index_of}
use Rattle.session_index.proofs.HidingLemmas.{shows_at, shows_nowhere}
use Rattle.session_index.proofs.acting.act_on_seen.Goals as goal
use Rattle.session_index.proofs.acting.act_on_seen.Goals.{in-Some, in_default}

pub returns : goal.returns
returns c =
    let mails = map plain_letter c.args.archive.now.items in
    let v = c.args.view.now in
    let w = c.act_on.new.self in
    let before = before_cursor (visible_of v) v.cursor in
    let kept : c.count_seen-place.result ≡ count_by (is_seen (visible_of w)) before =
    c.count_seen-place.ensures
    ∙ ap (count_by (is_seen (visible_of w))) (c.deref.ensures.value ∙ c.in_ok-before.ensures) in
    let seen : c.as_slice.result.now ≡ visible_of w = c.as_slice.ensures ∙ c.visible.ensures in
    let lands : c.at_or_last.result
    ≡ at_or_last (visible_of w) (count_by (is_seen (visible_of w)) before) =
    c.at_or_last.ensures ∙ (λ k. at_or_last (seen k) (kept k)) in
    let turned = c.in_ok-act_on.ensures.ok in
    let shows = Shows mails (acted_all mails c.args.act c.args.ids.now (index_of v)) in
    elim c.match-at_or_last.branch [
      | in-Some branch ↦ subst shows
          (sym (branch.view-is ∙ branch.move_to.ensures.moved))
          (shows_at mails c.args.act c.args.ids.now v w c.requires.is_of c.requires.alone
          c.requires.apart turned branch.in-Some.id (sym lands ∙ branch.in-Some.is)
          (subst (IsOf mails) branch.move_to.ensures.moved
          (branch.move_to.ensures.is_of mails turned.is_of)))
      | in_default branch ↦ subst shows (sym branch.view-is)
          (shows_nowhere mails c.args.act c.args.ids.now v w c.requires.is_of c.requires.alone
          c.requires.apart turned (sym lands ∙ branch.in_default.is))
    ]
