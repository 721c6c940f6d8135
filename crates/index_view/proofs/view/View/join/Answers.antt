use Rattle.std.proofs.Common.{◌≡◌, ◌∙◌, List, ap, length, map, subst, sym}
use Rattle.std.proofs.lemmas.List.{length-map}
use Rattle.folder_letters.specs.Letters.{plain_letter}
use Rattle.headers.specs.Header.{plain_header}
use Rattle.std.proofs.lemmas.Result.{on_err_weaker}
use Rattle.index_items.specs.Found.{IsJoined}
use Rattle.index_items.specs.Items.{PlainItem, numbers, plain_items}
use Rattle.index_listed.specs.Heads.{AreWithin}
use Rattle.index_view.specs.View.{PlainView}
use Rattle.index_view.proofs.ItemLemmas.{joined_apart}
use Rattle.index_view.proofs.JoinLemmas.{all_within_archive, heads_kept, on_any}
use Rattle.index_view.proofs.JoinLemmas.{with_more}
use Rattle.index_view.proofs.view.View.join.Goals as goal

pub returns-in_err-read_heads-clause-err : goal.returns-in_err-read_heads-clause-err
returns-in_err-read_heads-clause-err c =
    let heads = map plain_header c.read_heads.new.heads.items in
    on_any c.from_residual.result (with_more c.args.self.now _ heads
    (λ i. record (c.self.view_is i) { heads = heads })
    (heads_kept c.self.inside.heads.items c.read_heads.new.heads.items c.args.self.now.heads
    (ap (λ (v : PlainView). v.heads) c.self.view_is) c.read_heads.ensures.kept))

pub returns-in_err-items-clause-err : goal.returns-in_err-items-clause-err
returns-in_err-items-clause-err c =
    let heads = map plain_header c.read_heads.new.heads.items in
    on_any c.from_residual-in_err-items.result (with_more c.args.self.now _ heads
    (λ i. record (c.self.view_is i) { heads = heads })
    (heads_kept c.self.inside.heads.items c.read_heads.new.heads.items c.args.self.now.heads
    (ap (λ (v : PlainView). v.heads) c.self.view_is) c.read_heads.ensures.kept))

pub put-requires-clause-within : goal.put-requires-clause-within
put-requires-clause-within c =
    let mails = map plain_letter c.args.archive.now.items in
    let old = c.args.self.now in
    let heads = c.read_heads.new.heads.items in
    let items = plain_items c.in_ok-items.items.items in
    let joined = subst (λ (l : List PlainItem). IsJoined mails c.args.found.now l items)
    (c.as_slice-2.ensures ∙ ap (λ (v : PlainView). v.items) c.self.view_is)
    c.in_ok-items.ensures in
    let many : length mails ≡ length (map plain_header heads) =
    length-map c.args.archive.now.items plain_letter ∙ ap length (sym c.as_slice.ensures)
    ∙ sym c.in_ok-read_heads.ensures.all ∙ sym (length-map heads plain_header) in
    subst (λ n. AreWithin n (numbers items)) many
    (all_within_archive mails c.args.found.now old.heads old.items items c.requires.is_of.heads
    c.requires.is_of.within c.requires.found joined)

pub put-requires-clause-apart : goal.put-requires-clause-apart
put-requires-clause-apart c =
    let mails = map plain_letter c.args.archive.now.items in
    let items = plain_items c.in_ok-items.items.items in
    joined_apart mails c.args.found.now c.args.self.now.items items
    (subst (λ (l : List PlainItem). IsJoined mails c.args.found.now l items)
    (c.as_slice-2.ensures ∙ ap (λ (v : PlainView). v.items) c.self.view_is)
    c.in_ok-items.ensures) c.requires.found.apart

pub returns-clause-err : goal.returns-clause-err
returns-clause-err c =
    let heads = map plain_header c.read_heads.new.heads.items in
    on_err_weaker c.put.result (λ same. with_more c.args.self.now _ heads
    (same ∙ (λ i. record (c.self.view_is i) { heads = heads }))
    (heads_kept c.self.inside.heads.items c.read_heads.new.heads.items c.args.self.now.heads
    (ap (λ (v : PlainView). v.heads) c.self.view_is) c.read_heads.ensures.kept))
    c.put.ensures.err
