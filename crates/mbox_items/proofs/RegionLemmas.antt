-- What an item is in a mailbox is one message, with the item's flags and moment.
use Rattle.std.proofs.Common.{◌≡◌, ◌∙◌, sym, ap, refl, arith, ℕ}
use Rattle.std.proofs.Common.{◌||◌, ℤ, pos, Bool, true, false, List, [], ◌∷◌, ◌++◌, Some, length}
use Rattle.std.proofs.Common.{append_assoc, append-nil, subst, ◌⊎◌, inl, inr, None}
use Rattle.std.specs.Prelude.{unwrap_or}
use Rattle.std.specs.List.{concat}
use Rattle.std.proofs.lemmas.List.Folds.{concat-append}
use Rattle.bstr.specs.Text.{lines_of}
use Rattle.bstr.proofs.lemmas.LineLemmas.{EndsLine}
use Rattle.bstr.proofs.lemmas.RestLemmas.{concat-lines_of}
use Rattle.mail_base.specs.Flags.{applied, changed, normal, stored}
use Rattle.mail_base.specs.declared.flags.Flags.{Flags}
use Rattle.mail_base.specs.declared.kind.Kind.TheVariants.{Mbox}
use Rattle.mail_base.specs.Lines.{first_line, is_empty_line}
use Rattle.mail_base.proofs.LinesLemmas.{IsLine, line_in_front}
use Rattle.folder_core.specs.Mbox.{begins_mailbox, begins_with_postmark, kept_lines}
use Rattle.folder_core.specs.Mbox.{postmark, raw_messages, status, with_feed}
use Rattle.folder_letters.specs.Moments.{IsClockMoment}
use Rattle.folder_changes.specs.declared.item.Item.{Item}
use Rattle.index_items.specs.Changes.{Alters}
use Rattle.mbox_text.specs.WithStatus.{kept_text, with_status}
use Rattle.mbox_text.specs.MessageCore.{kept_from}
use Rattle.mbox_text.proofs.FedLines.{AreEnded, AreLines, are_lines, ended_both}
use Rattle.mbox_text.proofs.FedLines.{fed_or_same, lines_ended}
use Rattle.mbox_text.proofs.GroupLemmas.{IsQuiet, Quiet, begins, raws_are}
use Rattle.mbox_text.proofs.RegionsLemmas.{last_empty-push}
use Rattle.mbox_text.specs.Regions.{last_empty}
use Rattle.mbox_text.proofs.RewritingLemmas.{AreMessages, IsMessage, changed_messages, changes_are}
use Rattle.mbox_text.proofs.WithStatusLemmas.{core_with, flags_status, lines_with, ready}
use Rattle.mbox_text.proofs.WithStatusLemmas.{status_with}
use Rattle.folder_drivers.specs.MboxFeeds.{end_empty}
use Rattle.folder_drivers.specs.MboxRegion.{item_region, plain_region, quoted}
use Rattle.mbox_items.specs.Appended.{IsOneMessage}
use Rattle.folder_drivers.specs.MboxRegion.{quoted_text}
use Rattle.folder_drivers.specs.MboxPostmark.{postmark_line}
use Rattle.mbox_items.proofs.ClosedLines.{empty_ended}
use Rattle.mbox_items.proofs.Marks.{mark_no_empty}
use Rattle.mbox_items.proofs.PostmarkLemmas.{postmark_is_line, postmark_marks, postmark_reads}
use Rattle.mbox_items.proofs.QuotedLines.{quoted_ended, quoted_quiet}

-- The lines of one message.

-- they end with an empty one
abbrev IsClosed : List (List ℕ) → Type 0
IsClosed lines = IsMessage lines × (last_empty false lines ≡ true)

-- What is told of the bytes of one message.
record IsOne (region : List ℕ) : Type 0 where
  begins : begins_mailbox region ≡ true
  messages : raw_messages region ≡ region ∷ []
  ends : end_empty (lines_of region) ≡ true

end_last : (empty : Bool) (line : List ℕ) (lines : List (List ℕ))
    → last_empty empty (line ∷ lines) ≡ end_empty (line ∷ lines)
end_last empty line [] = refl
end_last empty line (next ∷ lines) = end_last (is_empty_line line) next lines

one_of : (region : List ℕ) → IsClosed (lines_of region) → IsOne region
one_of region closed =
    let whole = concat-lines_of region in
    let lines = lines_of region in
    record {
      begins = by_lines lines closed.0.begins;
      messages = ap raw_messages (sym whole ∙ sym (append-nil (concat lines)))
          ∙ raws_are (lines ∷ []) closed.0.quiet
          (subst AreLines (sym (append-nil lines)) closed.0.are)
          ∙ ap (λ l. l ∷ []) whole;
      ends = by_end lines closed.1;
    }
  where
    by_lines : (lines : List (List ℕ)) → begins lines ≡ true → begins_with_postmark lines ≡ true
    by_lines [] e = refl
    by_lines (line ∷ lines) e = e

    by_end : (lines : List (List ℕ)) → last_empty false lines ≡ true → end_empty lines ≡ true
    by_end [] e = refl
    by_end (line ∷ lines) e = sym (end_last false line lines) ∙ e

-- A message without its flags.

-- the lines behind the postmark
abbrev text_lines : List ℕ → List (List ℕ)
text_lines text = quoted false (lines_of text) ++ (10 ∷ []) ∷ []

plain_lines : (address : List ℕ) (moment : ℤ) (text : List ℕ)
    → lines_of (plain_region address moment text)
    ≡ postmark_line address moment ∷ text_lines text
unfolding plain_region
plain_lines address moment text =
    let mark = postmark_line address moment in
    let line = postmark_is_line address moment in
    let lines = are_lines (length text) text (omega arith) in
    let ended : AreEnded (mark ∷ text_lines text) = (
      line.0,
      line.1,
      ended_both (quoted false (lines_of text)) ((10 ∷ []) ∷ [])
          (quoted_ended (lines_of text) false lines) empty_ended,
    ) in
    ap lines_of (append_assoc mark (quoted_text text) (10 ∷ [])
    ∙ ap (λ l. mark ++ l) (sym (concat-append (quoted false (lines_of text)) ((10 ∷ []) ∷ []))))
    ∙ lines_ended (mark ∷ text_lines text) ended

plain_closed : (address : List ℕ) (moment : ℤ) (text : List ℕ) → IsClockMoment moment
    → IsClosed (lines_of (plain_region address moment text))
plain_closed address moment text h =
    let mark = postmark_line address moment in
    let region = plain_region address moment text in
    let is = plain_lines address moment text in
    let marks = postmark_marks address moment h in
    let quiet : IsQuiet (mark ∷ text_lines text) =
    subst (λ t. Quiet t (text_lines text)) (sym (mark_no_empty mark marks))
    (quoted_quiet (lines_of text) false (are_lines (length text) text (omega arith))) in (
      record {
        are = are_lines (length region) region (omega arith);
        quiet = subst IsQuiet (sym is) quiet;
        begins = ap begins is ∙ marks;
      },
      ap (last_empty false) is
          ∙ last_empty-push false (mark ∷ quoted false (lines_of text)) (10 ∷ []),
    )

-- The flags.

-- all that can be cleared
all_flags : Flags
all_flags = record {
  seen = true;
  aged = true;
  replied = true;
  flagged = true;
  passed = true;
  draft = true;
  trashed = true;
}

changed_to : (flag added : Bool) → changed flag added true ≡ added
changed_to true added = refl
changed_to false added = refl

-- a change to flags
applied_is : (old flags : Flags) → applied old flags all_flags ≡ normal flags
unfolding all_flags
applied_is old flags =
    let e1 = changed_to old.seen flags.seen in
    let e2 = changed_to old.aged flags.aged in
    let e3 = changed_to old.replied flags.replied in
    let e4 = changed_to old.flagged flags.flagged in
    let e5 = changed_to old.passed flags.passed in
    let e6 = changed_to old.draft flags.draft in
    let e7 = changed_to old.trashed flags.trashed in
    cc

twice : (a b : Bool) → ((a || b) || b) ≡ a || b
twice true b = refl
twice false true = refl
twice false false = refl

-- flags that a mailbox holds are held as they are
stored_normal : (flags : Flags) → stored Mbox (normal flags) ≡ stored Mbox flags
stored_normal flags =
    ap (λ t. record (stored Mbox flags) { aged = t }) (twice flags.aged flags.seen)

stored_twice : (flags : Flags) → stored Mbox (stored Mbox flags) ≡ stored Mbox flags
stored_twice flags =
    ap (λ t. record (stored Mbox flags) { aged = t }) (twice flags.aged flags.seen)

-- A message with flags.

-- the first line of a message with flags
first_with : (flags : Flags) (region mark : List ℕ) (more : List (List ℕ))
    → lines_of region ≡ mark ∷ more → IsLine mark → EndsLine mark
    → first_line (lines_of (with_status flags region)) ≡ mark
first_with flags region mark more e line ends =
    let r = ready region in
    let kept = concat (kept_from false more) in
    let text : kept_text region ≡ with_feed (mark ++ kept) =
    ap (λ ls. with_feed (concat (kept_lines ls))) e in
    let first : first_line (lines_of (kept_text region)) ≡ mark =
    ap (λ l. first_line (lines_of l)) text ∙ by_feed kept (fed_or_same (mark ++ kept)) in
    ap first_line (lines_with flags region r (flags_status flags))
    ∙ ap first_line (sym r.is) ∙ first
  where
    by_feed : (kept : List ℕ)
        → (with_feed (mark ++ kept) ≡ mark ++ kept)
        ⊎ (with_feed (mark ++ kept) ≡ (mark ++ kept) ++ 10 ∷ [])
        → first_line (lines_of (with_feed (mark ++ kept))) ≡ mark
    by_feed kept (inl same) =
        ap (λ l. first_line (lines_of l)) same ∙ ap first_line (line_in_front mark kept line ends)
    by_feed kept (inr new) =
        ap (λ l. first_line (lines_of l)) (new ∙ append_assoc mark kept (10 ∷ []))
        ∙ ap first_line (line_in_front mark (kept ++ 10 ∷ []) line ends)

-- a message of which the flags change
closed_with : (flags : Flags) (region : List ℕ) → IsClosed (lines_of region)
    → IsClosed (lines_of (with_status (stored Mbox flags) region))
closed_with flags region closed =
    let lines = lines_of region in
    let what = Some (Alters flags all_flags) ∷ None ∷ [] in
    let are : AreMessages (lines ∷ lines ∷ []) =
    (closed.0, (λ more. closed.1), (closed.0, (λ more. absurd (omega (arith, more))), tt)) in
    let changed : AreMessages (changed_messages what (lines ∷ lines ∷ [])) =
    changes_are what (lines ∷ lines ∷ []) are in
    let whole = concat-lines_of region in
    let same : stored Mbox (applied (status (concat lines)) flags all_flags) ≡ stored Mbox flags =
    ap (stored Mbox) (applied_is (status (concat lines)) flags) ∙ stored_normal flags in
    subst (λ l. IsClosed (lines_of (with_status (stored Mbox flags) l))) whole
    (subst (λ f. IsClosed (lines_of (with_status f (concat lines)))) same
    (changed.0, changed.1 (omega arith)))

pub one_message : (item : Item) → IsOneMessage item (item_region item)
unfolding item_region
one_message item =
    let address = item.sender.items in
    let text = item.text.items in
    let mark = postmark_line address item.moment in
    let line = postmark_is_line address item.moment in
    let region = plain_region address item.moment text in
    let flags = stored Mbox item.flags in
    let one = one_of (with_status flags region)
    (closed_with item.flags region (plain_closed address item.moment text item.in_range)) in
    record {
      begins = one.begins;
      ends = one.ends;
      messages = one.messages;
      core = core_with flags region;
      status = status_with flags region ∙ stored_twice item.flags;
      received = ap (λ l. unwrap_or (postmark l) (pos 0))
          (first_with flags region mark (text_lines text) (plain_lines address item.moment text)
          line.0 line.1)
          ∙ ap (λ o. unwrap_or o (pos 0)) (postmark_reads address item.moment item.in_range);
    }
