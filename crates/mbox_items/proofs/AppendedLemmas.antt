-- A mailbox to which a message was added has this one behind all others.
use Rattle.std.proofs.Common.{◌≡◌, ℕ, true, List, [], ◌∷◌, ◌++◌, map, length, refl, sym, ap, ◌∙◌}
use Rattle.std.proofs.Common.{arith, append_assoc, subst, ◌⊎◌, inl, inr}
use Rattle.std.specs.List.{concat}
use Rattle.std.proofs.lemmas.List.{map-append}
use Rattle.std.proofs.lemmas.List.Folds.{concat-append}
use Rattle.bstr.specs.Text.{lines_of}
use Rattle.bstr.proofs.lemmas.RestLemmas.{concat-lines_of}
use Rattle.std.specs.Prelude.{codes, if◌then◌else◌}
use Rattle.mail_base.specs.Flags.{stored}
use Rattle.mail_base.specs.declared.kind.Kind.TheVariants.{Mbox}
use Rattle.folder_core.specs.Mbox.{begins_mailbox, begins_with_postmark, core, is_postmark}
use Rattle.folder_core.specs.Mbox.{messages, raw_messages, status}
use Rattle.folder_changes.specs.declared.item.Item.{Item}
use Rattle.mbox_text.proofs.FedLines.{AreEnded, AreLines, are_lines}
use Rattle.mbox_text.proofs.GroupLemmas.{begins, lines_are}
use Rattle.folder_drivers.specs.MboxRegion.{appended}
use Rattle.mbox_items.specs.Appended.{HasOneMore, with_more}
use Rattle.folder_drivers.specs.MboxFeeds.{end_empty, feeds_before}
use Rattle.folder_drivers.specs.MboxRegion.{item_region, saved}
use Rattle.mbox_items.proofs.ClosedCore.{core_closed}
use Rattle.mbox_items.proofs.ClosedLines.{closed, closed_ended}
use Rattle.mbox_items.proofs.FeedsLemmas.{behind_last, feeds_none}
use Rattle.mbox_items.proofs.ClosedMessages.{end_closed, first_closed, last_message, messages_both}
use Rattle.mbox_items.proofs.ClosedStatus.{status_closed}
use Rattle.mbox_items.proofs.RegionLemmas.{one_message}

more_push : (more : List ℕ) (raws : List (List ℕ)) (raw : List ℕ)
    → with_more more (raws ++ raw ∷ []) ≡ raws ++ (raw ++ more) ∷ []
more_push more [] raw = refl
more_push more (first ∷ []) raw = refl
more_push more (first ∷ next ∷ raws) raw = ap (λ l. first ∷ l) (more_push more (next ∷ raws) raw)

lines_both : (a b : List (List ℕ)) → AreEnded a → AreLines b → AreLines (a ++ b)
lines_both [] b ended are = are
lines_both (line ∷ a) b ended are = (ended.0, (λ more. ended.1), lines_both a b ended.2 are)

begins_both : (a b : List (List ℕ)) → begins a ≡ true → begins_with_postmark (a ++ b) ≡ true
begins_both [] b e = absurd cc
begins_both (line ∷ a) b e = e

end_both : (a : List (List ℕ)) (line : List ℕ) (b : List (List ℕ))
    → end_empty (a ++ line ∷ b) ≡ end_empty (line ∷ b)
end_both [] line b = refl
end_both (first ∷ []) line b = refl
end_both (first ∷ next ∷ a) line b = end_both (next ∷ a) line b

-- nothing goes behind an empty line
feeds_ready : (bytes : List ℕ) → end_empty (lines_of bytes) ≡ true → feeds_before bytes ≡ []
unfolding feeds_before
feeds_ready bytes e =
    ap (λ t. if t then [] else (if end_empty (lines_of (bytes ++ codes "\n")) then codes "\n"
    else codes "\n\n")) e

-- What a mailbox reads as before and after.
record Reads (bytes region after : List ℕ) : Type 0 where
  front : List (List ℕ)
  last : List ℕ
  before : raw_messages bytes ≡ front ++ last ∷ []
  messages : raw_messages after ≡ (front ++ (last ++ feeds_before bytes) ∷ []) ++ region ∷ []
  core : core (last ++ feeds_before bytes) ≡ core last
  status : status (last ++ feeds_before bytes) ≡ status last
  begins : begins_mailbox after ≡ true
  ends : end_empty (lines_of after) ≡ true

reads_more : (bytes region line mark : List ℕ) (lines more : List (List ℕ))
    → lines_of bytes ≡ line ∷ lines → lines_of region ≡ mark ∷ more
    → is_postmark line ≡ true → is_postmark mark ≡ true → raw_messages region ≡ region ∷ []
    → end_empty (lines_of region) ≡ true
    → Reads bytes region (bytes ++ (feeds_before bytes ++ region))
reads_more bytes region line mark lines more e r begins_so marks one ends =
    let are : AreLines (line ∷ lines) =
    subst AreLines e (are_lines (length bytes) bytes (omega arith)) in
    let m = last_message line lines are in
    let group = m.first ∷ m.rest in
    let front = map concat m.front in
    let feeds = feeds_before bytes in
    let after = bytes ++ (feeds ++ region) in
    let all = closed (line ∷ lines) ++ mark ∷ more in
    let joined : after ≡ concat all =
    sym (append_assoc bytes feeds region)
    ∙ ap (λ l. (l ++ feeds) ++ region) (sym (ap concat (sym e) ∙ concat-lines_of bytes))
    ∙ ap (λ l. l ++ region) (behind_last bytes line lines line lines e refl)
    ∙ ap (λ l. concat (closed (line ∷ lines)) ++ l)
    (sym (ap concat (sym r) ∙ concat-lines_of region))
    ∙ sym (concat-append (closed (line ∷ lines)) (mark ∷ more)) in
    let is : lines_of after ≡ all =
    ap lines_of joined ∙ lines_are all (lines_both (closed (line ∷ lines)) (mark ∷ more)
    (closed_ended (line ∷ lines) are)
    (subst AreLines r (are_lines (length region) region (omega arith)))) in
    let last : concat (closed group) ≡ concat group ++ feeds =
    sym (behind_last bytes line lines m.first m.rest e m.last) in
    let begins_last : is_postmark m.first ≡ true = first_marks m.mark in
    record {
      front = front;
      last = concat group;
      before = ap (λ ls. map concat (messages ls)) e ∙ ap (map concat) m.is
          ∙ map-append concat m.front (group ∷ []);
      messages = ap (λ ls. map concat (messages ls)) is
          ∙ ap (map concat) (messages_both (closed (line ∷ lines)) mark more
          (end_closed (line ∷ lines)) marks
          ∙ ap (λ l. l ++ messages (mark ∷ more)) m.after)
          ∙ map-append concat (m.front ++ closed group ∷ []) (messages (mark ∷ more))
          ∙ ap (λ l. l ++ map concat (messages (mark ∷ more)))
          (map-append concat m.front (closed group ∷ [])
          ∙ ap (λ l. front ++ l ∷ []) last)
          ∙ ap (λ l. (front ++ (concat group ++ feeds) ∷ []) ++ l)
          (ap (λ ls. map concat (messages ls)) (sym r) ∙ one);
      core = ap core (sym last) ∙ core_closed m.first m.rest m.are begins_last;
      status = ap status (sym last) ∙ status_closed m.first m.rest m.are begins_last;
      begins = ap begins_with_postmark is
          ∙ begins_both (closed (line ∷ lines)) (mark ∷ more) (first_closed line lines ∙ begins_so);
      ends = ap end_empty is ∙ end_both (closed (line ∷ lines)) mark more
          ∙ ap end_empty (sym r) ∙ ends;
    }
  where
    first_marks : {first : List ℕ} {front : List (List (List ℕ))}
        → ((front ≡ []) × (first ≡ line)) ⊎ (is_postmark first ≡ true)
        → is_postmark first ≡ true
    first_marks (inl same) = ap is_postmark same.1 ∙ begins_so
    first_marks (inr mark) = mark

-- what is told of each message, where the last one tells the same with more at its end
told_more : {T : Type 0} (f : List ℕ → T) (bytes region after : List ℕ)
    (r : Reads bytes region after) → f (r.last ++ feeds_before bytes) ≡ f r.last
    → map f (raw_messages after) ≡ map f (raw_messages bytes) ++ f region ∷ []
told_more f bytes region after r same =
    let more = r.last ++ feeds_before bytes in
    ap (map f) r.messages ∙ map-append f (r.front ++ more ∷ []) (region ∷ [])
    ∙ ap (λ l. l ++ f region ∷ []) (map-append f r.front (more ∷ [])
    ∙ ap (λ x. map f r.front ++ x ∷ []) same
    ∙ sym (map-append f r.front (r.last ∷ [])) ∙ ap (map f) (sym r.before))

-- behind a mailbox that is not empty
behind_some : (bytes : List ℕ) (item : Item)
    → Reads bytes (item_region item) (appended bytes item) → HasOneMore bytes item
behind_some bytes item r =
    let region = item_region item in
    let feeds = feeds_before bytes in
    let one = one_message item in
    let after = appended bytes item in
    record {
      begins = r.begins;
      ready = feeds_ready after r.ends;
      messages = r.messages
          ∙ ap (λ l. l ++ region ∷ []) (sym (ap (with_more feeds) r.before
          ∙ more_push feeds r.front r.last));
      cores = told_more core bytes region after r r.core
          ∙ ap (λ x. map core (raw_messages bytes) ++ x ∷ []) one.core;
      statuses = told_more status bytes region after r r.status
          ∙ ap (λ x. map status (raw_messages bytes) ++ x ∷ []) one.status;
    }

-- behind nothing
behind_none : (bytes : List ℕ) (item : Item) → lines_of bytes ≡ [] → HasOneMore bytes item
behind_none bytes item e =
    let region = item_region item in
    let one = one_message item in
    let none : bytes ≡ [] = sym (concat-lines_of bytes) ∙ ap concat e in
    let feeds = feeds_none bytes e in
    let same : appended bytes item ≡ region =
    ap (λ l. bytes ++ (l ++ region)) feeds ∙ ap (λ l. l ++ region) none in
    let raws : raw_messages bytes ≡ [] = ap (λ ls. map concat (messages ls)) e in
    let messages : raw_messages (appended bytes item) ≡ region ∷ [] =
    ap raw_messages same ∙ one.messages in
    record {
      begins = ap begins_mailbox same ∙ one.begins;
      ready = ap feeds_before same ∙ feeds_ready region one.ends;
      messages = messages
          ∙ ap (λ l. with_more (feeds_before bytes) l ++ region ∷ []) (sym raws);
      cores = ap (map core) messages ∙ ap (λ x. x ∷ []) one.core
          ∙ ap (λ l. map core l ++ saved item ∷ []) (sym raws);
      statuses = ap (map status) messages ∙ ap (λ x. x ∷ []) one.status
          ∙ ap (λ l. map status l ++ stored Mbox item.flags ∷ []) (sym raws);
    }

pub one_more : (bytes : List ℕ) (item : Item) → begins_mailbox bytes ≡ true
    → HasOneMore bytes item
one_more bytes item begins_so = by_lines (lines_of bytes) (lines_of (item_region item)) refl refl
  where
    by_lines : (lines marks : List (List ℕ)) → lines_of bytes ≡ lines
        → lines_of (item_region item) ≡ marks → HasOneMore bytes item
    by_lines [] marks e r = behind_none bytes item e
    by_lines (line ∷ lines) [] e r =
        let none : [] ≡ item_region item ∷ [] =
        ap (λ ls. map concat (messages ls)) (sym r) ∙ (one_message item).messages in
        absurd cc
    by_lines (line ∷ lines) (mark ∷ more) e r =
        let one = one_message item in
        behind_some bytes item (reads_more bytes (item_region item) line mark lines more e r
        (ap begins_with_postmark (sym e) ∙ begins_so) (ap begins_with_postmark (sym r) ∙ one.begins)
        one.messages one.ends)
