-- A mailbox of which messages changed is cut into these messages.
use Rattle.std.proofs.Common.{◌≡◌, ℕ, ◌+◌, ◌-◌, ◌<◌, Bool, true, false, ◌&&◌, List, [], ◌∷◌, ◌++◌}
use Rattle.std.proofs.Common.{Option, Some, None, length, map, take, take_all, take-append-drop, drop, slice_index, refl, sym, ap}
use Rattle.std.proofs.Common.{◌∙◌, ◌⊎◌, suc, length-append, length-take-le, inl, inr, arith, append_assoc, append-nil, subst}
use Rattle.std.specs.Prelude.{codes, if◌then◌else◌, is_some}
use Rattle.std.specs.List.{concat}
use Rattle.std.specs.Str.{bytes_eq}
use Rattle.std.proofs.Math.Seq.{drop-append_seam, drop-nil, take-append_seam}
use Rattle.std.proofs.lemmas.Bool.{or_cases}
use Rattle.std.proofs.lemmas.List.Folds.{concat-append}
use Rattle.std.proofs.lemmas.Slice.Eq.{bytes_eq-Decides}
use Rattle.bstr.specs.Text.{lines_of}
use Rattle.bstr.proofs.lemmas.LineLemmas.{EndsLine}
use Rattle.bstr.proofs.lemmas.RestLemmas.{concat-lines_of}
use Rattle.mail_base.specs.Flags.{applied, stored}
use Rattle.mail_base.specs.declared.flags.Flags.{Flags}
use Rattle.mail_base.specs.declared.kind.Kind.TheVariants.{Mbox}
use Rattle.mail_base.specs.Lines.{after_block, has_feed, header_block, is_empty_line, without_feed}
use Rattle.folder_core.specs.Mbox.{begins_mailbox, begins_with_postmark, ends_message, is_postmark, kept_lines, messages}
use Rattle.folder_core.specs.Mbox.{postmark, raw_messages, stamp_behind, status, with_feed, with_line}
use Rattle.index_items.specs.Changes.{PlainChange, Alters, Discards}
use Rattle.mbox_text.specs.MessageCore.{kept_from}
use Rattle.mbox_text.specs.Regions.{last_empty}
use Rattle.mbox_text.specs.Rewriting as spec
use Rattle.mbox_text.specs.WithStatus.{kept_text, status_lines, with_status}
use Rattle.mbox_text.proofs.FedLines.{AreEnded, AreLines, are_lines, fed, fed_bytes, fed_ended}
use Rattle.mbox_text.proofs.FedLines.{fed_more, fed_same, lines_ended}
use Rattle.mbox_text.proofs.GroupLemmas.{AreCut, IsQuiet, Quiet, all_lines, lines_in, begins, cut_is, lines_are}
use Rattle.mbox_text.proofs.GroupLemmas.{concat_map, raws_are}
use Rattle.mbox_text.proofs.RegionsLemmas.{not_mark}
use Rattle.mbox_text.proofs.WithStatusLemmas.{empty_fed, flags_status}
use Rattle.mbox_text.proofs.WithStatusLemmas.{from_empty, left_lines, lines_with, ready, status_of}
use Rattle.mbox_text.proofs.WithStatusLemmas.{step_from}

true_false : ◌≡◌ {A = Bool} true false → ⊥
true_false e = cc

-- Postmarks.

feed_goes : (s : List ℕ) → has_feed s ≡ false → without_feed s ≡ s
feed_goes s none = ap (λ t. if t then take (length s - 1) s else s) none

-- an LF goes from the end
feed_off : (s : List ℕ) → without_feed (s ++ 10 ∷ []) ≡ s
feed_off s =
    let last : length (s ++ 10 ∷ []) - 1 ≡ length s =
    omega (arith, length-append s (10 ∷ [])) in
    ap (λ n. if bytes_eq (drop n (s ++ 10 ∷ [])) (codes "\n") then take n (s ++ 10 ∷ [])
    else s ++ 10 ∷ []) last
    ∙ ap (λ l. if bytes_eq l (codes "\n") then take (length s) (s ++ 10 ∷ [])
    else s ++ 10 ∷ []) (drop-append_seam s (10 ∷ []))
    ∙ take-append_seam s (10 ∷ [])

-- a text that ends in no LF ends in none behind its first five bytes
feed_behind : (a b c d e : ℕ) (rest : List ℕ) → has_feed (a ∷ b ∷ c ∷ d ∷ e ∷ rest) ≡ false
    → without_feed rest ≡ rest
feed_behind a b c d e [] none = refl
feed_behind a b c d e (x ∷ more) none =
    let line = a ∷ b ∷ c ∷ d ∷ e ∷ x ∷ more in
    let same : length line - 1 ≡ suc (suc (suc (suc (suc (length (x ∷ more) - 1))))) =
    omega arith in
    feed_goes (x ∷ more)
    (sym (ap (λ n. bytes_eq (drop n line) (codes "\n")) same) ∙ none)

-- a text that ends in LF gets no other
fed_by : (line : List ℕ) → has_feed line ≡ true → with_feed line ≡ line
fed_by [] e = absurd (true_false (sym e))
fed_by (b ∷ line) e =
    let short : length (without_feed (b ∷ line)) ≡ length (take (length (b ∷ line) - 1) (b ∷ line)) =
    ap (λ t. length (if t then take (length (b ∷ line) - 1) (b ∷ line) else b ∷ line)) e in
    fed_same (b ∷ line) (λ same. omega (
      arith,
      short,
      same,
      length-take-le (length (b ∷ line) - 1) (b ∷ line) (omega arith),
    ))

-- an LF at the end makes no postmark
mark_more : (line : List ℕ) → has_feed line ≡ false → is_postmark (line ++ 10 ∷ []) ≡ is_postmark line
unfolding postmark
mark_more [] none =
    not_mark (10 ∷ []) (λ e. omega (arith, ap length e)) ∙ sym (not_mark [] (λ e. omega (arith, ap length e)))
mark_more (a ∷ []) none =
    not_mark (a ∷ 10 ∷ []) (λ e. omega (arith, ap length e))
    ∙ sym (not_mark (a ∷ []) (λ e. omega (arith, ap length e)))
mark_more (a ∷ b ∷ []) none =
    not_mark (a ∷ b ∷ 10 ∷ []) (λ e. omega (arith, ap length e))
    ∙ sym (not_mark (a ∷ b ∷ []) (λ e. omega (arith, ap length e)))
mark_more (a ∷ b ∷ c ∷ []) none =
    not_mark (a ∷ b ∷ c ∷ 10 ∷ []) (λ e. omega (arith, ap length e))
    ∙ sym (not_mark (a ∷ b ∷ c ∷ []) (λ e. omega (arith, ap length e)))
mark_more (a ∷ b ∷ c ∷ d ∷ []) none =
    not_mark (a ∷ b ∷ c ∷ d ∷ 10 ∷ []) (λ e. omega (arith, ap (λ l. slice_index l 4) e))
    ∙ sym (not_mark (a ∷ b ∷ c ∷ d ∷ []) (λ e. omega (arith, ap length e)))
mark_more (a ∷ b ∷ c ∷ d ∷ e ∷ rest) none =
    ap (λ l. is_some (if bytes_eq (a ∷ b ∷ c ∷ d ∷ e ∷ []) (codes "From ") then stamp_behind l
    else None)) (feed_off rest ∙ sym (feed_behind a b c d e rest none))

-- nor does it take one away
mark_fed : (line : List ℕ) → is_postmark (with_feed line) ≡ is_postmark line
mark_fed line = by_feed (has_feed line) refl
  where
    by_feed : (t : Bool) → has_feed line ≡ t → is_postmark (with_feed line) ≡ is_postmark line
    by_feed true e = ap is_postmark (fed_by line e)
    by_feed false e =
        ap is_postmark (fed_more line (ap length (feed_goes line e))) ∙ mark_more line e

-- a postmark is no empty line
mark_some : (line : List ℕ) → is_postmark line ≡ true → is_empty_line line ≡ false
mark_some line mark = by_empty (is_empty_line line) refl
  where
    never : (l : List ℕ) → line ≡ l → (take 5 l ≡ codes "From " → ⊥) → ⊥
    never l is other = true_false (sym mark ∙ ap is_postmark is ∙ not_mark l other)

    by_line : (bytes_eq line (codes "\n") ≡ true) ⊎ (bytes_eq line (codes "\r\n") ≡ true) → ⊥
    by_line (inl is) = never (codes "\n") ((bytes_eq-Decides line (codes "\n")).0 is)
        (λ e. omega (arith, ap length e))
    by_line (inr is) = never (codes "\r\n") ((bytes_eq-Decides line (codes "\r\n")).0 is)
        (λ e. omega (arith, ap length e))

    by_empty : (t : Bool) → is_empty_line line ≡ t → is_empty_line line ≡ false
    by_empty true e = absurd (by_line (or_cases _ _ e))
    by_empty false e = e

-- an empty line ends in LF
empty_ends : (line : List ℕ) → is_empty_line line ≡ true → EndsLine line
empty_ends line empty = by_line (or_cases _ _ empty)
  where
    by_line : (bytes_eq line (codes "\n") ≡ true) ⊎ (bytes_eq line (codes "\r\n") ≡ true)
        → EndsLine line
    by_line (inl is) = subst EndsLine (sym ((bytes_eq-Decides line (codes "\n")).0 is)) (inr refl)
    by_line (inr is) =
        subst EndsLine (sym ((bytes_eq-Decides line (codes "\r\n")).0 is)) (inr refl)

-- What stays of lines of which none begins a message.

kept_quiet : (lines : List (List ℕ)) (dropped empty : Bool) → Quiet empty lines
    → Quiet false (kept_from dropped lines)
kept_quiet [] dropped empty quiet = tt
kept_quiet (line ∷ lines) dropped empty quiet =
    by_line (is_empty_line line) refl (λ d. kept_quiet lines d (is_empty_line line) quiet.1)
  where
    by_stays : (next stays : Bool) → is_empty_line line ≡ false
        → Quiet false (kept_from next lines)
        → Quiet false (if stays then line ∷ kept_from next lines else kept_from next lines)
    by_stays next true e more =
        (refl, subst (λ t. Quiet t (kept_from next lines)) (sym e) more)
    by_stays next false e more = more

    by_line : (t : Bool) → is_empty_line line ≡ t
        → ((d : Bool) → Quiet false (kept_from d lines))
        → Quiet false (kept_from dropped (line ∷ lines))
    by_line true e more =
        subst (Quiet false) (sym (from_empty dropped line lines e)) (refl, quiet.1)
    by_line false e more =
        let step = step_from dropped line lines e in
        subst (Quiet false) (sym step.is) (by_stays step.next step.stays e (more step.next))

kept_last : (lines : List (List ℕ)) (dropped : Bool) → last_empty false lines ≡ true
    → last_empty false (kept_from dropped lines) ≡ true
kept_last [] dropped last = last
kept_last (line ∷ lines) dropped last =
    by_line (is_empty_line line) refl (λ d. kept_last lines d)
  where
    by_stays : (next stays : Bool) → is_empty_line line ≡ false
        → last_empty false (kept_from next lines) ≡ true
        → last_empty false (if stays then line ∷ kept_from next lines else kept_from next lines)
        ≡ true
    by_stays next true e more = ap (λ t. last_empty t (kept_from next lines)) e ∙ more
    by_stays next false e more = more

    by_line : (t : Bool) → is_empty_line line ≡ t
        → ((d : Bool) → last_empty false lines ≡ true
        → last_empty false (kept_from d lines) ≡ true)
        → last_empty false (kept_from dropped (line ∷ lines)) ≡ true
    by_line true e more = ap (last_empty false) (from_empty dropped line lines e) ∙ last
    by_line false e more =
        let step = step_from dropped line lines e in
        ap (last_empty false) step.is
        ∙ by_stays step.next step.stays e
        (more step.next (ap (λ t. last_empty t lines) (sym e) ∙ last))

-- An LF at the end of the last line.

fed_quiet : (lines : List (List ℕ)) (empty : Bool) → Quiet empty lines → Quiet empty (fed lines)
fed_quiet [] empty quiet = tt
fed_quiet (line ∷ []) empty quiet = (ap (λ t. empty && t) (mark_fed line) ∙ quiet.0, tt)
fed_quiet (line ∷ next ∷ lines) empty quiet =
    (quiet.0, fed_quiet (next ∷ lines) (is_empty_line line) quiet.1)

fed_message : (line : List ℕ) (left : List (List ℕ)) → Quiet (is_empty_line line) left
    → IsQuiet (fed (line ∷ left))
fed_message line [] quiet = tt
fed_message line (next ∷ left) quiet = fed_quiet (next ∷ left) (is_empty_line line) quiet

fed_begins : (line : List ℕ) (left : List (List ℕ))
    → begins (fed (line ∷ left)) ≡ is_postmark line
fed_begins line [] = mark_fed line
fed_begins line (next ∷ left) = refl

fed_last : (lines : List (List ℕ)) (empty : Bool) → last_empty empty lines ≡ true
    → last_empty empty (fed lines) ≡ true
fed_last [] empty last = last
fed_last (line ∷ []) empty last = empty_fed line last
fed_last (line ∷ next ∷ lines) empty last = fed_last (next ∷ lines) (is_empty_line line) last

-- Status fields last in the block.

-- lines of which none is empty stand in front of quiet ones
status_quiet : (flags : Flags) (more : List (List ℕ)) → Quiet false more
    → Quiet false (status_lines flags ++ more)
unfolding status_of
status_quiet flags more quiet =
    by_flags flags.seen flags.aged flags.replied flags.flagged
  where
    by_flags : (seen aged replied flagged : Bool)
        → Quiet false (status_of seen aged replied flagged ++ more)
    by_flags true aged true true = (refl, (refl, quiet))
    by_flags true aged true false = (refl, (refl, quiet))
    by_flags true aged false true = (refl, (refl, quiet))
    by_flags true aged false false = (refl, quiet)
    by_flags false true true true = (refl, (refl, quiet))
    by_flags false true true false = (refl, (refl, quiet))
    by_flags false true false true = (refl, (refl, quiet))
    by_flags false true false false = (refl, quiet)
    by_flags false false true true = (refl, quiet)
    by_flags false false true false = (refl, quiet)
    by_flags false false false true = (refl, quiet)
    by_flags false false false false = quiet

status_last : (flags : Flags) (more : List (List ℕ)) → last_empty false more ≡ true
    → last_empty false (status_lines flags ++ more) ≡ true
unfolding status_of
status_last flags more last =
    by_flags flags.seen flags.aged flags.replied flags.flagged
  where
    by_flags : (seen aged replied flagged : Bool)
        → last_empty false (status_of seen aged replied flagged ++ more) ≡ true
    by_flags true aged true true = last
    by_flags true aged true false = last
    by_flags true aged false true = last
    by_flags true aged false false = last
    by_flags false true true true = last
    by_flags false true true false = last
    by_flags false true false true = last
    by_flags false true false false = last
    by_flags false false true true = last
    by_flags false false true false = last
    by_flags false false false true = last
    by_flags false false false false = last

-- the lines of a message behind its first with status fields
abbrev with_block : Flags → List (List ℕ) → List (List ℕ)
with_block flags rest = header_block rest ++ (status_lines flags ++ after_block rest)

block_quiet : (flags : Flags) (rest : List (List ℕ)) → Quiet false rest
    → Quiet false (with_block flags rest)
block_quiet flags rest quiet = by_rest rest quiet
  where
    by_rest : (lines : List (List ℕ)) → Quiet false lines
        → Quiet false (header_block lines ++ (status_lines flags ++ after_block lines))
    by_rest [] quiet = status_quiet flags [] tt
    by_rest (line ∷ lines) quiet =
        by_line (is_empty_line line) refl (λ q. by_rest lines q)
      where
        by_line : (t : Bool) → is_empty_line line ≡ t
            → (Quiet false lines
            → Quiet false (header_block lines ++ (status_lines flags ++ after_block lines)))
            → Quiet false ((if t then [] else line ∷ header_block lines)
            ++ (status_lines flags ++ (if t then line ∷ lines else after_block lines)))
        by_line true e more = status_quiet flags (line ∷ lines) quiet
        by_line false e more = (
          refl,
          subst (λ t. Quiet t
              (header_block lines ++ (status_lines flags ++ after_block lines))) (sym e)
              (more (subst (λ t. Quiet t lines) e quiet.1)),
        )

block_last : (flags : Flags) (lines : List (List ℕ)) → last_empty false lines ≡ true
    → last_empty false (with_block flags lines) ≡ true
block_last flags [] last = absurd (true_false (sym last))
block_last flags (line ∷ lines) last =
    by_line (is_empty_line line) refl (λ l. block_last flags lines l)
  where
    by_line : (t : Bool) → is_empty_line line ≡ t
        → (last_empty false lines ≡ true
        → last_empty false (header_block lines ++ (status_lines flags ++ after_block lines)) ≡ true)
        → last_empty false ((if t then [] else line ∷ header_block lines)
        ++ (status_lines flags ++ (if t then line ∷ lines else after_block lines))) ≡ true
    by_line true e more = status_last flags (line ∷ lines) last
    by_line false e more =
        ap (λ t. last_empty t (header_block lines ++ (status_lines flags ++ after_block lines))) e
        ∙ more (ap (λ t. last_empty t lines) (sym e) ∙ last)

-- The lines of messages.

-- lines of a message: they begin with a postmark, and none behind that begins another
pub record IsMessage (message : List (List ℕ)) : Type 0 where
  pub are : AreLines message
  pub quiet : IsQuiet message
  pub begins : begins message ≡ true

-- messages that stand one behind the other: each but the last ends in an empty line
abbrev pub AreMessages : List (List (List ℕ)) → Type 0
AreMessages [] = Unit {0}
AreMessages (message ∷ rest) =
    IsMessage message × (0 < length rest → last_empty false message ≡ true) × AreMessages rest

-- what is told of a message with other status fields
record IsAltered (message altered : List (List ℕ)) : Type 0 where
  is : IsMessage altered
  last : last_empty false message ≡ true → last_empty false altered ≡ true

-- the lines of what stays of a message with an LF at its end
kept_fed : (region line : List ℕ) (lines : List (List ℕ)) → lines_of region ≡ line ∷ lines
    → lines_of (kept_text region) ≡ fed (line ∷ kept_from false lines)
kept_fed region line lines e =
    let are : AreLines (line ∷ lines) =
    subst AreLines e (are_lines (length region) region (omega arith)) in
    let left = left_lines lines false are.2 in
    let more : AreLines (line ∷ kept_from false lines) =
    (are.0, (λ some. are.1 (omega (arith, some, left.1))), left.0) in
    ap (λ ls. lines_of (with_feed (concat (kept_lines ls)))) e
    ∙ ap lines_of (fed_bytes line (kept_from false lines) more)
    ∙ lines_ended _ (fed_ended (line ∷ kept_from false lines) more)

altered : (flags : Flags) (region line : List ℕ) (lines : List (List ℕ))
    → lines_of region ≡ line ∷ lines → IsMessage (line ∷ lines)
    → IsAltered (line ∷ lines) (lines_of (with_status flags region))
altered flags region line lines e m =
    let r = ready region in
    let is : fed (line ∷ kept_from false lines) ≡ r.first ∷ r.rest =
    sym (kept_fed region line lines e) ∙ r.is in
    let text = lines_with flags region r (flags_status flags) in
    let some : is_empty_line line ≡ false = mark_some line m.begins in
    let mark : is_postmark r.first ≡ true =
    ap begins (sym is) ∙ fed_begins line (kept_from false lines) ∙ m.begins in
    let first : is_empty_line r.first ≡ false = mark_some r.first mark in
    let kept : Quiet (is_empty_line line) (kept_from false lines) =
    subst (λ t. Quiet t (kept_from false lines)) (sym some)
    (kept_quiet lines false (is_empty_line line) m.quiet) in
    let whole : IsQuiet (r.first ∷ r.rest) =
    subst IsQuiet is (fed_message line (kept_from false lines) kept) in
    let rest : Quiet false r.rest = subst (λ t. Quiet t r.rest) first whole in
    let quiet : IsQuiet (r.first ∷ with_block flags r.rest) =
    subst (λ t. Quiet t (with_block flags r.rest)) (sym first) (block_quiet flags r.rest rest) in
    record {
      is = record {
        are = are_lines (length (with_status flags region)) (with_status flags region)
            (omega arith);
        quiet = subst IsQuiet (sym text) quiet;
        begins = ap begins text ∙ mark;
      };
      last = λ ends.
          let before : last_empty false lines ≡ true =
          ap (λ t. last_empty t lines) (sym some) ∙ ends in
          let stays : last_empty false (line ∷ kept_from false lines) ≡ true =
          ap (λ t. last_empty t (kept_from false lines)) some ∙ kept_last lines false before in
          let all : last_empty false (r.first ∷ r.rest) ≡ true =
          ap (last_empty false) (sym is)
          ∙ fed_last (line ∷ kept_from false lines) false stays in
          ap (last_empty false) text
          ∙ ap (λ t. last_empty t (with_block flags r.rest)) first
          ∙ block_last flags r.rest (ap (λ t. last_empty t r.rest) (sym first) ∙ all);
    }

-- Messages of which some change.

-- what becomes of the lines of a message
abbrev pub changed_message : Option PlainChange → List (List ℕ) → List (List (List ℕ))
changed_message None message = message ∷ []
changed_message (Some (Alters added cleared)) message =
    lines_of (with_status (stored Mbox (applied (status (concat message)) added cleared))
    (concat message)) ∷ []
changed_message (Some Discards) message = []

abbrev pub changed_messages : List (Option PlainChange) → List (List (List ℕ))
    → List (List (List ℕ))
changed_messages [] cut = cut
changed_messages (change ∷ what) [] = []
changed_messages (change ∷ what) (message ∷ cut) =
    changed_message change message ++ changed_messages what cut

changed_bytes : (change : Option PlainChange) (message : List (List ℕ))
    (rest : List (List (List ℕ)))
    → map concat (changed_message change message ++ rest)
    ≡ spec.changed_raw change (concat message) ++ map concat rest
changed_bytes None message rest = refl
changed_bytes (Some (Alters added cleared)) message rest =
    ap (λ bytes. bytes ∷ map concat rest) (concat-lines_of (with_status
    (stored Mbox (applied (status (concat message)) added cleared)) (concat message)))
changed_bytes (Some Discards) message rest = refl

pub changed_are : (what : List (Option PlainChange)) (cut : List (List (List ℕ)))
    → map concat (changed_messages what cut) ≡ spec.changed_raws what (map concat cut)
changed_are [] cut = refl
changed_are (change ∷ what) [] = refl
changed_are (change ∷ what) (message ∷ cut) =
    changed_bytes change message (changed_messages what cut)
    ∙ ap (λ raws. spec.changed_raw change (concat message) ++ raws) (changed_are what cut)

-- none come of none
none_come : (what : List (Option PlainChange)) (cut : List (List (List ℕ)))
    → 0 < length (changed_messages what cut) → 0 < length cut
none_come [] cut some = some
none_come (change ∷ what) [] some = some
none_come (change ∷ what) (message ∷ cut) some = omega arith

one_changed : (change : Option PlainChange) (message : List (List ℕ))
    (rest : List (List (List ℕ))) → IsMessage message
    → (0 < length rest → last_empty false message ≡ true) → AreMessages rest
    → AreMessages (changed_message change message ++ rest)
one_changed None message rest is last are = (is, last, are)
one_changed (Some (Alters added cleared)) [] rest is last are = absurd is.quiet
one_changed (Some (Alters added cleared)) (line ∷ lines) rest is last are =
    let region = concat (line ∷ lines) in
    let a = altered (stored Mbox (applied (status region) added cleared)) region line lines
    (lines_are (line ∷ lines) is.are) is in
    (a.is, (λ some. a.last (last some)), are)
one_changed (Some Discards) message rest is last are = are

pub changes_are : (what : List (Option PlainChange)) (cut : List (List (List ℕ)))
    → AreMessages cut → AreMessages (changed_messages what cut)
changes_are [] cut are = are
changes_are (change ∷ what) [] are = tt
changes_are (change ∷ what) (message ∷ cut) are =
    one_changed change message (changed_messages what cut) are.0
    (λ some. are.1 (none_come what cut some)) (changes_are what cut are.2)

-- Messages are what a mailbox is cut into.

lines_left : (a b : List (List ℕ)) → AreLines (a ++ b) → AreLines a
lines_left [] b are = tt
lines_left (line ∷ a) b are =
    (are.0, (λ some. are.1 (omega (arith, some, length-append a b))), lines_left a b are.2)

lines_right : (a b : List (List ℕ)) → AreLines (a ++ b) → AreLines b
lines_right [] b are = are
lines_right (line ∷ a) b are = lines_right a b are.2

-- the first of messages
abbrev first_of : List (List (List ℕ)) → List (List ℕ)
first_of [] = []
first_of (message ∷ cut) = message

first_mark : (lines : List (List ℕ)) → begins_with_postmark lines ≡ true
    → 0 < length (messages lines) → begins (first_of (messages lines)) ≡ true
first_mark [] mark some = absurd (omega (arith, some))
first_mark (line ∷ lines) mark some =
    by_cut (ends_message line lines) (messages lines)
  where
    by_cut : (t : Bool) (cut : List (List (List ℕ)))
        → begins (first_of (if t then (line ∷ []) ∷ cut else with_line line cut)) ≡ true
    by_cut true cut = mark
    by_cut false [] = mark
    by_cut false (message ∷ cut) = mark

cut_messages : (cut : List (List (List ℕ))) → AreCut cut → AreLines (lines_in cut)
    → (0 < length cut → begins (first_of cut) ≡ true) → AreMessages cut
cut_messages [] are lines mark = tt
cut_messages (message ∷ []) are lines mark = (
  record { are = lines_left message [] lines; quiet = are; begins = mark (omega arith) },
  (λ some. absurd (omega (arith, some))),
  tt,
)
cut_messages (message ∷ next ∷ rest) are lines mark = (
  record {
    are = lines_left message (lines_in (next ∷ rest)) lines;
    quiet = are.0;
    begins = mark (omega arith);
  },
  (λ some. are.1),
  cut_messages (next ∷ rest) are.3 (lines_right message (lines_in (next ∷ rest)) lines)
      (λ some. are.2),
)

-- and what such messages are
ended_by : (message : List (List ℕ)) (empty : Bool) → AreLines message
    → last_empty empty message ≡ true → AreEnded message
ended_by [] empty are last = tt
ended_by (line ∷ []) empty are last = (are.0, empty_ends line last, tt)
ended_by (line ∷ next ∷ lines) empty are last =
    (are.0, are.1 (omega arith), ended_by (next ∷ lines) (is_empty_line line) are.2 last)

lines_both : (a b : List (List ℕ)) → AreEnded a → AreLines b → AreLines (a ++ b)
lines_both [] b ended are = are
lines_both (line ∷ a) b ended are = (ended.0, (λ some. ended.1), lines_both a b ended.2 are)

all_of : (cut : List (List (List ℕ))) → AreMessages cut → AreLines (lines_in cut)
all_of [] are = tt
all_of (message ∷ []) are = subst AreLines (sym (append-nil message)) are.0.are
all_of (message ∷ next ∷ rest) are =
    lines_both message (lines_in (next ∷ rest))
    (ended_by message false are.0.are (are.1 (omega arith))) (all_of (next ∷ rest) are.2)

cut_of : (cut : List (List (List ℕ))) → AreMessages cut → AreCut cut
cut_of [] are = tt
cut_of (message ∷ []) are = are.0.quiet
cut_of (message ∷ next ∷ rest) are =
    (are.0.quiet, are.1 (omega arith), are.2.0.begins, cut_of (next ∷ rest) are.2)

-- the bytes of such messages are a mailbox
raws_begin : (cut : List (List (List ℕ))) → AreMessages cut
    → begins_with_postmark (lines_in cut) ≡ true
raws_begin [] are = refl
raws_begin ([] ∷ rest) are = absurd are.0.quiet
raws_begin ((line ∷ lines) ∷ rest) are = are.0.begins

-- the messages of a mailbox
messages_are : (bytes : List ℕ) → begins_mailbox bytes ≡ true
    → AreMessages (messages (lines_of bytes))
messages_are bytes begins_so =
    cut_messages (messages (lines_of bytes)) (cut_is (lines_of bytes))
    (subst AreLines (sym (all_lines (lines_of bytes)))
    (are_lines (length bytes) bytes (omega arith)))
    (first_mark (lines_of bytes) begins_so)

pub rewritten_reads : (what : List (Option PlainChange)) (bytes : List ℕ)
    → begins_mailbox bytes ≡ true → spec.ReadsAsChanged what bytes
rewritten_reads what bytes begins_so =
    let cut = changed_messages what (messages (lines_of bytes)) in
    let are = changes_are what (messages (lines_of bytes)) (messages_are bytes begins_so) in
    let same : map concat cut ≡ spec.changed_raws what (raw_messages bytes) =
    changed_are what (messages (lines_of bytes)) in
    let lines : lines_of (concat (map concat cut)) ≡ lines_in cut =
    ap lines_of (concat_map cut) ∙ lines_are (lines_in cut) (all_of cut are) in
    record {
      begins = ap (λ raws. begins_mailbox (concat raws)) (sym same)
          ∙ ap begins_with_postmark lines ∙ raws_begin cut are;
      messages = ap (λ raws. raw_messages (concat raws)) (sym same)
          ∙ raws_are cut (cut_of cut are) (all_of cut are) ∙ same;
    }

-- The front that stays.

none_behind : (raws : List (List ℕ)) → drop (length raws) raws ≡ []
none_behind [] = refl
none_behind (raw ∷ raws) = none_behind raws

front_is : (what : List (Option PlainChange)) (raws : List (List ℕ))
    → concat (spec.changed_raws what raws)
    ≡ concat (take (spec.unchanged_count what raws) raws) ++ spec.changed_tail what raws
front_is [] raws =
    let all = take_all (length raws) raws (omega arith) in
    let none : drop (length raws) raws ≡ [] = none_behind raws in
    sym (append-nil (concat raws)) ∙ ap (λ l. concat l ++ []) (sym all)
    ∙ ap (λ l. concat (take (length raws) raws) ++ concat l) (sym none)
    ∙ ap (λ w. concat (take (length raws) raws)
    ++ concat (spec.changed_raws w (drop (length raws) raws)))
    (sym (drop-nil {A = Option PlainChange} (length raws)))
front_is (change ∷ what) [] = refl
front_is (None ∷ what) (raw ∷ raws) =
    let next : suc (spec.unchanged_count what raws) ≡ spec.unchanged_count what raws + 1 =
    omega arith in
    ap (λ l. raw ++ l) (front_is what raws)
    ∙ sym (append_assoc raw (concat (take (spec.unchanged_count what raws) raws))
    (spec.changed_tail what raws))
    ∙ ap (λ n. concat (take n (raw ∷ raws))
    ++ concat (spec.changed_raws (drop n (None ∷ what)) (drop n (raw ∷ raws)))) next
front_is (Some change ∷ what) (raw ∷ raws) = refl

front_taken : (n : ℕ) (raws : List (List ℕ))
    → take (length (concat (take n raws))) (concat raws) ≡ concat (take n raws)
front_taken n raws =
    ap (λ l. take (length (concat (take n raws))) l)
    (ap concat (sym (take-append-drop n raws)) ∙ concat-append (take n raws) (drop n raws))
    ∙ take-append_seam (concat (take n raws)) (concat (drop n raws))

pub front_stays : (what : List (Option PlainChange)) (raws : List (List ℕ))
    → concat (spec.changed_raws what raws)
    ≡ take (spec.first_changed what raws) (concat raws) ++ spec.changed_tail what raws
front_stays what raws =
    front_is what raws
    ∙ ap (λ l. l ++ spec.changed_tail what raws) (sym (front_taken (spec.unchanged_count what raws) raws))
