-- A message keeps its core where LF stand at its end that make it end with an empty line.
use Rattle.std.proofs.Common.{◌≡◌, ℕ, ◌<◌, ◌&&◌, not, Bool, true, false, List, [], ◌∷◌, ◌++◌}
use Rattle.std.proofs.Common.{length, refl, sym, ap, ◌∙◌, append_assoc, append-nil, Option, Some}
use Rattle.std.proofs.Common.{None, take, unwrap_or}
use Rattle.std.specs.Prelude.{codes, if◌then◌else◌, is_some}
use Rattle.std.specs.List.{concat}
use Rattle.mail_base.specs.Lines.{colon_of, header_block, is_continuation, is_empty_line, is_field}
use Rattle.mail_base.specs.Lines.{name_of}
use Rattle.folder_core.specs.Mbox.{core, is_postmark, is_status_name, kept_lines, last_line}
use Rattle.folder_core.specs.Mbox.{with_feed, without_separator, without_status}
use Rattle.mbox_text.specs.MessageCore.{kept_from}
use Rattle.mbox_text.proofs.FedLines.{AreLines, lines_ended, with_twice}
use Rattle.mbox_text.proofs.GroupLemmas.{lines_are}
use Rattle.mbox_text.proofs.MessageLemmas.{kept_past}
use Rattle.mbox_text.proofs.WithStatusLemmas.{from_empty}
use Rattle.mbox_items.proofs.ClosedLines.{closed, closed_ended, closed_line, fed_before}
use Rattle.mbox_items.proofs.ClosedLines.{only_return}
use Rattle.mbox_items.proofs.FedFields.{Alike, alike_fed}
use Rattle.mbox_items.proofs.Marks.{empty_there, fed_there, mark_fed, mark_no_empty, true_false}

-- The end of a message.

sep_push : (front : List (List ℕ)) (last : List ℕ)
    → without_separator (front ++ last ∷ []) ≡ front ++ last_line last
sep_push [] last = refl
sep_push (line ∷ []) last = refl
sep_push (line ∷ next ∷ front) last = ap (λ ls. line ∷ ls) (sep_push (next ∷ front) last)

last_twice : (line : List ℕ) → last_line (with_feed line) ≡ last_line line
last_twice line = ap (λ l. if is_empty_line l then [] else l ∷ []) (with_twice line)

-- behind other lines
last_closed : (front : List (List ℕ)) (line : List ℕ)
    → without_separator (front ++ closed_line line) ≡ without_separator (front ++ line ∷ [])
last_closed front line = by_empty (is_empty_line (with_feed line)) refl
  where
    by_empty : (t : Bool) → is_empty_line (with_feed line) ≡ t
        → without_separator (front ++ (if t then with_feed line ∷ []
        else with_feed line ∷ (10 ∷ []) ∷ []))
        ≡ without_separator (front ++ line ∷ [])
    by_empty true e =
        sep_push front (with_feed line) ∙ ap (λ ls. front ++ ls) (last_twice line)
        ∙ sym (sep_push front line)
    by_empty false e =
        ap without_separator (sym (append_assoc front (with_feed line ∷ []) ((10 ∷ []) ∷ [])))
        ∙ sep_push (front ++ with_feed line ∷ []) (10 ∷ [])
        ∙ append-nil (front ++ with_feed line ∷ [])
        ∙ ap (λ t. front ++ (if t then [] else with_feed line ∷ [])) (sym e)
        ∙ sym (sep_push front line)

lines_closed : (front : List (List ℕ)) (line : List ℕ) (lines : List (List ℕ))
    → without_separator (front ++ closed (line ∷ lines))
    ≡ without_separator (front ++ line ∷ lines)
lines_closed front line [] = last_closed front line
lines_closed front line (next ∷ lines) =
    ap without_separator (sym (append_assoc front (line ∷ []) (closed (next ∷ lines))))
    ∙ lines_closed (front ++ line ∷ []) next lines
    ∙ ap without_separator (append_assoc front (line ∷ []) (next ∷ lines))

-- A line of the header block.

-- whether it stays, by whether the field before it goes
stays : Bool → List ℕ → Bool
stays dropped line =
    if is_field line then not (is_status_name (name_of line))
    else not (is_continuation line && dropped)

-- whether what continues it goes
drops : Bool → List ℕ → Bool
drops dropped line = if is_field line then is_status_name (name_of line) else dropped

past : (dropped : Bool) (line : List ℕ) (block : List (List ℕ))
    → without_status dropped (line ∷ block)
    ≡ (if stays dropped line then line ∷ without_status (drops dropped line) block
    else without_status (drops dropped line) block)
unfolding stays drops
past dropped line block =
    by_tests (is_field line) (is_status_name (name_of line)) (is_continuation line && dropped)
  where
    by_tests : (field status more : Bool)
        → (if field
        then (if status then without_status true block else line ∷ without_status false block)
        else (if more then without_status dropped block else line ∷ without_status dropped block))
        ≡ (if (if field then not status else not more)
        then line ∷ without_status (if field then status else dropped) block
        else without_status (if field then status else dropped) block)
    by_tests true true more = refl
    by_tests true false more = refl
    by_tests false status true = refl
    by_tests false status false = refl

kept_on : (dropped : Bool) (line : List ℕ) (lines : List (List ℕ)) → is_empty_line line ≡ false
    → kept_from dropped (line ∷ lines)
    ≡ (if stays dropped line then line ∷ kept_from (drops dropped line) lines
    else kept_from (drops dropped line) lines)
kept_on dropped line lines some =
    kept_past dropped (drops dropped line) (stays dropped line) line lines (line ∷ lines) refl some
    (past dropped line (header_block lines))

-- an LF at its end does not matter
stays_fed : (dropped : Bool) (line : List ℕ) → 0 < length line
    → stays dropped (with_feed line) ≡ stays dropped line
unfolding stays
stays_fed dropped line some = by_colon (colon_of (with_feed line)) refl
  where
    alike : Alike 82 (with_feed line) line
    alike = alike_fed 82 line
        (record { no_space = refl; no_tab = refl; no_cr = refl; no_feed = refl }) some

    by_colon : (o : Option ℕ) → colon_of (with_feed line) ≡ o
        → stays dropped (with_feed line) ≡ stays dropped line
    by_colon None e =
        ap (λ o. if is_some o then not (is_status_name (take (unwrap_or o 0) (with_feed line)))
        else not (is_continuation (with_feed line) && dropped)) e
        ∙ ap (λ t. not (t && dropped)) alike.more
        ∙ ap (λ o. if is_some o then not (is_status_name (take (unwrap_or o 0) line))
        else not (is_continuation line && dropped)) (sym e ∙ alike.colon)
    by_colon (Some k) e =
        ap (λ o. if is_some o then not (is_status_name (take (unwrap_or o 0) (with_feed line)))
        else not (is_continuation (with_feed line) && dropped)) e
        ∙ ap (λ l. not (is_status_name l)) (alike.name k e)
        ∙ ap (λ o. if is_some o then not (is_status_name (take (unwrap_or o 0) line))
        else not (is_continuation line && dropped)) (sym e ∙ alike.colon)

-- The lines that stay.

-- lines that end a message alike behind others
abbrev EndAlike : List (List ℕ) → List (List ℕ) → List (List ℕ) → Type 0
EndAlike front lines others =
    without_separator (front ++ lines) ≡ without_separator (front ++ others)

-- the last line of a block, where what stays before it ends in LF and is not empty
block_closed : (front : List (List ℕ)) (dropped : Bool) (line : List ℕ) → 0 < length line
    → without_separator front ≡ front
    → without_separator (front ++ kept_from dropped (closed_line line))
    ≡ without_separator (front ++ kept_from dropped (line ∷ []))
block_closed front dropped line some same =
    by_empty (is_empty_line (with_feed line)) (is_empty_line line) refl refl
  where
    by_stays : (t : Bool) → is_empty_line (with_feed line) ≡ false
        → EndAlike front (if t then with_feed line ∷ (10 ∷ []) ∷ [] else (10 ∷ []) ∷ [])
        (if t then line ∷ [] else [])
    by_stays true e =
        ap (λ t. without_separator (front ++ (if t then with_feed line ∷ []
        else with_feed line ∷ (10 ∷ []) ∷ []))) (sym e)
        ∙ last_closed front line
    by_stays false e =
        sep_push front (10 ∷ []) ∙ append-nil front ∙ sym same
        ∙ ap without_separator (sym (append-nil front))

    by_empty : (fed empty : Bool) → is_empty_line (with_feed line) ≡ fed
        → is_empty_line line ≡ empty
        → without_separator (front ++ kept_from dropped (if fed then with_feed line ∷ []
        else with_feed line ∷ (10 ∷ []) ∷ []))
        ≡ without_separator (front ++ kept_from dropped (line ∷ []))
    by_empty true true e1 e2 =
        ap (λ ls. without_separator (front ++ ls)) (from_empty dropped (with_feed line) [] e1)
        ∙ sep_push front (with_feed line) ∙ ap (λ ls. front ++ ls) (last_twice line)
        ∙ sym (sep_push front line)
        ∙ ap (λ ls. without_separator (front ++ ls)) (sym (from_empty dropped line [] e2))
    by_empty true false e1 e2 =
        let is : line ≡ codes "\r" = only_return line some e1 e2 in
        ap (λ ls. without_separator (front ++ ls)) (from_empty dropped (with_feed line) [] e1)
        ∙ sep_push front (with_feed line) ∙ ap (λ ls. front ++ ls) (last_twice line)
        ∙ sym (sep_push front line)
        ∙ ap (λ l. without_separator (front ++ l ∷ [])) is
        ∙ ap (λ l. without_separator (front ++ kept_from dropped (l ∷ []))) (sym is)
    by_empty false true e1 e2 =
        absurd (true_false (sym e2 ∙ ap is_empty_line (sym (fed_there line (empty_there line e2)))
        ∙ e1))
    by_empty false false e1 e2 =
        ap (λ ls. without_separator (front ++ ls))
        (kept_on dropped (with_feed line) ((10 ∷ []) ∷ []) e1
        ∙ ap (λ t. if t then with_feed line ∷ (10 ∷ []) ∷ [] else (10 ∷ []) ∷ [])
        (stays_fed dropped line some))
        ∙ by_stays (stays dropped line) e1
        ∙ ap (λ ls. without_separator (front ++ ls)) (sym (kept_on dropped line [] e2))

kept_closed : (front : List (List ℕ)) (dropped : Bool) (line : List ℕ) (lines : List (List ℕ))
    → AreLines (line ∷ lines) → without_separator front ≡ front
    → EndAlike front (kept_from dropped (closed (line ∷ lines))) (kept_from dropped (line ∷ lines))
kept_closed front dropped line [] are same = block_closed front dropped line are.0.some same
kept_closed front dropped line (next ∷ lines) are same =
    by_empty (is_empty_line line) refl
    (kept_closed front (drops dropped line) next lines are.2 same)
    (kept_closed (front ++ line ∷ []) (drops dropped line) next lines are.2)
  where
    -- what stays behind the line
    left : List (List ℕ) → List (List ℕ)
    left more = kept_from (drops dropped line) more

    joined : (more : List (List ℕ))
        → without_separator (front ++ line ∷ more)
        ≡ without_separator ((front ++ line ∷ []) ++ more)
    joined more = ap without_separator (sym (append_assoc front (line ∷ []) more))

    by_stays : (t : Bool) → is_empty_line line ≡ false
        → EndAlike front (left (closed (next ∷ lines))) (left (next ∷ lines))
        → (without_separator (front ++ line ∷ []) ≡ front ++ line ∷ []
        → EndAlike (front ++ line ∷ []) (left (closed (next ∷ lines))) (left (next ∷ lines)))
        → EndAlike front
        (if t then line ∷ left (closed (next ∷ lines)) else left (closed (next ∷ lines)))
        (if t then line ∷ left (next ∷ lines) else left (next ∷ lines))
    by_stays true e goes stay =
        let fed = fed_before line next lines are in
        let ended : without_separator (front ++ line ∷ []) ≡ front ++ line ∷ [] =
        sep_push front line
        ∙ ap (λ l. front ++ (if is_empty_line l then [] else l ∷ [])) fed
        ∙ ap (λ t. front ++ (if t then [] else line ∷ [])) e in
        joined (left (closed (next ∷ lines))) ∙ stay ended ∙ sym (joined (left (next ∷ lines)))
    by_stays false e goes stay = goes

    by_empty : (t : Bool) → is_empty_line line ≡ t
        → EndAlike front (left (closed (next ∷ lines))) (left (next ∷ lines))
        → (without_separator (front ++ line ∷ []) ≡ front ++ line ∷ []
        → EndAlike (front ++ line ∷ []) (left (closed (next ∷ lines))) (left (next ∷ lines)))
        → EndAlike front (kept_from dropped (line ∷ closed (next ∷ lines)))
        (kept_from dropped (line ∷ next ∷ lines))
    by_empty true e goes stay =
        let stays_all = from_empty dropped line (next ∷ lines) e in
        ap (λ ls. without_separator (front ++ ls))
        (from_empty dropped line (closed (next ∷ lines)) e)
        ∙ lines_closed front line (next ∷ lines)
        ∙ ap (λ ls. without_separator (front ++ ls)) (sym stays_all)
    by_empty false e goes stay =
        ap (λ ls. without_separator (front ++ ls)) (kept_on dropped line (closed (next ∷ lines)) e)
        ∙ by_stays (stays dropped line) e goes stay
        ∙ ap (λ ls. without_separator (front ++ ls)) (sym (kept_on dropped line (next ∷ lines) e))

-- The message.

message_closed : (line : List ℕ) (lines : List (List ℕ)) → AreLines (line ∷ lines)
    → is_postmark line ≡ true
    → without_separator (kept_lines (closed (line ∷ lines)))
    ≡ without_separator (kept_lines (line ∷ lines))
message_closed line [] are mark =
    let some : is_empty_line (with_feed line) ≡ false =
    mark_no_empty (with_feed line) (mark_fed line ∙ mark) in
    ap (λ t. without_separator (kept_lines (if t then with_feed line ∷ []
    else with_feed line ∷ (10 ∷ []) ∷ []))) some
    ∙ ap (λ t. without_separator (if t then with_feed line ∷ []
    else with_feed line ∷ (10 ∷ []) ∷ [])) (sym some)
    ∙ last_closed [] line
message_closed line (next ∷ lines) are mark =
    let ended : without_separator (line ∷ []) ≡ line ∷ [] =
    ap (λ l. if is_empty_line l then [] else l ∷ []) (fed_before line next lines are)
    ∙ ap (λ t. if t then [] else line ∷ []) (mark_no_empty line mark) in
    kept_closed (line ∷ []) false next lines are.2 ended

pub core_closed : (line : List ℕ) (lines : List (List ℕ)) → AreLines (line ∷ lines)
    → is_postmark line ≡ true
    → core (concat (closed (line ∷ lines))) ≡ core (concat (line ∷ lines))
unfolding core
core_closed line lines are mark =
    ap (λ ls. concat (without_separator (kept_lines ls)))
    (lines_ended (closed (line ∷ lines)) (closed_ended (line ∷ lines) are))
    ∙ ap concat (message_closed line lines are mark)
    ∙ ap (λ ls. concat (without_separator (kept_lines ls))) (sym (lines_are (line ∷ lines) are))
