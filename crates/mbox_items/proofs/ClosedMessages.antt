-- How a mailbox is cut that is made to end with an empty line, with a message behind it.
use Rattle.std.proofs.Math.Bool.{and-false}
use Rattle.std.proofs.Common.{◌≡◌, ℕ, ◌&&◌, Bool, true, false, List, [], ◌∷◌, ◌++◌, refl, sym, ap}
use Rattle.std.proofs.Common.{◌∙◌, arith, ◌⊎◌, inl, inr}
use Rattle.std.specs.Prelude.{if◌then◌else◌}
use Rattle.std.proofs.lemmas.Bool.{and_from, and_parts}
use Rattle.mail_base.specs.Lines.{is_empty_line}
use Rattle.folder_core.specs.Mbox.{ends_message, is_postmark, messages, with_feed, with_line}
use Rattle.mbox_text.proofs.FedLines.{AreLines}
use Rattle.mbox_text.proofs.GroupLemmas.{begins}
use Rattle.folder_drivers.specs.MboxFeeds.{end_empty}
use Rattle.mbox_items.proofs.ClosedLines.{closed, closed_line, last_of}
use Rattle.mbox_items.proofs.Marks.{feed_no_mark, mark_fed}

-- The first line.

-- lines of which the first is a postmark where the line is
record BeginsAs (line : List ℕ) (lines : List (List ℕ)) : Type 0 where
  first : List ℕ
  rest : List (List ℕ)
  is : lines ≡ first ∷ rest
  mark : is_postmark first ≡ is_postmark line

begins_closed : (line : List ℕ) (lines : List (List ℕ)) → BeginsAs line (closed (line ∷ lines))
begins_closed line [] = by_empty (is_empty_line (with_feed line))
  where
    by_empty : (t : Bool)
        → BeginsAs line (if t then with_feed line ∷ [] else with_feed line ∷ (10 ∷ []) ∷ [])
    by_empty true = record {
      first = with_feed line;
      rest = [];
      is = refl;
      mark = mark_fed line;
    }
    by_empty false = record {
      first = with_feed line;
      rest = (10 ∷ []) ∷ [];
      is = refl;
      mark = mark_fed line;
    }
begins_closed line (next ∷ lines) = record {
  first = line;
  rest = closed (next ∷ lines);
  is = refl;
  mark = refl;
}

pub first_closed : (line : List ℕ) (lines : List (List ℕ))
    → begins (closed (line ∷ lines)) ≡ is_postmark line
first_closed line lines =
    let b = begins_closed line lines in ap begins b.is ∙ b.mark

-- a line in front of lines whose first is no other postmark
ends_closed : (line next : List ℕ) (lines : List (List ℕ))
    → ends_message line (closed (next ∷ lines)) ≡ (is_empty_line line && is_postmark next)
ends_closed line next lines =
    let b = begins_closed next lines in
    ap (ends_message line) b.is ∙ ap (λ t. is_empty_line line && t) b.mark

-- The last message.

-- The messages of lines end with one, which alone becomes another where the last line does.
pub record LastMessage (line : List ℕ) (lines : List (List ℕ)) : Type 0 where
  pub front : List (List (List ℕ))
  pub first : List ℕ
  pub rest : List (List ℕ)
  pub is : messages (line ∷ lines) ≡ front ++ (first ∷ rest) ∷ []
  pub after : messages (closed (line ∷ lines)) ≡ front ++ closed (first ∷ rest) ∷ []
  pub last : last_of first rest ≡ last_of line lines
  pub are : AreLines (first ∷ rest)
  pub mark : ((front ≡ []) × (first ≡ line)) ⊎ (is_postmark first ≡ true)

line_alone : (line : List ℕ) → messages (closed_line line) ≡ closed_line line ∷ []
line_alone line = by_empty (is_empty_line (with_feed line))
  where
    by_empty : (t : Bool)
        → messages (if t then with_feed line ∷ [] else with_feed line ∷ (10 ∷ []) ∷ [])
        ≡ (if t then with_feed line ∷ [] else with_feed line ∷ (10 ∷ []) ∷ []) ∷ []
    by_empty true = refl
    by_empty false =
        ap (λ t. if is_empty_line (with_feed line) && t
        then (with_feed line ∷ []) ∷ ((10 ∷ []) ∷ []) ∷ []
        else (with_feed line ∷ (10 ∷ []) ∷ []) ∷ []) feed_no_mark
        ∙ ap (λ t. if t then (with_feed line ∷ []) ∷ ((10 ∷ []) ∷ []) ∷ []
        else (with_feed line ∷ (10 ∷ []) ∷ []) ∷ []) (and-false (is_empty_line (with_feed line)))

-- a line more in front
last_on : (line next : List ℕ) (lines : List (List ℕ)) → AreLines (line ∷ next ∷ lines)
    → LastMessage next lines → (t : Bool) → (is_empty_line line && is_postmark next) ≡ t
    → LastMessage line (next ∷ lines)
last_on line next lines are m border e = by_border border e m.front m.is m.after m.mark
  where
    before : (t : Bool) → (is_empty_line line && is_postmark next) ≡ t
        → messages (line ∷ next ∷ lines)
        ≡ (if t then (line ∷ []) ∷ messages (next ∷ lines)
        else with_line line (messages (next ∷ lines)))
    before t e = ap (λ u. if u then (line ∷ []) ∷ messages (next ∷ lines)
        else with_line line (messages (next ∷ lines))) e

    behind : (t : Bool) → (is_empty_line line && is_postmark next) ≡ t
        → messages (line ∷ closed (next ∷ lines))
        ≡ (if t then (line ∷ []) ∷ messages (closed (next ∷ lines))
        else with_line line (messages (closed (next ∷ lines))))
    behind t e = ap (λ u. if u then (line ∷ []) ∷ messages (closed (next ∷ lines))
        else with_line line (messages (closed (next ∷ lines)))) (ends_closed line next lines ∙ e)

    by_border : (t : Bool) → (is_empty_line line && is_postmark next) ≡ t
        → (front : List (List (List ℕ)))
        → messages (next ∷ lines) ≡ front ++ (m.first ∷ m.rest) ∷ []
        → messages (closed (next ∷ lines)) ≡ front ++ closed (m.first ∷ m.rest) ∷ []
        → ((front ≡ []) × (m.first ≡ next)) ⊎ (is_postmark m.first ≡ true)
        → LastMessage line (next ∷ lines)
    by_border true e front is after mark = record {
      front = (line ∷ []) ∷ front;
      first = m.first;
      rest = m.rest;
      is = before true e ∙ ap (λ all. (line ∷ []) ∷ all) is;
      after = behind true e ∙ ap (λ all. (line ∷ []) ∷ all) after;
      last = m.last;
      are = m.are;
      mark = inr (by_mark mark);
    }
      where
        by_mark : ((front ≡ []) × (m.first ≡ next)) ⊎ (is_postmark m.first ≡ true)
            → is_postmark m.first ≡ true
        by_mark (inl same) =
            ap is_postmark same.1 ∙ (and_parts (is_empty_line line) (is_postmark next) e).1
        by_mark (inr mark) = mark
    by_border false e [] is after mark = record {
      front = [];
      first = line;
      rest = m.first ∷ m.rest;
      is = before false e ∙ ap (with_line line) is;
      after = behind false e ∙ ap (with_line line) after;
      last = m.last;
      are = (are.0, (λ more. are.1 (omega arith)), m.are);
      mark = inl (refl, refl);
    }
    by_border false e (message ∷ front) is after mark = record {
      front = (line ∷ message) ∷ front;
      first = m.first;
      rest = m.rest;
      is = before false e ∙ ap (with_line line) is;
      after = behind false e ∙ ap (with_line line) after;
      last = m.last;
      are = m.are;
      mark = inr (by_mark mark);
    }
      where
        by_mark : ((message ∷ front ≡ []) × (m.first ≡ next)) ⊎ (is_postmark m.first ≡ true)
            → is_postmark m.first ≡ true
        by_mark (inl same) = absurd cc
        by_mark (inr mark) = mark

pub last_message : (line : List ℕ) (lines : List (List ℕ)) → AreLines (line ∷ lines)
    → LastMessage line lines
last_message line [] are = record {
  front = [];
  first = line;
  rest = [];
  is = refl;
  after = line_alone line;
  last = refl;
  are = are;
  mark = inl (refl, refl);
}
last_message line (next ∷ lines) are =
    last_on line next lines are (last_message next lines are.2)
    (is_empty_line line && is_postmark next) refl

-- A message behind them.

-- they end with an empty line
pub end_closed : (lines : List (List ℕ)) → end_empty (closed lines) ≡ true
end_closed [] = refl
end_closed (line ∷ []) = by_empty (is_empty_line (with_feed line)) refl
  where
    by_empty : (t : Bool) → is_empty_line (with_feed line) ≡ t
        → end_empty (if t then with_feed line ∷ [] else with_feed line ∷ (10 ∷ []) ∷ []) ≡ true
    by_empty true e = e
    by_empty false e = refl
end_closed (line ∷ next ∷ lines) =
    let b = begins_closed next lines in
    ap (λ ls. end_empty (line ∷ ls)) b.is ∙ ap end_empty (sym b.is) ∙ end_closed (next ∷ lines)

-- some messages, and the first of them
record IsMore (all : List (List (List ℕ))) : Type 0 where
  message : List (List ℕ)
  rest : List (List (List ℕ))
  is : all ≡ message ∷ rest

some_messages : (line : List ℕ) (lines : List (List ℕ)) → IsMore (messages (line ∷ lines))
some_messages line lines = by_end (ends_message line lines) (messages lines)
  where
    by_end : (t : Bool) (all : List (List (List ℕ)))
        → IsMore (if t then (line ∷ []) ∷ all else with_line line all)
    by_end true all = record { message = line ∷ []; rest = all; is = refl }
    by_end false [] = record { message = line ∷ []; rest = []; is = refl }
    by_end false (message ∷ rest) = record { message = line ∷ message; rest = rest; is = refl }

-- a postmark behind an empty line begins a message
pub messages_both : (front : List (List ℕ)) (mark : List ℕ) (lines : List (List ℕ))
    → end_empty front ≡ true → is_postmark mark ≡ true
    → messages (front ++ mark ∷ lines) ≡ messages front ++ messages (mark ∷ lines)
messages_both [] mark lines empty begins = refl
messages_both (line ∷ []) mark lines empty begins =
    ap (λ t. if t then (line ∷ []) ∷ messages (mark ∷ lines)
    else with_line line (messages (mark ∷ lines))) (and_from _ _ empty begins)
messages_both (line ∷ next ∷ front) mark lines empty begins =
    ap (λ all. if t then (line ∷ []) ∷ all else with_line line all)
    (messages_both (next ∷ front) mark lines empty begins)
    ∙ by_end t (some_messages next front)
  where
    t : Bool
    t = is_empty_line line && is_postmark next

    by_end : (t : Bool) → IsMore (messages (next ∷ front))
        → (if t then (line ∷ []) ∷ (messages (next ∷ front) ++ messages (mark ∷ lines))
        else with_line line (messages (next ∷ front) ++ messages (mark ∷ lines)))
        ≡ (if t then (line ∷ []) ∷ messages (next ∷ front)
        else with_line line (messages (next ∷ front))) ++ messages (mark ∷ lines)
    by_end true some = refl
    by_end false some =
        ap (λ all. with_line line (all ++ messages (mark ∷ lines))) some.is
        ∙ ap (λ all. with_line line all ++ messages (mark ∷ lines)) (sym some.is)
