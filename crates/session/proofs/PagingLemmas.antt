-- A text that is read as an expression and searched, and a step in the list of parts.
use Rattle.std.proofs.Common.{◌≡◌, ◌∙◌, ℕ, Bool, true, false, List, Ok, Err, ap, codes, refl, subst}
use Rattle.std.proofs.Common.{Result, sym}
use Rattle.std.specs.Prelude.{if◌then◌else◌}
use Rattle.folder_letters.specs.Letters.{Mail}
use Rattle.mail_base.specs.Shown.{utf8_text}
use Rattle.patterns.proofs.CauseLemmas.{keeps_more}
use Rattle.patterns.specs.Causes.{Keeps, is_found_good, is_good_on}
use Rattle.people.specs.Judged.{PlainJudged, Reads, verdict_of}
use Rattle.people.specs.declared.error.ExprError.{ExprError}
use Rattle.people.specs.declared.error.ExprError.TheVariants as error
use Rattle.people.specs.declared.judged.Verdict.TheVariants.{Good, Size, Syntax}
use Rattle.session_pager.specs.Reader.{PlainReader}
use Rattle.session_index.specs.Desk.{PlainDesk}
use Rattle.session_pager.specs.Searching.{is_found, searched_for as reader_searched_for}
use Rattle.session_pager.specs.Stepping.{cursor_stepped, step_of}
use Rattle.session_pager.specs.declared.stepped.Stepped.{Stepped}
use Rattle.session_pager.specs.declared.stepped.Stepped.TheVariants as step
use Rattle.session_state.specs.Rules.{weeding_of}
use Rattle.session_screen.specs.declared.window.Window.{Window}
use Rattle.session.specs.Acting.{at_end, stepping}
use Rattle.session.specs.Core.{CoreState, refused, with_desk, with_reader}
use Rattle.session.specs.Reading.{expression_read, searched_for, told_found}

-- verdicts stay where a text is read
pub read_keeps : {T : Type 0} (text : List ℕ) (result : Result T ExprError)
    (old new : List PlainJudged) (before after : ℕ) → Reads text result old new before after
    → Keeps old new
read_keeps text result old new before after reads = subst (Keeps old) (sym reads.judged)
    (keeps_more old text (verdict_of result) before after)

-- a text that was read is good by later verdicts
pub read_good : {T : Type 0} (text : List ℕ) (x : T) (old new later : List PlainJudged)
    (before after : ℕ) → Reads text (Ok x) old new before after → Keeps new later
    → is_good_on later text ≡ true
read_good text x old new later before after reads keeps =
    ap is_found_good (keeps.stays text Good reads.verdict)

-- one that was refused is not
pub read_bad : {T : Type 0} (text : List ℕ) (e : ExprError) (old new later : List PlainJudged)
    (before after : ℕ) → (e ≡ error.NoMemory → ⊥)
    → Reads {T = T} text (Err e) old new before after → Keeps new later
    → is_good_on later text ≡ false
read_bad text error.Syntax old new later before after some reads keeps =
    ap is_found_good (keeps.stays text Syntax reads.verdict)
read_bad text error.Size old new later before after some reads keeps =
    ap is_found_good (keeps.stays text Size reads.verdict)
read_bad text error.NoMemory old new later before after some reads keeps = absurd (some refl)

module _ (verdicts : List PlainJudged) (mails : List Mail) (window : Window) (text : List ℕ)
    (c : CoreState) where
  -- what is done by the verdict on the text
  abbrev by_verdict : Bool → CoreState
  by_verdict is_good = if is_good then searched_for mails window (utf8_text text) c
      else refused (codes "bad expression: ") text c

  -- a good text is searched, and the last line tells where it is not found
  pub expression_found : (expr : List ℕ) (found : Bool) (r : PlainReader)
      → expr ≡ utf8_text text → is_good_on verdicts (utf8_text text) ≡ true
      → found ≡ is_found expr mails window.cols (weeding_of c.rules) c.reader
      → r ≡ reader_searched_for expr mails window.cols (weeding_of c.rules) c.reader
      → told_found found (with_reader r c) ≡ expression_read verdicts mails window text c
  expression_found expr found r is good met moved =
      (λ i. told_found (met i) (with_reader (moved i) c))
      ∙ ap (λ (e : List ℕ). searched_for mails window e c) is ∙ ap by_verdict (sym good)

  -- any other is refused
  pub expression_refused : is_good_on verdicts (utf8_text text) ≡ false
      → refused (codes "bad expression: ") text c ≡ expression_read verdicts mails window text c
  expression_refused bad = ap by_verdict (sym bad)

-- what a step says stands on the last line
told_end : (met : Stepped) (c : CoreState) → with_desk (at_end met c).desk c ≡ at_end met c
told_end step.Moved c = refl
told_end step.First c = refl
told_end step.Last c = refl

-- a step in the list of parts, by what it met, and the last line and the reader behind it
pub stepping_done : (mails : List Mail) (window : Window) (down : Bool) (c : CoreState)
    (met : Stepped) (d : PlainDesk) (r : PlainReader) → d ≡ (at_end met c).desk
    → met ≡ step_of down mails window.cols (weeding_of c.rules) c.reader
    → r ≡ cursor_stepped down mails window.cols (weeding_of c.rules) c.reader
    → with_desk d (with_reader r c) ≡ stepping mails window down c
stepping_done mails window down c met d r told is moved =
    let behind = cursor_stepped down mails window.cols (weeding_of c.rules) c.reader in
    (λ i. with_desk (told i) (with_reader (moved i) c))
    ∙ ap (with_reader behind) (told_end met c) ∙ end_later met behind
    ∙ ap (λ (m : Stepped). at_end m (with_reader behind c)) is
  where
    end_later : (m : Stepped) (s : PlainReader)
        → with_reader s (at_end m c) ≡ at_end m (with_reader s c)
    end_later step.Moved s = refl
    end_later step.First s = refl
    end_later step.Last s = refl
