-- What the verdict on an expression says by every later list of verdicts, and expressions of tables
-- of people, one behind another.
use Rattle.std.proofs.Common.{◌≡◌, ◌∙◌, ℕ, List, [], ◌∷◌, ◌++◌, Ok, Err, ap, refl, subst, sym}
use Rattle.std.proofs.Common.{true, false}
use Rattle.std.specs.Prelude.{Result}
use Rattle.key_requests.proofs.MenusLemmas.{behind_more}
use Rattle.mail_base.specs.Shown.{utf8_text}
use Rattle.patterns.specs.Causes.{Keeps, is_found_good, is_good_on}
use Rattle.patterns.proofs.CauseLemmas.{keeps_more}
use Rattle.people.specs.Judged.{PlainJudged, Reads, verdict_of}
use Rattle.people.specs.declared.error.ExprError.{ExprError}
use Rattle.people.specs.declared.error.ExprError.TheVariants as error
use Rattle.people.specs.declared.judged.Verdict.TheVariants.{Good, Syntax, Size}
use Rattle.people.specs.declared.people.PeopleTable.{PeopleTable}
use Rattle.rc_lang.specs.Expansion.{before_all, before_rest}
use Rattle.rc_lang.specs.Settings.{fault_of}
use Rattle.rc_lang_words.specs.Faults.{Fault}
use Rattle.rc_lang_words.specs.declared.fault.RcFault.TheVariants.{BadExpression}
use Rattle.session_state.specs.Exprs.{expr_of}
use Rattle.session_state.specs.Lessons.{PlainLesson, people_of, person_of}

module _ {T : Type 0} (text : List ℕ) (old new : List PlainJudged) (before after : ℕ) where
  pub reads_keeps : (r : Result T ExprError) → Reads text r old new before after → Keeps old new
  reads_keeps r reads =
      subst (Keeps old) (sym reads.judged) (keeps_more old text (verdict_of r) before after)

  module _ (later : List PlainJudged) (keeps : Keeps new later) where
    pub reads_good : (x : T) → Reads text (Ok x) old new before after
        → is_good_on later text ≡ true
    reads_good x reads = ap is_found_good (keeps.stays text Good reads.verdict)

    pub reads_syntax : Reads {T = T} text (Err error.Syntax) old new before after
        → is_good_on later text ≡ false
    reads_syntax reads = ap is_found_good (keeps.stays text Syntax reads.verdict)

    pub reads_size : Reads {T = T} text (Err error.Size) old new before after
        → is_good_on later text ≡ false
    reads_size reads = ap is_found_good (keeps.stays text Size reads.verdict)

module _ (later : List PlainJudged) (text word : List ℕ) where
  pub expr_good : is_good_on later (utf8_text text) ≡ true
      → expr_of later text word ≡ Ok (utf8_text text)
  unfolding expr_of
  expr_good good = rw good refl

  pub expr_bad : is_good_on later (utf8_text text) ≡ false
      → expr_of later text word ≡ Err (fault_of BadExpression word)
  unfolding expr_of
  expr_bad bad = rw bad refl

module _ (later : List PlainJudged) (table : PeopleTable) (word : List ℕ) where
  people_at : (words : List (List ℕ)) (lessons : List PlainLesson)
      (one : Result (List PlainLesson) Fault) → person_of later table word ≡ one
      → before_all lessons (people_of later table (word ∷ words))
      ≡ before_all lessons (before_rest one (people_of later table words))
  people_at words lessons one at = ap (λ (x : Result (List PlainLesson) Fault).
      before_all lessons (before_rest x (people_of later table words))) at

  -- a further expression was read
  pub people_more : (words : List (List ℕ)) (lessons : List PlainLesson) (lesson : PlainLesson)
      → person_of later table word ≡ Ok (lesson ∷ [])
      → before_all (lessons ++ lesson ∷ []) (people_of later table words)
      ≡ before_all lessons (people_of later table (word ∷ words))
  people_more words lessons lesson at =
      behind_more lessons lesson (people_of later table words)
      ∙ sym (people_at words lessons (Ok (lesson ∷ [])) at)

  pub people_refused : (words : List (List ℕ)) (lessons : List PlainLesson) (fault : Fault)
      → person_of later table word ≡ Err fault
      → before_all lessons (people_of later table (word ∷ words)) ≡ Err fault
  people_refused words lessons fault at = people_at words lessons (Err fault) at
