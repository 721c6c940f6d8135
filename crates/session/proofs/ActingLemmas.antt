-- What functions and answers to prompts do stands as it is said.
use Rattle.std.proofs.Common.{◌≡◌, ◌∙◌, ℕ, Bool, true, false, List, Option, ap, refl, subst}
use Rattle.std.proofs.Common.{sym}
use Rattle.std.specs.Prelude.{if◌then◌else◌}
use Rattle.folder_letters.specs.Letters.{Mail}
use Rattle.index_view.specs.View.{IsOf, PlainView}
use Rattle.keymap.specs.declared.function.Function.{Function}
use Rattle.mail_base.specs.Series.{Held}
use Rattle.mail_base.specs.declared.kind.Id.{Id}
use Rattle.prompts.specs.declared.asking.Asking.{Asking}
use Rattle.session_index.specs.Desk.{Holds, PlainWanted, plain_desk, plain_wanted}
use Rattle.session_index.specs.Effects.{performed}
use Rattle.session_index.specs.Viewing.{allows, gone_on, leads, way_on}
use Rattle.session_index.specs.declared.desk.Desk.{Desk}
use Rattle.index_functions.specs.declared.rule.Rule.{Rule}
use Rattle.index_functions.specs.declared.wanted.Wanted.{Wanted}
use Rattle.index_functions.specs.declared.wanted.Wanted.TheVariants as wanted
use Rattle.session_pager.specs.declared.pager_functions.PagerDeed.{PagerDeed}
use Rattle.session_pager.specs.declared.pager_functions.PagerDeed.TheVariants as pager
use Rattle.session.specs.Acting.{deleting, followed, is_at, on_or_left, page_done, pager_done}
use Rattle.session.specs.Acting.{performed_by, performed_in, still}
use Rattle.session.specs.Answers.{heeded, heeded_by}
use Rattle.session.specs.Core.{CoreState, Ground, IsOver, Reads, plain_core, with_desk}
use Rattle.session.specs.Reading.{left}
use Rattle.session.specs.Rules.{rule_of}
use Rattle.session.specs.Showing.{displaying_cursor}
use Rattle.session.specs.declared.core_state.Core.{Core}
use Rattle.session.proofs.CoreLemmas.{stands_by, wanting}
use Rattle.session_screen.specs.declared.window.Window.{Window}

pub then_is : {A : Type 0} (b : Bool) (x y : A) → b ≡ true → (if b then x else y) ≡ x
then_is true x y is = refl
then_is false x y is = absurd (cc)

pub else_is : {A : Type 0} (b : Bool) (x y : A) → b ≡ false → (if b then x else y) ≡ y
else_is false x y is = refl
else_is true x y is = absurd (cc)

-- what is shown was made anew over the same index
pub over_fresh : (mails : List Mail) (window : Window) (view : PlainView) (new : Core)
    → new.desk.view ≡ view → IsOf mails view → Reads mails window new → IsOver mails window new
over_fresh mails window view new same is_of reads = record {
  is_of = subst (IsOf mails) (sym same) is_of;
  reads = reads;
}

-- a function is done in the index by the rule of the settings
pub performing : (window : Window) (rule : Rule) (mails : List Mail) (function : Function)
    (core : Core) (d : Desk) (c : CoreState) → rule ≡ rule_of core.rules.settings core.kind window
    → plain_core core ≡ c → Holds mails (performed rule mails function (plain_desk core.desk)) d
    → plain_core (record core { desk = d }) ≡ performed_in window mails function c
performing window rule mails function core d c by is holds =
    (stands_by mails core d _ holds).same
    ∙ ap (λ (r : Rule). performed_by r mails function (plain_core core)) by
    ∙ ap (performed_in window mails function) is

-- the cursor has come to another message
pub follows : (g : Ground) (was was' here : Option Id) (mid c : CoreState) → was' ≡ was
    → here ≡ mid.desk.index.cursor → is_at was' here ≡ false → mid ≡ c
    → displaying_cursor g mid ≡ followed g was c
follows g was was' here mid c first second apart is =
    sym (else_is (is_at was mid.desk.index.cursor) mid (displaying_cursor g mid)
    (sym (ap (λ (o : Option Id). is_at o here) first
    ∙ ap (λ (o : Option Id). is_at was o) second) ∙ apart))
    ∙ ap (followed g was) is

-- no further message is left
pub leaves : (g : Ground) (rule : Rule) (c : CoreState)
    → leads (way_on rule g.given.mails c.desk) ≡ false
    → left (with_desk (gone_on rule g.given.mails c.desk) c) ≡ on_or_left g rule c
leaves g rule c none = sym (else_is (leads (way_on rule g.given.mails c.desk)) _ _ none)

-- a message is deleted
pub deletes : (g : Ground) (function : Function) (c : CoreState)
    → allows g.given.mails function c.desk ≡ true
    → on_or_left g (still g.window c) (performed_by (still g.window c) g.given.mails function c)
    ≡ deleting g function c
deletes g function c allowed =
    sym (then_is (allows g.given.mails function c.desk) _ _ allowed)

-- what is done to the pages alone
pub paged : (g : Ground) (function : Function) (deed : PagerDeed) (c : CoreState)
    → (deed ≡ pager.Follow → ⊥) → (deed ≡ pager.AsInIndex → ⊥) → (deed ≡ pager.DeleteOn → ⊥)
    → page_done g.given.mails g.window deed c ≡ pager_done g function deed c
paged g function pager.Follow c follow as_in delete = absurd (follow refl)
paged g function pager.AsInIndex c follow as_in delete = absurd (as_in refl)
paged g function pager.DeleteOn c follow as_in delete = absurd (delete refl)
paged g function pager.Leave c follow as_in delete = refl
paged g function (pager.Turn turn) c follow as_in delete = refl
paged g function pager.AskSearch c follow as_in delete = refl
paged g function pager.SearchAgain c follow as_in delete = refl
paged g function pager.NoDeed c follow as_in delete = refl

-- what is wanted of the run is no answer to a prompt
pub heeded_else : (g : Ground) (w : Wanted) (c : CoreState)
    → ((asking : Asking) (text : Held ℕ) → w ≡ wanted.ToAnswer asking text → ⊥)
    → ((asking : Asking) (key : ℕ) → w ≡ wanted.ToChoose asking key → ⊥)
    → c ≡ heeded_by g (plain_wanted w) c
heeded_else g wanted.Unasked c no_text no_key = refl
heeded_else g wanted.ToEnd c no_text no_key = refl
heeded_else g (wanted.ToAnswer asking text) c no_text no_key = absurd (no_text asking text refl)
heeded_else g (wanted.ToChoose asking key) c no_text no_key = absurd (no_key asking key refl)
heeded_else g wanted.ToDisplay c no_text no_key = refl
heeded_else g wanted.ToList c no_text no_key = refl
heeded_else g (wanted.ToSync purge quits) c no_text no_key = refl

-- so what is wanted is put back
pub put_back : (g : Ground) (w : Wanted) (c : CoreState)
    → ((asking : Asking) (text : Held ℕ) → w ≡ wanted.ToAnswer asking text → ⊥)
    → ((asking : Asking) (key : ℕ) → w ≡ wanted.ToChoose asking key → ⊥)
    → plain_wanted w ≡ c.desk.wanted → wanting (plain_wanted w) c ≡ heeded g c
put_back g w c no_text no_key is = ap (λ (p : PlainWanted). wanting p c) is
    ∙ heeded_else g w c no_text no_key ∙ ap (λ (p : PlainWanted). heeded_by g p c) is
