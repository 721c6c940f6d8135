-- Desks whose view or last line is another hold what is said of it.
use Rattle.std.proofs.Common.{◌≡◌, ◌∙◌, Bool, List, None, Option, Some, ap, false, refl, subst, sym}
use Rattle.std.proofs.Common.{ℕ, length, true}
use Rattle.std.specs.Prelude.{if◌then◌else◌, option_map}
use Rattle.folder_letters.specs.Letters.{Mail}
use Rattle.mail_base.specs.declared.kind.Id.{Id}
use Rattle.index_listed.specs.Cursor.{is_seen}
use Rattle.mail_base.specs.declared.kind.Kind.{Kind}
use Rattle.index_functions.specs.Syncs.{count_discards, synced_text}
use Rattle.index_functions.specs.declared.message.Message.TheVariants.{Synced}
use Rattle.index_items.specs.Changes.{Changed}
use Rattle.session_index.specs.Syncing.{count_of, settled_index, synced}
use Rattle.index_view.specs.Answers.{PlainAnswers}
use Rattle.patterns_match.specs.Pattern.{PlainPattern, plain_pattern}
use Rattle.index_view.specs.View.{IsOf, PlainView, facts_of, messages_over, moved_to, visible_of}
use Rattle.index_view.proofs.ViewLemmas.{moved_of}
use Rattle.patterns_match.specs.declared.pattern.Pattern.{Pattern}
use Rattle.session_index.specs.Answering.{searched_for}
use Rattle.session_index.specs.Desk.{Holds, PlainDesk, plain_desk}
use Rattle.session_index.specs.Effects.{at_id, said, search_way as way_searched, searched, way_of}
use Rattle.session_index.specs.Effects.{went, went_quietly, with_index}
use Rattle.session_index.specs.Index.{PlainIndex, Shows, index_of}
use Rattle.session_index.specs.Motions.{gone, notice_of, way}
use Rattle.session_index.specs.Searching.{place_of, search_way, way_found}
use Rattle.session_index.specs.Shown.{seen}
use Rattle.session_index.specs.declared.desk.Desk.{Desk}
use Rattle.index_functions.specs.declared.motion.Motion.{Motion}
use Rattle.index_functions.specs.declared.notice.Notice.{Notice}
use Rattle.index_functions.specs.declared.rule.Rule.{Rule}
use Rattle.index_functions.specs.declared.way.Way.{Way}
use Rattle.index_functions.specs.declared.way.Way.TheVariants.{To, Stays}
use Rattle.session_index.proofs.IndexLemmas.{same_shows}

pub holds_as : (mails : List Mail) (d : Desk) (p q : PlainDesk) → p ≡ q → Holds mails p d
    → Holds mails q d
holds_as mails d p q is h = record { is_of = h.is_of; same = h.same ∙ is }

-- another desk has the same view
pub beside_holds : (mails : List Mail) (old new : Desk) (p : PlainDesk) → IsOf mails old.view
    → new.view ≡ old.view → plain_desk new ≡ p → Holds mails p new
beside_holds mails old new p is view same =
    record { is_of = subst (IsOf mails) (sym view) is; same = same }

-- another view is put in
pub shown_holds : (mails : List Mail) (d : Desk) (i : PlainIndex) (v : PlainView)
    → Shows mails i v → Holds mails (with_index i (plain_desk d)) (record d { view = v })
shown_holds mails d i v s = record {
  is_of = s.is_of;
  same = ap (λ j. with_index j (plain_desk d)) s.same;
}

module _ (mails : List Mail) (v : PlainView) (id : Id) (is : IsOf mails v) where
  abbrev there : PlainView
  there = record v { cursor = Some id }

  moved_by : (b : Bool) → is_seen (visible_of v) id ≡ b
      → Shows mails (if b then index_of there else index_of v) (if b then there else v)
  moved_by true seen_there = same_shows mails there (moved_of mails v id is seen_there)
  moved_by false hidden = same_shows mails v is

  -- the cursor goes to a message
  pub moved_shows : Shows mails (at_id mails id (index_of v)) (moved_to v id)
  moved_shows = subst (λ (b : Bool). Shows mails (if b then index_of there else index_of v)
      (moved_to v id)) (ap (λ (a : PlainAnswers). is_seen (seen a) id) is.answered)
      (moved_by (is_seen (visible_of v) id) refl)

module _ (mails : List Mail) (d : Desk) (is : IsOf mails d.view) where
  gone_by : (w : Way)
      → Holds mails (went_quietly mails w (plain_desk d)) (record d { view = gone w d.view })
  gone_by (To id) = shown_holds mails d _ _ (moved_shows mails d.view id is)
  gone_by (Stays text) = record { is_of = is; same = refl }

  -- the cursor goes without a text
  pub quiet_holds : (w : Way) (v : PlainView) → v ≡ gone w d.view
      → Holds mails (went_quietly mails w (plain_desk d)) (record d { view = v })
  quiet_holds w v went_there = subst (λ (u : PlainView). Holds mails
      (went_quietly mails w (plain_desk d)) (record d { view = u })) (sym went_there) (gone_by w)

  -- where a motion leads
  pub motion_leads : (rule : Rule) (m : Motion)
      → way m rule.page d.view.answers d.view.cursor ≡ way_of rule mails m (plain_desk d)
  motion_leads rule m =
      ap (λ (a : PlainAnswers). way m rule.page a d.view.cursor) is.answered

  -- where a search leads
  pub search_leads : (pattern : PlainPattern)
      → search_way mails pattern d.view ≡ way_searched mails pattern (plain_desk d)
  search_leads pattern = ap (λ (a : PlainAnswers). way_found d.view.people pattern
      (messages_over mails (facts_of d.view)) a (place_of (seen a) d.view.cursor)) is.answered

-- what is said of where the cursor stays
abbrev heard : Option Notice → PlainDesk → PlainDesk
heard None p = p
heard (Some notice) p = said notice p

went_is : (mails : List Mail) (w : Way) (p : PlainDesk)
    → heard (notice_of w) (went_quietly mails w p) ≡ went mails w p
went_is mails (To id) p = refl
went_is mails (Stays text) p = refl

module _ (mails : List Mail) (w : Way) (p : PlainDesk) (d : Desk)
    (h : Holds mails (went_quietly mails w p) d) where
  -- nothing is said
  pub silent_holds : None ≡ notice_of w → Holds mails (went mails w p) d
  silent_holds none = holds_as mails d _ _
      ((λ i. heard (none i) (went_quietly mails w p)) ∙ went_is mails w p) h

  -- the last line tells why the cursor stays
  pub spoken_holds : (notice : Notice) (new : Desk) → Some notice ≡ notice_of w
      → plain_desk new ≡ said notice (plain_desk d) → new.view ≡ d.view
      → Holds mails (went mails w p) new
  spoken_holds notice new text says view = record {
    is_of = subst (IsOf mails) (sym view) h.is_of;
    same = says ∙ ap (said notice) h.same ∙ (λ i. heard (text i) (went_quietly mails w p))
        ∙ went_is mails w p;
  }

module _ (mails : List Mail) (d : Desk) (is : IsOf mails d.view) (kept pattern : Pattern)
    (same : kept ≡ pattern) where
  abbrev keeping : Desk
  keeping = record d { search = Some kept }

  -- a search that stands there already is made again
  pub searches_again : d.search ≡ Some pattern
      → went mails (search_way mails (plain_pattern pattern) d.view) (plain_desk keeping)
      ≡ searched mails (option_map plain_pattern d.search) (plain_desk d)
  searches_again stands =
      (λ i. went mails (search_leads mails d is (plain_pattern pattern) i)
      (plain_desk (record d { search = (ap Some same ∙ sym stands) i })))
      ∙ (λ i. searched mails (option_map plain_pattern (sym stands i)) (plain_desk d))

  -- a search is kept and made
  pub searches_first :
      went mails (search_way mails (plain_pattern pattern) d.view) (plain_desk keeping)
      ≡ searched_for mails (plain_pattern pattern) (plain_desk d)
  searches_first = λ i. went mails (search_leads mails d is (plain_pattern pattern) i)
      (plain_desk (record d { search = Some (same i) }))

-- a sync left this view
module _ (mails : List Mail) (d : Desk) (w : PlainView) (kind : Kind) (changes : List Changed)
    (s : Shows mails (settled_index mails kind changes (index_of d.view)) w) where
  abbrev left : PlainIndex
  left = settled_index mails kind changes (index_of d.view)

  counted : (kept : ℕ) → kept ≡ length w.answers.sight.order → kept ≡ count_of mails left
  counted kept is = is
      ∙ ap (λ (a : PlainAnswers). length a.sight.order) s.is_of.answered
      ∙ ap (count_of mails) s.same

  pub synced_holds : (kept gone : ℕ) → kept ≡ length w.answers.sight.order
      → gone ≡ count_discards changes → Holds mails (synced mails kind changes (plain_desk d))
      (record d { view = w; message = Synced kept gone })
  synced_holds kept gone kept_is gone_is = record {
    is_of = s.is_of;
    same = λ k. record (plain_desk d) {
      index = s.same k;
      message = synced_text (counted kept kept_is k) (gone_is k);
    };
  }
