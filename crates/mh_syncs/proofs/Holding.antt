-- What a stop leaves while our calls change nothing, and in a whole sync.
use Rattle.std.proofs.Common.{◌≡◌, ◌||◌, ◌==◌, ℕ, Bool, true, false, List, [], ◌∷◌, Option}
use Rattle.std.proofs.Common.{None, inl, inr, length, refl, subst, sym}
use Rattle.std.proofs.lemmas.Bool.{and_parts}
use Rattle.std.specs.Str.{bytes_eq}
use Rattle.mail_base.specs.Ordered.{IsIn}
use Rattle.mail_base.specs.declared.kind.Id.{Id}
use Rattle.disk_model.specs.Journal.{Done, Entry, Others, Own, Past, Refused}
use Rattle.disk_model.specs.State.{State, after_done, after_entry, after_refused, state_after}
use Rattle.disk_model.specs.Judge.{GoesOn}
use Rattle.disk_model.specs.Looking.{LooksOnly, all_look, is_look}
use Rattle.disk_model.proofs.Marks.{look_keeps, refusal_keeps}
use Rattle.disk_model.proofs.Trees.{bytes_same}
use Rattle.index_items.specs.Changes.{Alters, Changed, Discards, PlainChange}
use Rattle.folder_letters.specs.Letters.{Mail}
use Rattle.folder_core.specs.Keeping.{mail_of}
use Rattle.folder_core.specs.Known.{KnownFolder}
use Rattle.folder_core.proofs.SeenLemmas.{goes_as}
use Rattle.folder_changes.specs.Asked.{discarded, ids_of, with_discarded}
use Rattle.folder_drivers.specs.MhLeft.{BoreStamp, KeepsNumbers}
use Rattle.folder_shapes.specs.Mh.{mh_files, mh_shape, number_in}
use Rattle.folder_shapes.proofs.MhLemmas.{an_mh_folder, mh_formed}
use Rattle.folder_stops.specs.Along.{Keeps}
use Rattle.folder_stops.specs.Messages.{StoredMessage}
use Rattle.folder_stops.specs.Others.{MayDoTo, with_entry}
use Rattle.folder_stops.specs.Rows.{Holds}
use Rattle.folder_stops.specs.Syncs.{Syncing}
use Rattle.folder_stops.specs.Words.{has}
use Rattle.folder_stops.proofs.Does.{does_looked}
use Rattle.folder_stops.proofs.Syncs as S
use Rattle.mh_syncs.specs.Parts.{KeepsAllBut, LeavesAll}
use Rattle.mh_syncs.specs.Stamps.{AllBear}
use Rattle.mh_syncs.proofs.Calling.{looks_leave}
use Rattle.mh_syncs.proofs.Meeting.{bore_stamp}

false_true : ◌≡◌ {A = Bool} false true → ⊥
false_true e = cc

module _ (path : List ℕ) (keys : List (List ℕ)) where
  still : (s t : State) (all : List StoredMessage) → t ≡ s → Syncing (mh_shape path) keys all s
      → Syncing (mh_shape path) keys all t
  still s t all e is = subst (Syncing (mh_shape path) keys all) (sym e) is

  -- entries in which we changed nothing, with what others do
  quiet : (entries : List Entry) (s : State) → all_look entries ≡ true
      → Keeps (with_entry (mh_shape path) keys) (MayDoTo (mh_shape path) (mh_files path).sides)
      (Holds (mh_shape path)) (Syncing (mh_shape path) keys)
      (Syncing (mh_shape path) keys) s entries
  quiet [] s look all may is = (is.holds, is)
  quiet (Own call Done ∷ entries) s look all may is =
      let both = and_parts (is_look call) (all_look entries) look in
      let rest = quiet entries (after_done call s) both.1 all may
      (still s (after_done call s) all (look_keeps call s both.0) is) in
      ((is.holds, rest.0), rest.1)
  quiet (Own call (Refused why wrote) ∷ entries) s look all may is =
      let both = and_parts (is_look call || wrote == 0) (all_look entries) look in
      let rest = quiet entries (after_refused call wrote s) both.1 all may
      (still s (after_refused call wrote s) all (refusal_keeps call wrote s both.0) is) in
      ((is.holds, rest.0), rest.1)
  quiet (Others action ∷ entries) s look all may is =
      let both = and_parts true (all_look entries) look in
      let stage = S.syncing_stage (mh_shape path) (mh_files path).sides keys (mh_formed path) in
      let rest = quiet entries (after_entry s (Others action)) both.1
      (with_entry (mh_shape path) keys (Others action) s all) may.1
      (stage.stable action all s may.0 is) in
      ((is.holds, rest.0), rest.1)

  -- looks leave all messages
  pub keeps_looked : (old new : Option Past) → LooksOnly old new → KeepsAllBut path keys old new
  keeps_looked old new looks = record {
    holds = record {
      grown = goes_as old new (λ p q looked. record {
        same_first = looked.same_first;
        more = looked.more;
        journal = looked.journal;
        along = quiet looked.more (state_after p) looked.look;
      }) looks;
    };
    here = does_looked (mh_shape path).home (number_in path) None looks;
  }

pub leaves_looked : (path : List ℕ) (old new : Option Past) → LooksOnly old new
    → LeavesAll path old new
leaves_looked path old new looks = record {
  does = looks_leave path old new looks;
  holds = λ keys. keeps_looked path keys old new looks;
}

-- The whole.

-- none goes
pub keeps_none : (known : KnownFolder) (mails : List Mail) (changes : List Changed)
    (old new : Option Past) → KeepsAllBut known.path [] old new
    → KeepsNumbers known mails changes old new
keeps_none known mails changes old new keeps = record {
  keys = [];
  named = λ key held. absurd (false_true held);
  keeps = S.kept_holds (mh_files known.path) [] (an_mh_folder known.path) keeps.holds;
}

-- one of the changes discards the message of a key
record Found (known : KnownFolder) (mails : List Mail) (changes : List Changed) (key : List ℕ)
    (old new : Option Past) : Type 0 where
  id : Id
  among : IsIn id (ids_of changes)
  key_is : key ≡ (mail_of mails id.0).key
  bore : GoesOn (λ p q. BoreStamp known mails id (length p.journal) (length q.journal) q) old new

found_in : (known : KnownFolder) (mails : List Mail) (changes : List Changed) (key : List ℕ)
    (old new : Option Past) → AllBear known mails changes old new
    → has (discarded mails changes) key ≡ true → Found known mails changes key old new
found_in known mails [] key old new bear held = absurd (false_true held)
found_in known mails (changed ∷ changes) key old new bear held =
    by changed.change held (λ h. found_in known mails changes key old new bear.1 h)
  where
    later : Found known mails changes key old new
        → Found known mails (changed ∷ changes) key old new
    later f = record { id = f.id; among = inr f.among; key_is = f.key_is; bore = f.bore }

    by : (change : PlainChange)
        → has (with_discarded (mail_of mails changed.id.0).key change (discarded mails changes)) key
        ≡ true
        → (has (discarded mails changes) key ≡ true → Found known mails changes key old new)
        → Found known mails (changed ∷ changes) key old new
    by (Alters added cleared) held again = later (again held)
    by Discards held again = by_key (bytes_eq (mail_of mails changed.id.0).key key) refl held
      where
        by_key : (t : Bool) → bytes_eq (mail_of mails changed.id.0).key key ≡ t
            → (t || has (discarded mails changes) key) ≡ true
            → Found known mails (changed ∷ changes) key old new
        by_key true is held = record {
          id = changed.id;
          among = inl refl;
          key_is = sym (bytes_same (mail_of mails changed.id.0).key key is);
          bore = bore_stamp known mails changed changes old new bear;
        }
        by_key false is held = later (again held)

-- those that are discarded may go
pub keeps_discarded : (known : KnownFolder) (mails : List Mail) (changes : List Changed)
    (old new : Option Past) → AllBear known mails changes old new
    → KeepsAllBut known.path (discarded mails changes) old new
    → KeepsNumbers known mails changes old new
keeps_discarded known mails changes old new bear keeps = record {
  keys = discarded mails changes;
  named = λ key held. let f = found_in known mails changes key old new bear held in record {
    id = f.id;
    among = f.among;
    key_is = f.key_is;
    discards = held;
    bore = f.bore;
  };
  keeps = S.kept_holds (mh_files known.path) (discarded mails changes) (an_mh_folder known.path)
      keeps.holds;
}
