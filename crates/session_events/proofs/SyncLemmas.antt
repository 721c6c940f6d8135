-- What syncs tell of the disk.
use Rattle.std.proofs.Common.{◌≡◌, ◌<◌, ◌∙◌, ℕ, Bool, true, List, Option, Some, None}
use Rattle.std.proofs.Common.{Result, Ok, Err, inl, inr, ap, arith, length, refl, subst, sym, take}
use Rattle.std.proofs.lemmas.List.{take_all}
use Rattle.std.specs.List.{All}
use Rattle.std.specs.Prelude.{IsErrOf}
use Rattle.mail_base.specs.Faults.{Rose}
use Rattle.mail_base.specs.declared.kind.Kind.{Kind}
use Rattle.disk_model.specs.Journal.{Past}
use Rattle.disk_model.specs.Judge.{GoesOn, Grows}
use Rattle.disk_model.specs.Seen.{Seen}
use Rattle.folder_changes.proofs.LeftLemmas.{synced_within}
use Rattle.folder_changes.specs.Asked.{AreListed, AreOnce}
use Rattle.folder_changes.specs.Left.{listing_synced}
use Rattle.folder_changes.specs.Refused.{IsBetween}
use Rattle.folder_changes.specs.declared.sync_error.SyncError.{SyncError}
use Rattle.folder_changes.specs.declared.sync_error.SyncError.TheVariants as sync
use Rattle.folder_core.specs.Keeping.{ids_differ}
use Rattle.folder_core.specs.Known.{KnownFolder}
use Rattle.folder_core.specs.Right.{Right}
use Rattle.folder_drivers.specs.Synced.{sync_row}
use Rattle.folder_letters.specs.Letters.{Mail}
use Rattle.folder_letters.specs.declared.listing.Listed.{Listed}
use Rattle.folder_stops.proofs.Does.{does_none}
use Rattle.index_items.specs.Changes.{Changed}
use Rattle.session_events.specs.Checking.{IsOpen, counts_before, counts_behind, standing_over}
use Rattle.session_events.specs.Events.{FolderSynced, SyncRefused, plain_refusal}
use Rattle.session_events.specs.Happened.{Counts, HasCause, IsKnown, IsKnownOf, Standing, WasSynced}
use Rattle.session_events.specs.Happened.{WasNotSynced, WasTried, counts_of}
use Rattle.session_events.specs.Syncing.{MaySync, PreparesSync, SyncsOpen, TriesNothing, TriesSync}
use Rattle.session_events.specs.Syncing.{is_refused}
use Rattle.session_events.specs.Syncing.{sync_event}
use Rattle.session_events.specs.Telling.{IsMarked, Tells}
use Rattle.session_events.specs.Visits.{TouchesAlone}
use Rattle.session_events.specs.declared.event.Marks.{Marks}
use Rattle.session_events.specs.declared.open_folder.OpenFolder.{OpenFolder}
use Rattle.session_events.proofs.LeftLemmas.{synced_differ}
use Rattle.session_events.proofs.OrderLemmas.{in_order_listed, in_order_once}
use Rattle.session_events.proofs.RefusalLemmas.{cause_plain, may_be_plain, synced_kind}
use Rattle.session_events.proofs.RefusalLemmas.{synced_listing, synced_path, works_plain}

-- What was prepared.

module _ (mails : List Mail) (told : Option Past) (folder : OpenFolder) (changes : List Changed)
    (synced : List Listed) (is_open : IsOpen mails told folder)
    (prepares : PreparesSync folder changes synced) where
  -- each change is of a message that is known to be listed
  pub prepares_listed : AreListed folder.known.listing changes
  prepares_listed =
      subst (λ (l : List Listed). AreListed l changes)
      (sym (subst (λ (b : Bool). IsKnownOf b folder.listing.items folder.known.listing)
      prepares.all_known is_open.known))
      (in_order_listed folder.listing.items changes prepares.in_order)

  -- no message changes twice
  pub prepares_once : AreOnce changes
  prepares_once = in_order_once folder.listing.items changes is_open.once prepares.in_order

-- What was done.

module _ (Has : Kind → Type 0) (owner : List ℕ) (purges : Bool) (mails : List Mail)
    (changes : List Changed) (folder mid : OpenFolder) (marks : Marks) (old new : Seen)
    (is_open : IsOpen mails old.told folder) (before : counts_of old ≡ counts_before marks)
    (behind : counts_of new ≡ counts_behind marks) (first : IsMarked old) (last : IsMarked new)
  where
    abbrev at : Kind → Standing
    at empty = standing_over empty owner purges folder

    here : take folder.met mails ≡ mails
    here = take_all folder.met mails (omega (arith, is_open.met))

    known_at : (empty : Kind) (p : Past) → old.told ≡ Some p
        → IsKnown (at empty) mails folder.known p
    known_at empty p told = record {
      path = refl;
      listed = is_open.known;
      right = subst (λ (l : List Mail). Right folder.known.kind l folder.known (Some p)) (sym here)
          (subst (λ (o : Option Past). Right folder.known.kind mails folder.known o) told
          is_open.right);
    }

    -- what a field of a row says, at the letters that were met
    met_here : (P : List Mail → Option Past → Option Past → Type 0) (p q : Past)
        → old.told ≡ Some p → new.told ≡ Some q → P mails old.told new.told
        → P (take folder.met mails) (Some p) (Some q)
    met_here P p q from to is =
        subst (λ (l : List Mail). P l (Some p) (Some q)) (sym here)
        (subst (λ (o : Option Past). P mails o (Some q)) from
        (subst (λ (o : Option Past). P mails old.told o) to is))

    -- It was answered Ok.
    module _ (tries : TriesSync owner purges mails changes (Ok tt) folder mid old new) where
      all_known : folder.known.listing ≡ folder.listing.items
      all_known =
          subst (λ (b : Bool). IsKnownOf b folder.listing.items folder.known.listing)
          tries.all_known is_open.known

      left_known : mid.known.listing ≡ listing_synced folder.known.kind changes folder.listing.items
      left_known =
          synced_listing owner changes folder.known mid.known old.told new.told folder.known.kind
          tries.syncs.syncs.ok_known
          ∙ ap (listing_synced folder.known.kind changes) all_known

      synced_at : (empty : Kind) (p q : Past) → old.told ≡ Some p → new.told ≡ Some q
          → WasSynced (at empty) mails changes p q
      synced_at empty p q from to = record {
        tried = record {
          known = folder.known;
          is = known_at empty p from;
          all_known = tries.all_known;
          listed = in_order_listed folder.listing.items changes tries.in_order;
          once = in_order_once folder.listing.items changes is_open.once tries.in_order;
          works = met_here (λ l a b. (sync_row folder.known.kind).Works owner purges folder.known l
              changes (Ok tt) a b) p q from to tries.syncs.syncs.works;
          keeps = met_here (λ l a b. (sync_row folder.known.kind).Keeps folder.known l changes a b)
              p q from to tries.syncs.syncs.keeps;
          may_be = tt;
          cause = tt;
        };
        left = mid.known;
        synced = met_here (λ l a b. (sync_row folder.known.kind).IsSynced owner changes folder.known
            mid.known a b) p q from to tries.syncs.syncs.ok_known;
        listing = left_known;
        right = met_here (λ l a b. Right folder.known.kind l mid.known b) p q from to
            tries.syncs.right;
      }

      synced_told : (empty : Kind) (a b : Option Past) → old.told ≡ a → new.told ≡ b → Grows a b
          → GoesOn (λ (p q : Past). WasSynced (at empty) mails changes p q) a b
      synced_told empty None b from to grows = grows
      synced_told empty (Some p) None from to grows = absurd grows
      synced_told empty (Some p) (Some q) from to grows = synced_at empty p q from to

      tells_synced : (empty : Kind)
          → Tells Has (at empty) mails (FolderSynced changes marks) old new
      tells_synced empty = record {
        marks = marks;
        marked = refl;
        before = before;
        after = behind;
        on = tries.syncs.syncs.serves.marks;
        faults = tries.syncs.syncs.serves.faults;
        cause = tt;
        happened = synced_told empty old.told new.told refl refl tries.syncs.syncs.serves.grows;
        touches = tries.syncs.syncs.here;
        first = first;
        last = last;
      }

      kind_synced : mid.known.kind ≡ folder.known.kind
      kind_synced =
          synced_kind owner changes folder.known mid.known old.told new.told folder.known.kind
          tries.syncs.syncs.ok_known

      open_synced : IsOpen mails new.told mid
      open_synced = record {
        right = subst (λ (k : Kind). Right k mails mid.known new.told) (sym kind_synced)
            tries.syncs.right;
        known = subst (λ (b : Bool). IsKnownOf b mid.listing.items mid.known.listing)
            (sym (ap (λ (f : OpenFolder). f.forgot) tries.rest ∙ tries.all_known))
            (left_known ∙ sym tries.done);
        within = subst (λ (l : List Listed). All (λ l. l.id.0 < length mails) l) (sym tries.done)
            (synced_within folder.known.kind changes (length mails) folder.listing.items
            is_open.within);
        once = subst (λ (l : List Listed). ids_differ l ≡ true) (sym tries.done)
            (synced_differ folder.known.kind changes folder.listing.items is_open.once);
        met = ap (λ (f : OpenFolder). f.met) tries.rest ∙ is_open.met;
      }

    -- It was refused.
    module _ (why : SyncError)
        (tries : TriesSync owner purges mails changes (Err why) folder mid old new) where
      refused_at : (empty : Kind) (p q : Past) → old.told ≡ Some p → new.told ≡ Some q
          → WasTried (at empty) mails changes (Err (plain_refusal why)) p q
      refused_at empty p q from to = record {
        known = folder.known;
        is = known_at empty p from;
        all_known = tries.all_known;
        listed = in_order_listed folder.listing.items changes tries.in_order;
        once = in_order_once folder.listing.items changes is_open.once tries.in_order;
        works = met_here (λ l a b. (sync_row folder.known.kind).Works owner purges folder.known l
            changes (Err (plain_refusal why)) a b) p q from to
            (works_plain folder.known.kind owner purges folder.known mails changes why old.told
            new.told tries.syncs.syncs.works);
        keeps = met_here (λ l a b. (sync_row folder.known.kind).Keeps folder.known l changes a b)
            p q from to tries.syncs.syncs.keeps;
        may_be = met_here (λ l a b. (sync_row folder.known.kind).MayBe folder.known l changes
            (plain_refusal why)) p q from to
            (may_be_plain folder.known.kind folder.known mails changes why
            tries.syncs.syncs.may_be);
        cause = cause_plain folder.known.kind folder.known (take folder.met mails) changes why
            (length p.journal) (length q.journal) q
            (met_here (λ l a b. IsBetween ((sync_row folder.known.kind).Refused folder.known l
            changes why) a b) p q from to tries.syncs.syncs.cause);
      }

      not_synced : (empty : Kind) (w : SyncError) (p q : Past)
          → WasTried (at empty) mails changes (Err w) p q
          → WasNotSynced (at empty) mails changes w p q
      not_synced empty sync.NoMemory p q was = inr was
      not_synced empty _ p q was = was

      refused_told : (empty : Kind) (a b : Option Past) → old.told ≡ a → new.told ≡ b → Grows a b
          → GoesOn (λ (p q : Past). WasNotSynced (at empty) mails changes (plain_refusal why) p q)
          a b
      refused_told empty None b from to grows = grows
      refused_told empty (Some p) None from to grows = absurd grows
      refused_told empty (Some p) (Some q) from to grows =
          not_synced empty (plain_refusal why) p q (refused_at empty p q from to)

      cause_of : (w : SyncError) → w ≡ why
          → HasCause Has (SyncRefused changes (plain_refusal w) marks) marks
      cause_of sync.Fault same =
          subst (λ (n : ℕ). Rose n marks.faults_after) (ap (λ (c : Counts). c.faults) before)
          (subst (λ (n : ℕ). Rose old.faults n) (ap (λ (c : Counts). c.faults) behind)
          (tries.syncs.syncs.serves.cause (subst (λ (v : SyncError).
          IsErrOf {T = Unit {0}} (Err v) sync.Fault) same refl)))
      cause_of _ same = tt

      tells_refused : (empty : Kind)
          → Tells Has (at empty) mails (SyncRefused changes (plain_refusal why) marks) old new
      tells_refused empty = record {
        marks = marks;
        marked = refl;
        before = before;
        after = behind;
        on = tries.syncs.syncs.serves.marks;
        faults = tries.syncs.syncs.serves.faults;
        cause = cause_of why refl;
        happened = refused_told empty old.told new.told refl refl tries.syncs.syncs.serves.grows;
        touches = tries.syncs.syncs.here;
        first = first;
        last = last;
      }

      open_kept : IsOpen mails new.told mid
      open_kept = record {
        right = subst (λ (k : Kind). Right k mails mid.known new.told)
            (sym (ap (λ (k : KnownFolder). k.kind) tries.syncs.syncs.err_known)) tries.syncs.right;
        known = subst (λ (b : Bool). IsKnownOf b mid.listing.items mid.known.listing)
            (sym (ap (λ (f : OpenFolder). f.forgot) tries.rest))
            (subst (λ (l : List Listed). IsKnownOf folder.forgot l mid.known.listing)
            (sym tries.kept)
            (subst (λ (k : KnownFolder). IsKnownOf folder.forgot folder.listing.items k.listing)
            (sym tries.syncs.syncs.err_known) is_open.known));
        within = subst (λ (l : List Listed). All (λ l. l.id.0 < length mails) l) (sym tries.kept)
            is_open.within;
        once = subst (λ (l : List Listed). ids_differ l ≡ true) (sym tries.kept) is_open.once;
        met = ap (λ (f : OpenFolder). f.met) tries.rest ∙ is_open.met;
      }

    -- Nothing was tried.
    module _ (same : new ≡ old) where
      none_told : (empty : Kind) (a b : Option Past) → b ≡ a
          → GoesOn (λ (p q : Past). WasNotSynced (at empty) mails changes sync.NoMemory p q) a b
      none_told empty None b is = is
      none_told empty (Some p) None is = absurd (cc)
      none_told empty (Some p) (Some q) is = inl (cc)

      tells_none : (empty : Kind)
          → Tells Has (at empty) mails (SyncRefused changes sync.NoMemory marks) old new
      tells_none empty = record {
        marks = marks;
        marked = refl;
        before = before;
        after = behind;
        on = omega (arith, ap (λ (s : Seen). s.marks) same);
        faults = omega (arith, ap (λ (s : Seen). s.faults) same);
        cause = tt;
        happened = none_told empty old.told new.told (ap (λ (s : Seen). s.told) same);
        touches = subst (λ (o : Option Past). TouchesAlone folder.known.kind folder.known.path
            old.told o) (sym (ap (λ (s : Seen). s.told) same))
            (does_none ((sync_row folder.known.kind).home folder.known.path)
            ((sync_row folder.known.kind).making folder.known.path) None old.told);
        first = first;
        last = last;
      }

    -- the folder with what it says of its last sync
    abbrev told_refused : OpenFolder → Bool → OpenFolder
    told_refused f refused = record f { refused = refused }

    pub syncs_open : (answer : Result (Unit {0}) SyncError) (refused : Bool)
        → refused ≡ is_refused (sync_event changes answer marks)
        → MaySync owner purges mails changes answer folder mid old new
        → SyncsOpen Has owner purges mails (sync_event changes answer marks) folder
        (told_refused mid refused) old new
    syncs_open (Ok done) refused said may =
        elim may.went [ inl none ↦ absurd (no_error none.why) | inr tries ↦ synced tries ]
      where
        no_error : ◌≡◌ {A = Result (Unit {0}) SyncError} (Ok done) (Err sync.NoMemory) → ⊥
        no_error is = cc

        synced : TriesSync owner purges mails changes (Ok done) folder mid old new
            → SyncsOpen Has owner purges mails (FolderSynced changes marks) folder
            (told_refused mid refused) old new
        synced tries = record {
          tells = tells_synced tries;
          is_open = record {
            right = (open_synced tries).right;
            known = (open_synced tries).known;
            within = (open_synced tries).within;
            once = (open_synced tries).once;
            met = (open_synced tries).met;
          };
          path = synced_path owner changes folder.known mid.known old.told new.told
              folder.known.kind tries.syncs.syncs.ok_known;
          kind = kind_synced tries;
          listing = tries.done;
          met = ap (λ (f : OpenFolder). f.met) tries.rest;
          forgot = ap (λ (f : OpenFolder). f.forgot) tries.rest;
          checked = ap (λ (f : OpenFolder). f.checked) tries.rest;
          refused = said;
        }
    syncs_open (Err why) refused said may =
        elim may.went [ inl none ↦ starved none | inr tries ↦ not_done tries ]
      where
        starved : TriesNothing (Err why) folder mid old new
            → SyncsOpen Has owner purges mails (SyncRefused changes (plain_refusal why) marks)
            folder (told_refused mid refused) old new
        starved none =
            let starves : why ≡ sync.NoMemory = cc in
            record {
              tells = λ empty. subst (λ (w : SyncError). Tells Has (at empty) mails
                  (SyncRefused changes (plain_refusal w) marks) old new) (sym starves)
                  (tells_none none.seen_is empty);
              is_open = subst (λ (f : OpenFolder). IsOpen mails new.told (told_refused f refused))
                  (sym none.folder_is)
                  (subst (λ (s : Seen). IsOpen mails s.told (told_refused folder refused))
                  (sym none.seen_is)
                  (record {
                    right = is_open.right;
                    known = is_open.known;
                    within = is_open.within;
                    once = is_open.once;
                    met = is_open.met;
                  }));
              path = ap (λ (f : OpenFolder). f.known.path) none.folder_is;
              kind = ap (λ (f : OpenFolder). f.known.kind) none.folder_is;
              listing = ap (λ (f : OpenFolder). f.listing.items) none.folder_is;
              met = ap (λ (f : OpenFolder). f.met) none.folder_is;
              forgot = ap (λ (f : OpenFolder). f.forgot) none.folder_is;
              checked = ap (λ (f : OpenFolder). f.checked) none.folder_is;
              refused = said;
            }

        not_done : TriesSync owner purges mails changes (Err why) folder mid old new
            → SyncsOpen Has owner purges mails (SyncRefused changes (plain_refusal why) marks)
            folder (told_refused mid refused) old new
        not_done tries = record {
          tells = tells_refused why tries;
          is_open = record {
            right = (open_kept why tries).right;
            known = (open_kept why tries).known;
            within = (open_kept why tries).within;
            once = (open_kept why tries).once;
            met = (open_kept why tries).met;
          };
          path = ap (λ (k : KnownFolder). k.path) tries.syncs.syncs.err_known;
          kind = ap (λ (k : KnownFolder). k.kind) tries.syncs.syncs.err_known;
          listing = tries.kept;
          met = ap (λ (f : OpenFolder). f.met) tries.rest;
          forgot = ap (λ (f : OpenFolder). f.forgot) tries.rest;
          checked = ap (λ (f : OpenFolder). f.checked) tries.rest;
          refused = said;
        }
