-- What a whole sync did.
use Rattle.std.proofs.Common.{◌≡◌, ◌≢◌, ◌≤◌, ◌<◌, ◌+◌, ◌==◌, ℕ, Bool, true, false, List, []}
use Rattle.std.proofs.Common.{Option, Some, None, Result, Ok, Err, option_map, length, refl, sym}
use Rattle.std.proofs.Common.{◌∙◌}
use Rattle.std.proofs.Common.{ap, subst, arith, inl, inr, nat_lt, ltb-true}
use Rattle.mail_base.specs.declared.kind.Kind.TheVariants.{Mh}
use Rattle.disk_model.specs.Journal.{Past}
use Rattle.disk_model.specs.Judge.{GoesOn, Grows, IsLonger}
use Rattle.disk_model.specs.State.{tree_at}
use Rattle.disk_model.specs.Tree.{TreeNode}
use Rattle.disk_model.proofs.Marks.{length_longer, tree_at-longer}
use Rattle.index_items.specs.Changes.{Changed, PlainChange}
use Rattle.folder_letters.specs.Letters.{Mail}
use Rattle.folder_core.specs.Mh.{is_number, number_at, sequences_at}
use Rattle.folder_core.specs.MhSequences.{mh_flags}
use Rattle.folder_core.proofs.SeenLemmas.{goes_as}
use Rattle.folder_changes.specs.Asked.{discarded, what_of}
use Rattle.folder_changes.specs.Wanted.{wanted}
use Rattle.folder_changes.specs.Worked.{due, nothing_wanted, own_at}
use Rattle.folder_changes.specs.declared.sync_error.SyncError.{SyncError}
use Rattle.folder_changes.proofs.StepLemmas.{early, nothing_of, same_of}
use Rattle.folder_core.specs.Known.{KnownFolder}
use Rattle.folder_drivers.specs.MhLeft.{KeepsNumbers}
use Rattle.folder_shapes.specs.Mh.{mh_shape, number_in}
use Rattle.folder_stops.specs.Does.{Does}
use Rattle.folder_drivers.specs.MhSync.{DidByNumber, DoesByNumber, LeavesNumbers}
use Rattle.folder_drivers.specs.MhSync.{OthersSpare, WorksByNumber, flags_wanted, mh_at}
use Rattle.folder_drivers.specs.MhSync.{sequences_wanted}
use Rattle.mh_syncs.specs.Met.{MetAt}
use Rattle.mh_syncs.specs.Parts.{Away, AwayAt, PlacedAt, Places, PutsNew, Reads, WentAway}
use Rattle.mh_syncs.specs.Parts.{KeepsAllBut, LeavesAll, Prepares, gone_of}
use Rattle.mh_syncs.proofs.Calling.{both_leave, goes_four, keeps_then, leaves_at, none_leaves}
use Rattle.mh_syncs.proofs.Holding.{keeps_discarded, keeps_none}
use Rattle.mh_syncs.proofs.Meeting.{all_bear_later}
use Rattle.mh_syncs.proofs.Marking.{longer_then}
use Rattle.folder_drivers.proofs.MhMessages.{placed_reads}

not_less : (i j : ℕ) → nat_lt i j ≡ false → j ≤ i
not_less i j is = grind (arith, is)

module _ (purge : Bool) (path : List ℕ) (mails : List Mail) (changes : List Changed)
    (sequences : List ℕ)
    (follows : (name : List ℕ) → is_number name ≡ true
    → mh_flags (sequences_wanted mails changes sequences) (number_at name)
    ≡ flags_wanted sequences (what_of mails changes name) (number_at name)) where
  module _ (part : List ℕ → Option PlainChange) (p q r s t : Past)
      (first : LeavesNumbers path p q)
      (met : MetAt (λ tree. sequences_at tree path ≡ sequences) (length p.journal)
      (length q.journal) q)
      (places : Places path (sequences_wanted mails changes sequences) q r)
      (away : Away purge path part r s)
      (last : LeavesNumbers path s t) where
    longer_rest : IsLonger r t
    longer_rest = longer_then r s t away.longer last.longer

    longer_second : IsLonger q t
    longer_second = longer_then q r t places.longer longer_rest

    longer_all : IsLonger p t
    longer_all = longer_then p q t first.longer longer_second

    low_q : length p.journal ≤ length q.journal
    low_q = length_longer p q first.longer

    low_r : length q.journal ≤ length r.journal
    low_r = length_longer q r places.longer

    low_s : length r.journal ≤ length s.journal
    low_s = length_longer r s away.longer

    low_t : length s.journal ≤ length t.journal
    low_t = length_longer s t last.longer

    module _ (past : Past) (on : IsLonger t past)
        (spare : OthersSpare path (length p.journal) (length t.journal) past) where
      on_s : IsLonger s past
      on_s = longer_then s t past last.longer on

      on_r : IsLonger r past
      on_r = longer_then r t past longer_rest on

      on_q : IsLonger q past
      on_q = longer_then q t past longer_second on

      placed : PlacedAt path (sequences_wanted mails changes sequences) (length q.journal)
          (length r.journal) past
      placed = places.does past on_r (λ mark action from to is.
          spare mark action (omega (arith, from, low_q)) (omega (arith, to, low_s, low_t)) is)

      gone : AwayAt purge path part (length r.journal) (length s.journal) past
      gone = away.does past on_s

      read_is : sequences_at (tree_at past met.mark) path ≡ sequences
      read_is = ap (λ (tree : List TreeNode). sequences_at tree path)
          (tree_at-longer q past met.mark on_q met.to) ∙ met.is

      flags_are : (name : List ℕ) → is_number name ≡ true
          → mh_flags (sequences_at (tree_at past (placed.placed + 1)) path) (number_at name)
          ≡ flags_wanted (sequences_at (tree_at past met.mark) path) (what_of mails changes name)
          (number_at name)
      flags_are name number =
          ap (λ (l : List ℕ). mh_flags l (number_at name)) placed.written
          ∙ follows name number
          ∙ sym (ap (λ (l : List ℕ). flags_wanted l (what_of mails changes name) (number_at name))
          read_is)

      -- a mark that is no step of a message
      quiet_at : (mark : ℕ)
          → ((key : List ℕ) → part key ≢ None → (gone.step key == mark) ≡ false)
          → mh_at path past (mark + 1) ≡ mh_at path past mark
          → mh_at path past (mark + 1)
          ≡ option_map (wanted Mh (due gone.step part mark)) (mh_at path past mark)
      quiet_at mark other is =
          is ∙ sym (same_of Mh (due gone.step part mark) (λ key. None)
          (λ key. early (part key) (gone.step key == mark) (λ some. other key some))
          (mh_at path past mark) ∙ nothing_of Mh (mh_at path past mark))

      before_step : (mark : ℕ) → mark < length r.journal → (key : List ℕ) → part key ≢ None
          → (gone.step key == mark) ≡ false
      before_step mark low key some = grind (arith, low, gone.from key some)

      behind_step : (mark : ℕ) → length s.journal ≤ mark → (key : List ℕ) → part key ≢ None
          → (gone.step key == mark) ≡ false
      behind_step mark high key some = grind (arith, high, gone.to key some)

      does_at : (mark : ℕ) → length p.journal ≤ mark → mark < length t.journal
          → own_at mark past ≡ true → mark ≢ placed.placed
          → (a b c : Bool) → nat_lt mark (length q.journal) ≡ a
          → nat_lt mark (length r.journal) ≡ b → nat_lt mark (length s.journal) ≡ c
          → mh_at path past (mark + 1)
          ≡ option_map (wanted Mh (due gone.step part mark)) (mh_at path past mark)
      does_at mark from to own other true b c is_q is_r is_s =
          let low = ltb-true mark (length q.journal) is_q in
          quiet_at mark (before_step mark (omega (arith, low, low_r)))
          (first.leaves past on_q mark from low own)
      does_at mark from to own other false true c is_q is_r is_s =
          let low = ltb-true mark (length r.journal) is_r in
          quiet_at mark (before_step mark low)
          (placed.leaves mark (not_less mark (length q.journal) is_q) low own other)
      does_at mark from to own other false false true is_q is_r is_s =
          gone.does mark (not_less mark (length r.journal) is_r)
          (ltb-true mark (length s.journal) is_s) own
      does_at mark from to own other false false false is_q is_r is_s =
          let high = not_less mark (length s.journal) is_s in
          quiet_at mark (behind_step mark high) (last.leaves past on mark high to own)

      works : WorksByNumber purge path mails changes part (length p.journal) (length t.journal)
          past
      works = record {
        read = met.mark;
        placed = placed.placed;
        from = met.from;
        on = omega (arith, met.to, placed.from);
        to = omega (arith, placed.to, low_s, low_t);
        own = placed.own;
        flags = placed_reads path (sequences_at (tree_at past met.mark) path)
            (what_of mails changes) (tree_at past placed.placed)
            (tree_at past (placed.placed + 1)) placed.alike
            (λ name number. flags_are name number);
        written = placed.written ∙ sym (ap (sequences_wanted mails changes) read_is);
        step = gone.step;
        behind = λ key some. omega (arith, placed.to, gone.from key some);
        before = λ key some. omega (arith, gone.to key some, low_t);
        by = λ key some. gone.by key some;
        does = λ mark from to own other. does_at mark from to own other
            (nat_lt mark (length q.journal)) (nat_lt mark (length r.journal))
            (nat_lt mark (length s.journal)) refl refl refl;
      }

    pub does_number : DoesByNumber purge path mails changes part p t
    does_number = record {
      longer = longer_all;
      does = λ past on spare. works past on spare;
    }

  -- the reading beside the calls up to it
  with_reading : (a b : Option Past) → GoesOn (LeavesNumbers path) a b
      → Reads path sequences a b
      → GoesOn (λ p q. LeavesNumbers path p q × MetAt (λ tree. sequences_at tree path ≡ sequences)
      (length p.journal) (length q.journal) q) a b
  with_reading None b leaves reads = leaves
  with_reading (Some a) None leaves reads = leaves
  with_reading (Some a) (Some b) leaves reads = (leaves, reads)

  module _ (a b c d e : Option Past) (leaves : GoesOn (LeavesNumbers path) a b)
      (reads : Reads path sequences a b)
      (places : GoesOn (Places path (sequences_wanted mails changes sequences)) b c) where
    -- all was done, whatever the last call is answered
    pub did_all : (result : Result (Unit {0}) SyncError)
        → WentAway purge path (gone_of mails changes) (Ok tt) c d
        → GoesOn (LeavesNumbers path) d e → DidByNumber purge path mails changes result a e
    did_all result went last =
        by result (goes_four a b c d e
        (λ p q r s t x y z w. does_number (gone_of mails changes) p q r s t x.0 x.1 y z w)
        (with_reading a b leaves reads) places went last)
      where
        by : (result : Result (Unit {0}) SyncError)
            → GoesOn (DoesByNumber purge path mails changes (gone_of mails changes)) a e
            → DidByNumber purge path mails changes result a e
        by (Ok done) did = did
        by (Err why) did = goes_as a e (λ p t x. record {
          part = gone_of mails changes;
          within = λ key some. refl;
          does = inr x;
        }) did

    -- a part was done
    pub did_part : (why : SyncError)
        → WentAway purge path (gone_of mails changes) (Err why) c d
        → GoesOn (LeavesNumbers path) d e → DidByNumber purge path mails changes (Err why) a e
    did_part why went last =
        goes_four a b c d e
        (λ p q r s t x y z w. record {
          part = z.part;
          within = z.within;
          does = inr (does_number z.part p q r s t x.0 x.1 y z.does w);
        })
        (with_reading a b leaves reads) places went last

-- nothing was done up to a refusal
pub did_none : (purge : Bool) (path : List ℕ) (mails : List Mail) (changes : List Changed)
    (why : SyncError) (a b : Option Past) → GoesOn (LeavesNumbers path) a b
    → DidByNumber purge path mails changes (Err why) a b
did_none purge path mails changes why a b leaves =
    goes_as a b (λ p q x. record {
      part = nothing_wanted;
      within = λ key some. absurd (some refl);
      does = inl x;
    }) leaves

-- The parts of a sync, whose calls name the folder by its path.

leaves_path : (at path : List ℕ) (a b : Option Past) → at ≡ path → GoesOn (LeavesNumbers at) a b
    → GoesOn (LeavesNumbers path) a b
leaves_path at path a b is leaves =
    subst (λ (p : List ℕ). GoesOn (LeavesNumbers p) a b) is leaves

keeps_path : (at path : List ℕ) (keys : List (List ℕ)) (a b : Option Past) → at ≡ path
    → KeepsAllBut at keys a b → KeepsAllBut path keys a b
keeps_path at path keys a b is keeps =
    subst (λ (p : List ℕ). KeepsAllBut p keys a b) is keeps

module _ (purge : Bool) (known : KnownFolder) (mails : List Mail) (changes : List Changed) where
  -- what may be said of a sync in the middle
  pub record Stands (result : Result (Unit {0}) SyncError) (old new : Option Past) : Type 0 where
    pub works : DidByNumber purge known.path mails changes result old new
    pub keeps : KeepsNumbers known mails changes old new
    pub here : Does (mh_shape known.path).home (number_in known.path) None old new

  pub not_prepared : (why : SyncError) (old new : Option Past) → LeavesAll known.path old new
      → Stands (Err why) old new
  not_prepared why old new leaves = record {
    works = did_none purge known.path mails changes why old new leaves.does;
    keeps = keeps_none known mails changes old new (leaves.holds []);
    here = (leaves.holds []).here;
  }

  pub not_put : (at text : List ℕ) (why : SyncError) (old mid new : Option Past)
      → at ≡ known.path → LeavesAll known.path old mid → PutsNew at text (Err why) mid new
      → ((keys : List (List ℕ)) → KeepsAllBut at keys mid new) → Stands (Err why) old new
  not_put at text why old mid new is first puts holds =
      not_prepared why old new (record {
        does = both_leave known.path old mid new first.does
            (leaves_path at known.path mid new is puts);
        holds = λ keys. keeps_then known.path keys old mid new (first.holds keys)
            (keeps_path at known.path keys mid new is (holds keys));
      })

  module _ (at to text shown : List ℕ) (is : at ≡ known.path) (also : to ≡ known.path)
      (same : shown ≡ text) (old a b c : Option Past) (first : LeavesAll known.path old a)
      (prepares : Prepares known mails changes text old a)
      (follows : (name : List ℕ) → is_number name ≡ true
      → mh_flags (sequences_wanted mails changes prepares.sequences) (number_at name)
      ≡ flags_wanted prepares.sequences (what_of mails changes name) (number_at name))
      (puts : PutsNew at shown (Ok tt) a b)
      (holds : (keys : List (List ℕ)) → KeepsAllBut at keys a b)
      (kept : KeepsAllBut to (discarded mails changes) b c) where
    put_there : GoesOn (Places known.path (sequences_wanted mails changes prepares.sequences)) a b
    put_there = subst (λ (l : List ℕ). GoesOn (Places known.path l) a b)
        (same ∙ prepares.text_is)
        (subst (λ (p : List ℕ). GoesOn (Places p shown) a b) is puts)

    held : KeepsAllBut known.path (discarded mails changes) old c
    held = keeps_then known.path (discarded mails changes) old a c
        (first.holds (discarded mails changes))
        (keeps_then known.path (discarded mails changes) a b c
        (keeps_path at known.path (discarded mails changes) a b is
        (holds (discarded mails changes)))
        (keeps_path to known.path (discarded mails changes) b c also kept))

    pub not_gone : (why : SyncError) → Grows a c
        → WentAway purge to (gone_of mails changes) (Err why) b c → Stands (Err why) old c
    not_gone why grows went = record {
      works = did_part purge known.path mails changes prepares.sequences follows old a b c c
          first.does prepares.reads put_there why
          (subst (λ (p : List ℕ). WentAway purge p (gone_of mails changes) (Err why) b c) also went)
          (none_leaves known.path c);
      keeps = keeps_discarded known mails changes old c
          (all_bear_later known mails changes old a c prepares.bear grows) held;
      here = held.here;
    }

    pub all_gone : (result : Result (Unit {0}) SyncError) (end : List ℕ) (new : Option Past)
        → end ≡ known.path → Grows a new
        → WentAway purge to (gone_of mails changes) (Ok tt) b c → LeavesAll end c new
        → Stands result old new
    all_gone result end new end_is grows went last =
        by (leaves_at end known.path c new end_is last)
      where
        by : LeavesAll known.path c new → Stands result old new
        by last =
            let all = keeps_then known.path (discarded mails changes) old c new held
            (last.holds (discarded mails changes)) in record {
              works = did_all purge known.path mails changes prepares.sequences follows old a b c
                  new first.does prepares.reads put_there result
                  (subst (λ (p : List ℕ). WentAway purge p (gone_of mails changes) (Ok tt) b c)
                  also went)
                  last.does;
              keeps = keeps_discarded known mails changes old new
                  (all_bear_later known mails changes old a new prepares.bear grows) all;
              here = all.here;
            }
