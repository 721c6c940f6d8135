-- What a walk over files in order has seen.
use Rattle.std.proofs.Common.{◌≡◌, ◌≤◌, ◌+◌, ◌++◌, ◌⊎◌, inl, inr, ℕ, Bool, true, false, List, []}
use Rattle.std.proofs.Common.{◌∷◌}
use Rattle.std.proofs.Common.{Option, Some, None, length, is_some, if◌then◌else◌, refl, sym, ◌∙◌}
use Rattle.std.proofs.Common.{ap, subst, arith, append_assoc, append-nil}
use Rattle.std.specs.Prelude.{option_map}
use Rattle.std.specs.Cmp.Lexicographic.{slice_cmp}
use Rattle.std.specs.Ordering.{is_lt, nat_cmp, ordering_reverse, ordering_then}
use Rattle.std.specs.Str.{bytes_eq}
use Rattle.std.specs.declared.cmp.Ordering.{Ordering}
use Rattle.std.specs.declared.cmp.Ordering.TheVariants.{Less, Equal, Greater}
use Rattle.std.proofs.lemmas.List.Sorted.{ranks_by}
use Rattle.std.proofs.lemmas.Slice.Eq.{bytes_eq-Decides}
use Rattle.disk_model.specs.Journal.{Past}
use Rattle.disk_model.specs.Judge.{GoesOn}
use Rattle.disk_model.specs.Looking.{HasLooked, LooksOnly}
use Rattle.disk_model.specs.Tree.{TreeNode}
use Rattle.disk_model.proofs.Looking.{looked_longer}
use Rattle.disk_model.proofs.Marks.{tree_at-longer}
use Rattle.disk_model.proofs.Trees.{bytes_same}
use Rattle.folder_core.specs.Directory.{file_at}
use Rattle.folder_core.specs.Maildir.{AllStood, MaildirFile, StaysThere, Stood, base_of, is_taken}
use Rattle.folder_core.specs.Maildir.{is_shown, maildir_format}
use Rattle.folder_core.specs.Maildir.{message_at, message_of, messages_behind, path_of}
use Rattle.folder_core.specs.Maildir.{with_message}
use Rattle.folder_core.specs.MaildirNames.{order_of}
use Rattle.folder_core.specs.Message.{ArePlaced, Message, are_in_order, has_key, stands_before}
use Rattle.folder_core.specs.ListedSoFar.{IsEmpty, Store, store_found, store_message}
use Rattle.folder_core.specs.Looked.{IsTreeOfAll}
use Rattle.mail_base.specs.Ordered.{IsIn}
use Rattle.folder_core.proofs.CostsLemmas.{raises_more, raises_same, raises_then}
use Rattle.folder_core.proofs.ListedSoFarLemmas.{holds_first, holds_next, keeps_with, messages_with}
use Rattle.folder_core.specs.Costs.{RaisesAtMost}
use Rattle.folder_core.specs.Keeping.{AreThere, IsThere, KeepCores, ListedMail, keyed, mails_of}
use Rattle.folder_core.specs.Known.{KnownFolder}
use Rattle.folder_letters.specs.Letters.{Mail}
use Rattle.disk_model.specs.Seen.{Seen}
use Rattle.std.proofs.lemmas.List.{map-append}
use Rattle.folder_core.proofs.MessageLemmas.{key_last, key_more, order_more}
use Rattle.mail_base.proofs.OrderedLemmas.{text_same, then_equal}
use Rattle.folder_core.proofs.SeenLemmas.{goes_as, goes_then, longer_later, tree_before}
use Rattle.folder_shapes.specs.Maildir.{base_cmp}
use Rattle.folder_shapes.proofs.MaildirLemmas.{base_total}
use Rattle.maildir_folder.specs.Candidates.{NotBefore, Rises}
use Rattle.maildir_folder.specs.Walk.{AreWalked, HoldsCore, IsWalked, NextSeen, TakesNext}
use Rattle.maildir_folder.specs.Walk.{fresh_bytes, fresh_read, keep_of}

true_false : ◌≡◌ {A = Bool} true false → ⊥
true_false e = cc

-- The order of bases.

-- a base that does not stand before another one nor is it stands behind it
pub stands_behind : (last base : List ℕ) → is_lt (base_cmp base last) ≡ false
    → bytes_eq last base ≡ false
    → is_lt (base_cmp last base) ≡ true
stands_behind last base above other = by_cmp (base_cmp base last) refl above
  where
    by_cmp : (r : Ordering) → base_cmp base last ≡ r → is_lt r ≡ false
        → is_lt (base_cmp last base) ≡ true
    by_cmp Less e is = absurd (true_false is)
    by_cmp Equal e is =
        let same : base ≡ last = text_same base last
        (then_equal (nat_cmp (order_of base) (order_of last)) (slice_cmp nat_cmp base last) e).1 in
        absurd (true_false (sym ((bytes_eq-Decides last base).1 (sym same)) ∙ other))
    by_cmp Greater e is = ap is_lt (base_total.antisymm last base ∙ ap ordering_reverse e)

rises_skipped : (last : Option (List ℕ)) (base : List ℕ) (files : List MaildirFile)
    → NotBefore last base
    → Rises (Some base) files → Rises last files
rises_skipped last base [] above rises = tt
rises_skipped None base (file ∷ files) above rises = (tt, rises.1)
rises_skipped (Some last) base (file ∷ files) above rises = (
  (ranks_by base_total (λ (b : List ℕ). b)).chain (base_of file) base last rises.0 above,
  rises.1,
)

-- the base that was taken last, behind a file
abbrev pub last_by : MaildirFile → Option (List ℕ) → Option (List ℕ) → Option (List ℕ)
last_by file None last = last
last_by file (Some raw) last = Some (base_of file)

pub rises_next : (last : Option (List ℕ)) (file : MaildirFile) (found : Option (List ℕ))
    (files : List MaildirFile)
    → Rises last (file ∷ files) → Rises (last_by file found last) files
rises_next last file None files rises = rises_skipped last (base_of file) files rises.0 rises.1
rises_next last file (Some raw) files rises = rises.1

-- The messages so far.

-- the last of the messages has this base
abbrev pub IsLast : Option (List ℕ) → List Message → Type 0
IsLast None messages = messages ≡ []
IsLast (Some base) messages =
    (front : List Message) ×
    ((message : Message) × (messages ≡ front ++ message ∷ []) × (message.key ≡ base)
    × (message.order ≡ order_of base))

not_taken_order : (last : Option (List ℕ)) (messages : List Message) (message : Message)
    → IsLast last messages
    → NotBefore last message.key → is_taken last message.key ≡ false
    → message.order ≡ order_of message.key
    → are_in_order messages ≡ true → are_in_order (messages ++ message ∷ []) ≡ true
not_taken_order None messages message is above new placed ordered =
    ap (λ (l : List Message). are_in_order (l ++ message ∷ [])) is
not_taken_order (Some base) messages message is above new placed ordered =
    let front : List Message = is.0 in
    let a : Message = is.1.0 in
    let whole : messages ≡ front ++ a ∷ [] = is.1.1 in
    let before : stands_before a message ≡ true =
    (λ i. is_lt
    (ordering_then (nat_cmp (is.1.3 i) (placed i)) (slice_cmp nat_cmp (is.1.2 i) message.key)))
    ∙ stands_behind base message.key above new in
    ap (λ (l : List Message). are_in_order (l ++ message ∷ [])) whole
    ∙ ap are_in_order (append_assoc front (a ∷ []) (message ∷ []))
    ∙ order_more front a message (sym (ap are_in_order whole) ∙ ordered) before

taken_key : (last : Option (List ℕ)) (base : List ℕ) (messages : List Message)
    → IsLast last messages
    → is_taken last base ≡ true → has_key base messages ≡ true
taken_key None base messages is taken = absurd (true_false (sym taken))
taken_key (Some last) base messages is taken =
    let same : is.1.0.key ≡ base = is.1.2 ∙ bytes_same last base taken in
    ap (has_key base) is.1.1
    ∙ subst (λ (b : List ℕ). has_key b (is.0 ++ is.1.0 ∷ []) ≡ true) same (key_last is.0 is.1.0)

-- What is seen of messages, one more at their end.

stood_more : (path : List ℕ) (m n : ℕ) (past : Past) (keeps : List (Option ℕ))
    (messages : List Message) (keep : Option ℕ) (message : Message)
    → AllStood path m n past keeps messages → Stood path m n past keep message
    → AllStood path m n past (keeps ++ keep ∷ []) (messages ++ message ∷ [])
stood_more path m n past [] [] keep message all one = (one, tt)
stood_more path m n past [] (first ∷ messages) keep message all one = absurd all
stood_more path m n past (k ∷ keeps) [] keep message all one = absurd all
stood_more path m n past (k ∷ keeps) (first ∷ messages) keep message all one =
    (all.0, stood_more path m n past keeps messages keep message all.1 one)

there_more : (keeps : List (Option ℕ)) (messages there : List Message) (keep : Option ℕ)
    (message other : Message) → AreThere keeps messages there
    → IsThere keep message (Some other)
    → AreThere (keeps ++ keep ∷ []) (messages ++ message ∷ []) (there ++ other ∷ [])
there_more [] [] [] keep message other all one = (one, tt)
there_more [] [] (o ∷ there) keep message other all one = absurd all
there_more [] (m ∷ messages) [] keep message other all one = absurd all
there_more [] (m ∷ messages) (o ∷ there) keep message other all one = absurd all
there_more (k ∷ keeps) [] [] keep message other all one = absurd all
there_more (k ∷ keeps) [] (o ∷ there) keep message other all one = absurd all
there_more (k ∷ keeps) (m ∷ messages) [] keep message other all one = absurd all
there_more (k ∷ keeps) (m ∷ messages) (o ∷ there) keep message other all one =
    (all.0, there_more keeps messages there keep message other all.1 one)

cores_more : (mails : List Mail) (keeps : List (Option ℕ)) (messages : List Message)
    (keep : Option ℕ) (message : Message) → KeepCores (λ raw. raw) mails keeps messages
    → HoldsCore mails keep (Some message.raw)
    → KeepCores (λ raw. raw) mails (keeps ++ keep ∷ []) (messages ++ message ∷ [])
cores_more mails [] [] None message all one = tt
cores_more mails [] [] (Some id) message all one = (one, tt)
cores_more mails [] (m ∷ messages) keep message all one = absurd all
cores_more mails (k ∷ keeps) [] keep message all one = absurd all
cores_more mails (None ∷ keeps) (m ∷ messages) keep message all one =
    cores_more mails keeps messages keep message all one
cores_more mails (Some id ∷ keeps) (m ∷ messages) keep message all one =
    (all.0, cores_more mails keeps messages keep message all.1 one)

placed_more : (messages : List Message) (message : Message) → ArePlaced order_of messages
    → message.order ≡ order_of message.key → ArePlaced order_of (messages ++ message ∷ [])
placed_more [] message all one = (one, tt)
placed_more (m ∷ messages) message all one = (all.0, placed_more messages message all.1 one)

fresh_more : (keeps : List (Option ℕ)) (messages : List Message) (keep : Option ℕ)
    (message : Message) → length keeps ≡ length messages
    → fresh_bytes (keeps ++ keep ∷ []) (messages ++ message ∷ [])
    ≡ fresh_bytes keeps messages + fresh_read keep (Some message.raw)
fresh_more [] [] None message pairs = omega arith
fresh_more [] [] (Some id) message pairs = omega arith
fresh_more [] (m ∷ messages) keep message pairs = absurd (omega (arith, pairs))
fresh_more (k ∷ keeps) [] keep message pairs = absurd (omega (arith, pairs))
fresh_more (None ∷ keeps) (m ∷ messages) keep message pairs =
    let more = fresh_more keeps messages keep message (omega (arith, pairs)) in
    omega (arith, more)
fresh_more (Some id ∷ keeps) (m ∷ messages) keep message pairs =
    fresh_more keeps messages keep message (omega (arith, pairs))

-- what is there now for the messages that were met and for those behind them is all that is there
pub record StillReads (path : List ℕ) (files left : List MaildirFile) (last : Option (List ℕ))
    (keeps : List (Option ℕ)) (messages : List Message) (tree : List TreeNode) : Type 0 where
  pub there : List Message
  pub are : AreThere keeps messages there
  pub whole : there ++ messages_behind tree path last left
      ≡ messages_behind tree path None files

-- the files of the list so far, those that are left, and what was seen of the others
pub record SoFar (path : List ℕ) (files left : List MaildirFile) (last : Option (List ℕ))
    (keeps : List (Option ℕ)) (messages : List Message) (old new : Past) : Type 0 where
  pub stood : AllStood path (length old.journal) (length new.journal) new keeps messages
  pub kept : (file : MaildirFile) → IsIn file files
      → StaysThere path file (length old.journal) (length new.journal) new
      → (has_key (base_of file) messages ≡ true) ⊎ IsIn file left
  pub still : (tree : List TreeNode) → IsTreeOfAll tree old new
      → StillReads path files left last keeps messages tree

pub so_far_first : (path : List ℕ) (files : List MaildirFile) (past : Past)
    → SoFar path files files None [] [] past past
so_far_first path files past = record {
  stood = tt;
  kept = λ file held stays. inr held;
  still = λ tree all. record { there = []; are = tt; whole = refl };
}

-- What was seen stays seen while others go on.

stood_later : (path : List ℕ) (from : ℕ) (keeps : List (Option ℕ)) (messages : List Message)
    (mid new : Past) → HasLooked mid new
    → AllStood path from (length mid.journal) mid keeps messages
    → AllStood path from (length new.journal) new keeps messages
stood_later path from [] [] mid new looked stood = tt
stood_later path from [] (message ∷ messages) mid new looked stood = absurd stood
stood_later path from (keep ∷ keeps) [] mid new looked stood = absurd stood
stood_later path from (keep ∷ keeps) (message ∷ messages) mid new looked stood =
    let one = stood.0 in (
      record {
        mark = one.mark;
        from = one.from;
        to = omega (arith, one.to, longer_later mid new looked);
        file = one.file;
        shown = one.shown;
        there = subst (IsThere keep message)
            (sym (ap (λ (tree : List TreeNode). message_at tree path one.file)
            (tree_at-longer mid new one.mark (looked_longer mid new looked) one.to)))
            one.there;
      },
      stood_later path from keeps messages mid new looked stood.1,
    )

stays_before : (path : List ℕ) (file : MaildirFile) (from : ℕ) (mid new : Past) → HasLooked mid new
    → StaysThere path file from (length new.journal) new
    → StaysThere path file from (length mid.journal) mid
stays_before path file from mid new looked stays mark low high =
    ap (λ (tree : List TreeNode). is_some (message_at tree path file))
    (sym (tree_at-longer mid new mark (looked_longer mid new looked) high))
    ∙ stays mark low (omega (arith, high, longer_later mid new looked))

so_far_later : (path : List ℕ) (files left : List MaildirFile) (last : Option (List ℕ))
    (keeps : List (Option ℕ)) (messages : List Message)
    (old mid new : Past) → HasLooked mid new → SoFar path files left last keeps messages old mid
    → SoFar path files left last keeps messages old new
so_far_later path files left last keeps messages old mid new looked s = record {
  stood = stood_later path (length old.journal) keeps messages mid new looked s.stood;
  kept = λ file held stays. s.kept file held
      (stays_before path file (length old.journal) mid new looked stays);
  still = λ tree all. s.still tree (tree_before tree old mid new looked all);
}

-- One file more.

-- a file that is not looked for, or that was not there once, leaves the messages as they are
so_far_skipped : (path : List ℕ) (files left : List MaildirFile) (file : MaildirFile)
    (last : Option (List ℕ)) (keeps : List (Option ℕ)) (messages : List Message) (old new : Past)
    → SoFar path files (file ∷ left) last keeps messages old new
    → (StaysThere path file (length old.journal) (length new.journal) new
    → has_key (base_of file) messages ≡ true)
    → ((tree : List TreeNode) → IsTreeOfAll tree old new
    → messages_behind tree path last (file ∷ left) ≡ messages_behind tree path last left)
    → SoFar path files left last keeps messages old new
so_far_skipped path files left file last keeps messages old new s kept still = record {
  stood = s.stood;
  kept = λ other held stays. by_place other stays (s.kept other held stays);
  still = λ tree all.
      let before = s.still tree all in
      record {
        there = before.there;
        are = before.are;
        whole = ap (λ (l : List Message). before.there ++ l) (sym (still tree all))
            ∙ before.whole;
      };
}
  where
    by_place : (other : MaildirFile)
        → StaysThere path other (length old.journal) (length new.journal) new
        → (has_key (base_of other) messages ≡ true) ⊎ IsIn other (file ∷ left)
        → (has_key (base_of other) messages ≡ true) ⊎ IsIn other left
    by_place other stays (inl key) = inl key
    by_place other stays (inr (inl same)) =
        inl (subst
        (λ (f : MaildirFile). StaysThere path f (length old.journal) (length new.journal) new
        → has_key (base_of f) messages ≡ true) same kept stays)
    by_place other stays (inr (inr held)) = inr held

-- the message of a file that is there, with its bytes
pub record MessageIs (keep : Option ℕ) (message : Message) (there : Option Message) : Type 0 where
  pub other : Message
  pub is : there ≡ Some other
  pub one : IsThere keep message (Some other)

message_is : (keep : Option ℕ) (message : Message) (there : Option Message)
    → IsThere keep message there → MessageIs keep message there
message_is None message there is = record { other = message; is = is; one = refl }
message_is (Some id) message there is =
    record { other = record message { raw = is.0 }; is = is.1; one = (is.0, refl) }

-- a file that was there is one message more
so_far_taken : (path : List ℕ) (files left : List MaildirFile) (file : MaildirFile)
    (last : Option (List ℕ)) (keeps : List (Option ℕ)) (messages : List Message)
    (keep : Option ℕ) (raw : List ℕ) (old new : Past)
    → SoFar path files (file ∷ left) last keeps messages old new
    → is_taken last (base_of file) ≡ false
    → Stood path (length old.journal) (length new.journal) new keep (message_of file raw)
    → ((tree : List TreeNode) → IsTreeOfAll tree old new
    → IsThere keep (message_of file raw) (message_at tree path file))
    → SoFar path files left (Some (base_of file)) (keeps ++ keep ∷ [])
    (messages ++ message_of file raw ∷ []) old new
so_far_taken path files left file last keeps messages keep raw old new s other stood there =
    let message : Message = message_of file raw in
    record {
      stood = stood_more path (length old.journal) (length new.journal) new keeps messages keep
          message s.stood stood;
      kept = λ one held stays. by_place one (s.kept one held stays);
      still = λ tree all.
          let before = s.still tree all in
          let now = message_is keep message (message_at tree path file) (there tree all) in
          record {
            there = before.there ++ now.other ∷ [];
            are = there_more keeps messages before.there keep message now.other before.are now.one;
            whole = append_assoc before.there (now.other ∷ [])
                (messages_behind tree path (Some (base_of file)) left)
                ∙ ap (λ (l : List Message). before.there ++ l)
                (sym (ap (λ (t : Bool). if t then messages_behind tree path last left
                else with_message (message_at tree path file)
                (messages_behind tree path last left)
                (messages_behind tree path (Some (base_of file)) left)) other
                ∙ ap (λ (m : Option Message). with_message m
                (messages_behind tree path last left)
                (messages_behind tree path (Some (base_of file)) left)) now.is))
                ∙ before.whole;
          };
    }
  where
    by_place : (one : MaildirFile)
        → (has_key (base_of one) messages ≡ true) ⊎ IsIn one (file ∷ left)
        → (has_key (base_of one) (messages ++ message_of file raw ∷ []) ≡ true) ⊎ IsIn one left
    by_place one (inl key) = inl (key_more (base_of one) messages (message_of file raw ∷ []) key)
    by_place one (inr (inl same)) =
        inl (subst
        (λ (f : MaildirFile). has_key (base_of f) (messages ++ message_of file raw ∷ []) ≡ true)
        same
        (key_last messages (message_of file raw)))
    by_place one (inr (inr held)) = inr held

so_far_next : (path : List ℕ) (files left : List MaildirFile) (file : MaildirFile)
    (last : Option (List ℕ)) (keeps : List (Option ℕ)) (messages : List Message)
    (keep : Option ℕ) (found : Option (List ℕ)) (old mid new : Past) → HasLooked old mid
    → HasLooked mid new → is_shown file.name ≡ true → IsLast last messages
    → SoFar path files (file ∷ left) last keeps messages old mid
    → NextSeen (is_taken last (base_of file)) path file keep found mid new
    → SoFar path files left (last_by file found last)
    (keeps_with (option_map (message_of file) found) keep keeps)
    (messages_with (option_map (message_of file) found) messages) old new
so_far_next path files left file last keeps messages keep found old mid new first next shown
    at_last s seen =
    by_taken (is_taken last (base_of file)) found refl seen
  where
    later : SoFar path files (file ∷ left) last keeps messages old new
    later = so_far_later path files (file ∷ left) last keeps messages old mid new next s

    skip : (tree : List TreeNode) → is_taken last (base_of file) ≡ true
        → messages_behind tree path last (file ∷ left) ≡ messages_behind tree path last left
    skip tree taken = ap (λ (t : Bool). if t then messages_behind tree path last left
        else with_message (message_at tree path file) (messages_behind tree path last left)
        (messages_behind tree path (Some (base_of file)) left)) taken

    no_message : (tree : List TreeNode) → is_taken last (base_of file) ≡ false
        → file_at tree (path_of path file) ≡ None
        → messages_behind tree path last (file ∷ left) ≡ messages_behind tree path last left
    no_message tree other none = ap (λ (t : Bool). if t then messages_behind tree path last left
        else with_message (message_at tree path file) (messages_behind tree path last left)
        (messages_behind tree path (Some (base_of file)) left)) other
        ∙ ap (λ (b : Option (List ℕ)). with_message (option_map (message_of file) b)
        (messages_behind tree path last left)
        (messages_behind tree path (Some (base_of file)) left)) none

    low : (mark : ℕ) → length mid.journal ≤ mark → length old.journal ≤ mark
    low mark from = omega (arith, from, longer_later old mid first)

    by_taken : (taken : Bool) (found : Option (List ℕ)) → is_taken last (base_of file) ≡ taken
        → NextSeen taken path file keep found mid new
        → SoFar path files left (last_by file found last)
        (keeps_with (option_map (message_of file) found) keep keeps)
        (messages_with (option_map (message_of file) found) messages) old new
    by_taken true None taken seen =
        so_far_skipped path files left file last keeps messages old new later
        (λ stays. taken_key last (base_of file) messages at_last taken)
        (λ tree all. skip tree taken)
    by_taken true (Some raw) taken seen = absurd (cc)
    by_taken false None other seen =
        let saw = seen.1 in
        so_far_skipped path files left file last keeps messages old new later
        (λ stays. absurd (true_false (sym (stays saw.mark (low saw.mark saw.from) saw.to)
        ∙ ap (λ (b : Option (List ℕ)). is_some (option_map (message_of file) b)) saw.tells)))
        (λ tree all. no_message tree other
        (ap (λ (t : List TreeNode). file_at t (path_of path file))
        (sym (all saw.mark (low saw.mark saw.from) saw.to)) ∙ saw.tells))
    by_taken false (Some raw) other seen =
        let saw = seen.1 in
        so_far_taken path files left file last keeps messages keep raw old new later other
        (record {
          mark = saw.mark;
          from = low saw.mark saw.from;
          to = saw.to;
          file = file;
          shown = shown;
          there = saw.tells;
        })
        (λ tree all. subst (λ (t : List TreeNode). IsThere keep (message_of file raw)
        (message_at t path file)) (all saw.mark (low saw.mark saw.from) saw.to) saw.tells)

-- The whole walk.

-- what is stored and what was seen so far, by messages that exist
pub record Walking (mails : List Mail) (known : KnownFolder) (files left : List MaildirFile)
    (last : Option (List ℕ)) (first store : Store) (old new : Seen) : Type 0 where
  pub messages : List Message
  pub keeps : List (Option ℕ)
  pub walked : AreWalked mails known first store keeps messages old new
  pub at_last : IsLast last messages
  pub saw : GoesOn (SoFar known.path files left last keeps messages) old.told new.told

first_told : (path : List ℕ) (files : List MaildirFile) (told : Option Past)
    → GoesOn (SoFar path files files None [] []) told told
first_told path files None = refl
first_told path files (Some past) = so_far_first path files past

pub walking_first : (mails : List Mail) (known : KnownFolder) (files : List MaildirFile)
    (first : Store) (seen : Seen) → IsEmpty first
    → Walking mails known files files None first first seen seen
walking_first mails known files first seen empty = record {
  messages = [];
  keeps = [];
  walked = record {
    kept = refl;
    cores = tt;
    in_order = refl;
    placed = tt;
    holds = holds_first maildir_format first empty;
    reads = raises_same seen.bytes_read;
  };
  at_last = refl;
  saw = first_told known.path files seen.told;
}

-- a file that is left out
walked_none : (mails : List Mail) (known : KnownFolder) (first store : Store)
    (keeps : List (Option ℕ)) (messages : List Message) (keep : Option ℕ) (a b c : Seen)
    → AreWalked mails known first store keeps messages a b
    → RaisesAtMost b.bytes_read c.bytes_read (fresh_read keep None)
    → AreWalked mails known first store keeps messages a c
walked_none mails known first store keeps messages keep a b c w reads = record {
  kept = w.kept;
  cores = w.cores;
  in_order = w.in_order;
  placed = w.placed;
  holds = w.holds;
  reads = raises_more a.bytes_read c.bytes_read
      (fresh_bytes keeps messages + fresh_read keep None) (fresh_bytes keeps messages)
      (none_read keep)
      (raises_then a.bytes_read b.bytes_read c.bytes_read (fresh_bytes keeps messages)
      (fresh_read keep None) w.reads reads);
}
  where
    none_read : (k : Option ℕ)
        → fresh_bytes keeps messages + fresh_read k None ≤ fresh_bytes keeps messages
    none_read None = omega arith
    none_read (Some id) = omega arith

-- a file that is taken
walked_more : (mails : List Mail) (known : KnownFolder) (file : MaildirFile) (raw : List ℕ)
    (last : Option (List ℕ)) (first store : Store) (keeps : List (Option ℕ))
    (messages : List Message) (a b c : Seen)
    → AreWalked mails known first store keeps messages a b → IsLast last messages
    → NotBefore last (base_of file) → is_taken last (base_of file) ≡ false
    → HoldsCore mails (keep_of mails known file) (Some raw)
    → RaisesAtMost b.bytes_read c.bytes_read (fresh_read (keep_of mails known file) (Some raw))
    → AreWalked mails known first
    (store_message maildir_format (keep_of mails known file) (message_of file raw) store)
    (keeps ++ keep_of mails known file ∷ []) (messages ++ message_of file raw ∷ []) a c
walked_more mails known file raw last first store keeps messages a b c w at_last above other core
    reads =
    let keep : Option ℕ = keep_of mails known file in
    let message : Message = message_of file raw in
    let old : List ListedMail = mails_of mails known.listing in
    record {
      kept = ap (λ (k : List (Option ℕ)). k ++ keep ∷ []) w.kept
          ∙ sym (map-append (λ (m : Message). keyed old m.key) messages (message ∷ []));
      cores = cores_more mails keeps messages keep message w.cores core;
      in_order = not_taken_order last messages message at_last above other refl w.in_order;
      placed = placed_more messages message w.placed refl;
      holds = holds_next maildir_format first store keeps messages keep message
          (λ id m. refl) w.holds;
      reads = raises_more a.bytes_read c.bytes_read
          (fresh_bytes keeps messages + fresh_read keep (Some raw))
          (fresh_bytes (keeps ++ keep ∷ []) (messages ++ message ∷ []))
          (omega (arith, fresh_more keeps messages keep message w.holds.pairs))
          (raises_then a.bytes_read b.bytes_read c.bytes_read (fresh_bytes keeps messages)
          (fresh_read keep (Some raw)) w.reads reads);
    }

-- by what was found of the file
walked_next : (mails : List Mail) (known : KnownFolder) (file : MaildirFile)
    (found : Option (List ℕ)) (last : Option (List ℕ)) (first store : Store)
    (keeps : List (Option ℕ)) (messages : List Message) (a b c : Seen)
    → AreWalked mails known first store keeps messages a b → IsLast last messages
    → NotBefore last (base_of file) → (is_taken last (base_of file) ≡ true → found ≡ None)
    → HoldsCore mails (keep_of mails known file) found
    → RaisesAtMost b.bytes_read c.bytes_read (fresh_read (keep_of mails known file) found)
    → AreWalked mails known first
    (store_found maildir_format (keep_of mails known file) (option_map (message_of file) found)
    store)
    (keeps_with (option_map (message_of file) found) (keep_of mails known file) keeps)
    (messages_with (option_map (message_of file) found) messages) a c
walked_next mails known file None last first store keeps messages a b c w at_last above once core
    reads = walked_none mails known first store keeps messages (keep_of mails known file) a b c w
    reads
walked_next mails known file (Some raw) last first store keeps messages a b c w at_last above once
    core reads = walked_more mails known file raw last first store keeps messages a b c w at_last
    above (by_test (is_taken last (base_of file)) refl) core reads
  where
    by_test : (t : Bool) → is_taken last (base_of file) ≡ t
        → is_taken last (base_of file) ≡ false
    by_test true is = let e : Some raw ≡ None = once is in absurd (cc)
    by_test false is = is

last_next : (file : MaildirFile) (found : Option (List ℕ)) (last : Option (List ℕ))
    (messages : List Message) → IsLast last messages
    → IsLast (last_by file found last)
    (messages_with (option_map (message_of file) found) messages)
last_next file None last messages at_last = at_last
last_next file (Some raw) last messages at_last =
    (messages, (message_of file raw, refl, refl, refl))

pub walking_next : (mails : List Mail) (known : KnownFolder) (files all left : List MaildirFile)
    (file : MaildirFile) (last : Option (List ℕ)) (first store new_store : Store) (taken : Bool)
    (a b c : Seen) → all ≡ file ∷ left → Rises last all → is_shown file.name ≡ true
    → LooksOnly a.told b.told → LooksOnly b.told c.told
    → Walking mails known files all last first store a b
    → (t : TakesNext mails known.path last file (keep_of mails known file) taken store new_store b
    c)
    → Walking mails known files left (last_by file t.found last) first new_store a c
walking_next mails known files all left file last first store new_store taken a b c whole rises
    shown before next w t =
    let head : Rises last (file ∷ left) = subst (Rises last) whole rises in
    let so_far : GoesOn (SoFar known.path files (file ∷ left) last w.keeps w.messages) a.told b.told
    =
    subst (λ (l : List MaildirFile). GoesOn (SoFar known.path files l last w.keeps w.messages)
    a.told b.told) whole w.saw in
    let keep : Option ℕ = keep_of mails known file in
    record {
      messages = messages_with (option_map (message_of file) t.found) w.messages;
      keeps = keeps_with (option_map (message_of file) t.found) keep w.keeps;
      walked = subst (λ (s : Store). AreWalked mails known first s
          (keeps_with (option_map (message_of file) t.found) keep w.keeps)
          (messages_with (option_map (message_of file) t.found) w.messages) a c) (sym t.store_is)
          (walked_next mails known file t.found last first store w.keeps w.messages a b c w.walked
          w.at_last head.0 t.once t.core t.reads);
      at_last = last_next file t.found last w.messages w.at_last;
      saw = goes_then a.told b.told c.told (λ p q r x y s n.
          so_far_next known.path files left file last w.keeps w.messages keep t.found p q r x y
          shown w.at_last s n) before next so_far t.saw;
    }

-- what is there where no file is left
all_there : (path : List ℕ) (files : List MaildirFile) (last : Option (List ℕ))
    (keeps : List (Option ℕ)) (messages : List Message) (tree : List TreeNode)
    → StillReads path files [] last keeps messages tree
    → AreThere keeps messages (messages_behind tree path None files)
all_there path files last keeps messages tree still =
    subst (AreThere keeps messages) (sym (append-nil still.there) ∙ still.whole) still.are

pub walking_done : (mails : List Mail) (known : KnownFolder) (files left : List MaildirFile)
    (last : Option (List ℕ)) (first store : Store) (a b : Seen) → left ≡ []
    → Walking mails known files left last first store a b
    → IsWalked mails known files first store a b
walking_done mails known files left last first store a b none w = record {
  messages = w.messages;
  keeps = w.keeps;
  walked = w.walked;
  saw = goes_as a.told b.told (λ p q s. record {
    stood = s.stood;
    kept = λ file held stays. by_place file (s.kept file held stays);
    still = λ tree all. all_there known.path files last w.keeps w.messages tree (s.still tree all);
  }) (subst (λ (l : List MaildirFile). GoesOn
      (SoFar known.path files l last w.keeps w.messages) a.told b.told) none w.saw);
}
  where
    by_place : (file : MaildirFile) → (has_key (base_of file) w.messages ≡ true) ⊎ IsIn file []
        → has_key (base_of file) w.messages ≡ true
    by_place file (inl key) = key
    by_place file (inr held) = absurd held
