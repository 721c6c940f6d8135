-- What a walk over names in order has seen.
use Rattle.std.proofs.Common.{◌≡◌, ◌≤◌, ◌++◌, ◌⊎◌, inl, inr, ℕ, Bool, true}
use Rattle.std.proofs.Common.{false}
use Rattle.std.proofs.Common.{List, [], ◌∷◌, Option}
use Rattle.std.proofs.Common.{Some, None, length, is_some, refl, sym, ◌∙◌, ap, subst}
use Rattle.std.proofs.Common.{arith}
use Rattle.std.proofs.Common.{append_assoc, append-nil, length-append}
use Rattle.std.specs.Prelude.{IfSome, option_and_then}
use Rattle.std.specs.Cmp.Lexicographic.{slice_cmp}
use Rattle.std.specs.List.{cons_option, filter_map}
use Rattle.std.specs.Ordering.{is_lt, nat_cmp, ordering_then}
use Rattle.std.specs.List.{All}
use Rattle.std.proofs.lemmas.List.Elements.{All-head, All-same}
use Rattle.disk_model.specs.Journal.{Past}
use Rattle.disk_model.specs.Judge.{GoesOn}
use Rattle.disk_model.specs.Looking.{HasLooked, LooksOnly}
use Rattle.disk_model.specs.State.{tree_at}
use Rattle.disk_model.specs.Tree.{TreeNode, node_at}
use Rattle.disk_model.proofs.Looking.{looked_longer}
use Rattle.disk_model.proofs.Marks.{tree_at-longer}
use Rattle.folder_core.specs.Directory.{file_at, path_in, stamp_there}
use Rattle.folder_core.specs.Keeping.{AreThere, IsThere, KeepCores, kept_by_stamp, mail_of}
use Rattle.folder_core.specs.Keeping.{ListedMail, stamped}
use Rattle.folder_letters.specs.Letters.{Mail}
use Rattle.folder_core.specs.Limits.{list_refusal}
use Rattle.folder_core.specs.ListedSoFar.{Holds, Store, store_found}
use Rattle.folder_core.specs.Looked.{IsTreeOfAll}
use Rattle.folder_core.specs.Message.{ArePlaced, Message, are_in_order, has_key, stands_before}
use Rattle.folder_core.specs.Mh.{AllStood, StaysThere, Stood, is_number, message_at, message_of}
use Rattle.folder_core.specs.Mh.{mh_format}
use Rattle.folder_core.specs.Mh.{number_at}
use Rattle.folder_core.specs.MhNumbers.{number_of}
use Rattle.mail_base.specs.Ordered.{IsIn}
use Rattle.folder_core.proofs.ListedSoFarLemmas.{fewer_none, held_refusal, holds_first, holds_found}
use Rattle.folder_core.proofs.ListedSoFarLemmas.{keeps_with, messages_with}
use Rattle.folder_core.proofs.MessageLemmas.{key_last, key_more, order_more}
use Rattle.folder_core.proofs.SeenLemmas.{goes_as, goes_then, longer_later, tree_before}
use Rattle.folder_shapes.specs.Mh.{Rises}
use Rattle.mh_folder.specs.NumberedName.{IsNumbered, plain_names}
use Rattle.mh_folder.specs.Visit.{Course, old_mails}
use Rattle.mh_folder.specs.Walk.{AreKept, Finding, IsFile, IsNothing, IsStored, IsWalked}
use Rattle.mh_folder.specs.Walk.{Keeps, Kept, MessageMet, Nearly, Takes, stamps_with}
use Rattle.mh_folder.specs.declared.numbered_name.NumberedName.{NumberedName}
use Rattle.folder_shapes.proofs.NumberLemmas.{Stands, rises_first, rises_skipped}
use Rattle.mh_folder.proofs.StoreLemmas.{nearly_found, nearly_refusal, nearly_same, nearly_then}

true_false : ◌≡◌ {A = Bool} true false → ⊥
true_false e = cc

-- Messages.

-- key and place of a message are those of its name
pub record Named (name : List ℕ) (message : Message) : Type 0 where
  pub key : message.key ≡ name
  pub order : message.order ≡ number_at name

-- whether there is a message hangs on the file alone
pub same_there : (some other name : List ℕ) (bytes : Option (List ℕ))
    → is_some (option_and_then (message_of some name) bytes) ≡ is_some
    (option_and_then (message_of other name) bytes)
same_there some other name None = refl
same_there some other name (Some []) = refl
same_there some other name (Some (b ∷ raw)) = refl

-- a message that stands there is one of these
pub record SomeThere (keep : Option ℕ) (message : Message) (there : Option Message) : Type 0 where
  pub other : Message
  pub is : there ≡ Some other
  pub alike : IsThere keep message (Some other)

some_there : (keep : Option ℕ) (message : Message) (there : Option Message)
    → IsThere keep message there → SomeThere keep message there
some_there None message there is = record { other = message; is = is; alike = refl }
some_there (Some id) message there is =
    record { other = record message { raw = is.0 }; is = is.1; alike = (is.0, refl) }

-- The messages so far.

-- the last of the messages has this name
abbrev pub IsLast : Option (List ℕ) → List Message → Type 0
IsLast None messages = messages ≡ []
IsLast (Some name) messages =
    (front : List Message) × ((message : Message) × (messages ≡ front ++ message ∷ [])
    × Named name message)

next_in_order : (last : Option (List ℕ)) (name : List ℕ) (messages : List Message)
    (message : Message)
    → IsLast last messages → Stands last name → Named name message → are_in_order messages ≡ true
    → are_in_order (messages ++ message ∷ []) ≡ true
next_in_order None name messages message is stands named ordered =
    ap (λ (l : List Message). are_in_order (l ++ message ∷ [])) is
next_in_order (Some last) name messages message is stands named ordered =
    let front : List Message = is.0 in
    let a : Message = is.1.0 in
    let whole : messages ≡ front ++ a ∷ [] = is.1.1 in
    let before : stands_before a message ≡ true =
    (λ i. is_lt (ordering_then (nat_cmp (is.1.2.order i) (named.order i))
    (slice_cmp nat_cmp (is.1.2.key i) (named.key i)))) ∙ stands in
    ap (λ (l : List Message). are_in_order (l ++ message ∷ [])) whole
    ∙ ap are_in_order (append_assoc front (a ∷ []) (message ∷ []))
    ∙ order_more front a message (sym (ap are_in_order whole) ∙ ordered) before

-- one relation of messages and stamps for another
pub stood_as : (path sequences other : List ℕ) (m n k l : ℕ) (past new : Past)
    (keeps : List (Option ℕ)) (messages : List Message) (stamps : List ℕ)
    → ((keep : Option ℕ) (message : Message) (stamp : ℕ)
    → Stood path sequences m n past keep message stamp
    → Stood path other k l new keep message stamp)
    → AllStood path sequences m n past keeps messages stamps
    → AllStood path other k l new keeps messages stamps
stood_as path sequences other m n k l past new [] [] stamps by stood = stood
stood_as path sequences other m n k l past new [] (message ∷ messages) stamps by stood =
    absurd stood
stood_as path sequences other m n k l past new (keep ∷ keeps) [] stamps by stood = absurd stood
stood_as path sequences other m n k l past new (keep ∷ keeps) (message ∷ messages) [] by stood =
    absurd stood
stood_as path sequences other m n k l past new (keep ∷ keeps) (message ∷ messages)
    (stamp ∷ stamps) by stood = (
      by keep message stamp stood.0,
      stood_as path sequences other m n k l past new keeps messages stamps by stood.1,
    )

stood_more : (path sequences : List ℕ) (m n : ℕ) (past : Past) (keeps : List (Option ℕ))
    (messages : List Message) (stamps : List ℕ) (keep : Option ℕ) (message : Message) (stamp : ℕ)
    → AllStood path sequences m n past keeps messages stamps
    → Stood path sequences m n past keep message stamp
    → AllStood path sequences m n past (keeps ++ keep ∷ []) (messages ++ message ∷ [])
    (stamps ++ stamp ∷ [])
stood_more path sequences m n past [] [] [] keep message stamp all one = (one, refl)
stood_more path sequences m n past [] [] (other ∷ stamps) keep message stamp all one =
    absurd (cc)
stood_more path sequences m n past [] (first ∷ messages) stamps keep message stamp all one =
    absurd all
stood_more path sequences m n past (k ∷ keeps) [] stamps keep message stamp all one = absurd all
stood_more path sequences m n past (k ∷ keeps) (first ∷ messages) [] keep message stamp all one =
    absurd all
stood_more path sequences m n past (k ∷ keeps) (first ∷ messages) (other ∷ stamps) keep message
    stamp all one =
    (all.0, stood_more path sequences m n past keeps messages stamps keep message stamp all.1 one)

there_more : (keeps : List (Option ℕ)) (messages there : List Message) (keep : Option ℕ)
    (message other : Message) → AreThere keeps messages there → IsThere keep message (Some other)
    → AreThere (keeps ++ keep ∷ []) (messages ++ message ∷ []) (there ++ other ∷ [])
there_more [] [] [] keep message other all one = (one, tt)
there_more [] [] (t ∷ there) keep message other all one = absurd all
there_more [] (first ∷ messages) there keep message other all one = absurd all
there_more (k ∷ keeps) [] there keep message other all one = absurd all
there_more (k ∷ keeps) (first ∷ messages) [] keep message other all one = absurd all
there_more (k ∷ keeps) (first ∷ messages) (t ∷ there) keep message other all one =
    (all.0, there_more keeps messages there keep message other all.1 one)

keeps_more : (old : List ListedMail) (known : List ℕ) (messages : List Message) (stamps : List ℕ)
    (message : Message) (stamp : ℕ) → length stamps ≡ length messages
    → kept_by_stamp old known (messages ++ message ∷ []) (stamps ++ stamp ∷ [])
    ≡ kept_by_stamp old known messages stamps ++ stamped old known message.key stamp ∷ []
keeps_more old known [] [] message stamp even = refl
keeps_more old known [] (s ∷ stamps) message stamp even = absurd (omega (arith, even))
keeps_more old known (first ∷ messages) [] message stamp even = absurd (omega (arith, even))
keeps_more old known (first ∷ messages) (s ∷ stamps) message stamp even =
    ap (λ (l : List (Option ℕ)). stamped old known first.key s ∷ l)
    (keeps_more old known messages stamps message stamp (omega (arith, even)))

-- what stays of one message is what its letter holds, where it is known
abbrev pub KeepsCore : List Mail → Option ℕ → Message → Type 0
KeepsCore mails keep message = IfSome keep (λ id. (mail_of mails id).core ≡ message.raw)

cores_last : (mails : List Mail) (keep : Option ℕ) (message : Message)
    → KeepsCore mails keep message → KeepCores (λ raw. raw) mails (keep ∷ []) (message ∷ [])
cores_last mails None message one = tt
cores_last mails (Some id) message one = (one, tt)

cores_more : (mails : List Mail) (keeps : List (Option ℕ)) (messages : List Message)
    (keep : Option ℕ) (message : Message) → KeepCores (λ raw. raw) mails keeps messages
    → KeepsCore mails keep message
    → KeepCores (λ raw. raw) mails (keeps ++ keep ∷ []) (messages ++ message ∷ [])
cores_more mails [] [] keep message all one = cores_last mails keep message one
cores_more mails [] (first ∷ messages) keep message all one = absurd all
cores_more mails (k ∷ keeps) [] keep message all one = absurd all
cores_more mails (None ∷ keeps) (first ∷ messages) keep message all one =
    cores_more mails keeps messages keep message all one
cores_more mails (Some id ∷ keeps) (first ∷ messages) keep message all one =
    (all.0, cores_more mails keeps messages keep message all.1 one)

placed_more : (messages : List Message) (message : Message) → ArePlaced number_at messages
    → message.order ≡ number_at message.key → ArePlaced number_at (messages ++ message ∷ [])
placed_more [] message all one = (one, tt)
placed_more (first ∷ messages) message all one =
    (all.0, placed_more messages message all.1 one)

-- The names of the walk, those that are left, and what was seen of the others: the messages that
-- were found, and those of a tree that does not change.
pub record SoFar (course : Course) (names left : List (List ℕ)) (found : Finding)
    (old new : Past) : Type 0 where
  pub stood : AllStood course.path course.sequences (length old.journal) (length new.journal) new
      found.keeps found.messages found.stamps
  pub kept : (name : List ℕ) → IsIn name names
      → StaysThere course.path name (length old.journal) (length new.journal) new
      → (has_key name found.messages ≡ true) ⊎ IsIn name left
  pub still : (tree : List TreeNode) → IsTreeOfAll tree old new
      → (there : List Message) × (AreThere found.keeps found.messages there
      × (there ++ filter_map (message_at tree course.path course.sequences) left
      ≡ filter_map (message_at tree course.path course.sequences) names))

-- nothing is found yet
abbrev pub no_finding : Finding
no_finding = record { messages = []; keeps = []; stamps = [] }

so_far_first : (course : Course) (names : List (List ℕ)) (past : Past)
    → SoFar course names names no_finding past past
so_far_first course names past = record {
  stood = refl;
  kept = λ name held stays. inr held;
  still = λ tree all. ([], (tt, refl));
}

-- What was seen stays seen while others go on.

stays_before : (path name : List ℕ) (from : ℕ) (mid new : Past) → HasLooked mid new
    → StaysThere path name from (length new.journal) new
    → StaysThere path name from (length mid.journal) mid
stays_before path name from mid new looked stays mark low high =
    ap (λ (tree : List TreeNode). is_some (message_at tree path [] name))
    (sym (tree_at-longer mid new mark (looked_longer mid new looked) high))
    ∙ stays mark low (omega (arith, high, longer_later mid new looked))

so_far_later : (course : Course) (names left : List (List ℕ)) (found : Finding)
    (old mid new : Past) → HasLooked mid new → SoFar course names left found old mid
    → SoFar course names left found old new
so_far_later course names left found old mid new looked s = record {
  stood = stood_as course.path course.sequences course.sequences (length old.journal)
      (length mid.journal) (length old.journal) (length new.journal) mid new found.keeps
      found.messages found.stamps (λ keep message stamp one.
      let same : tree_at new one.mark ≡ tree_at mid one.mark =
      tree_at-longer mid new one.mark (looked_longer mid new looked) one.to in
      record {
        mark = one.mark;
        from = one.from;
        to = omega (arith, one.to, longer_later mid new looked);
        named = one.named;
        there = subst (λ (tree : List TreeNode). IsThere keep message
            (message_at tree course.path course.sequences message.key)) (sym same) one.there;
        stamp_is = ap (λ (tree : List TreeNode). stamp_there
            (node_at tree (path_in course.path message.key))) same
            ∙ one.stamp_is;
      }) s.stood;
  kept = λ name held stays. s.kept name held
      (stays_before course.path name (length old.journal) mid new looked stays);
  still = λ tree all. s.still tree (tree_before tree old mid new looked all);
}

-- One name more.

-- the name that was met last, behind one more
abbrev pub last_with : Option Message → List ℕ → Option (List ℕ) → Option (List ℕ)
last_with None name last = last
last_with (Some message) name last = Some name

-- what was found with one more message, where there is one
abbrev pub finding_with : Option Message → Option ℕ → ℕ → Finding → Finding
finding_with found keep stamp before = record {
  messages = messages_with found before.messages;
  keeps = keeps_with found keep before.keeps;
  stamps = stamps_with found stamp before.stamps;
}

so_far_next : (course : Course) (names left : List (List ℕ)) (name : List ℕ) (before : Finding)
    (keep : Option ℕ) (found : Option Message) (stamp : ℕ) (old mid new : Past)
    → HasLooked old mid → HasLooked mid new → is_number name ≡ true
    → IfSome found (λ message. message.key ≡ name)
    → SoFar course names (name ∷ left) before old mid
    → MessageMet course name keep found stamp mid new
    → SoFar course names left (finding_with found keep stamp before) old new
so_far_next course names left name before keep found stamp old mid new first next is key s met =
    by_found found key met
  where
    path : List ℕ
    path = course.path

    sequences : List ℕ
    sequences = course.sequences

    later : SoFar course names (name ∷ left) before old new
    later = so_far_later course names (name ∷ left) before old mid new next s

    low : (mark : ℕ) → length mid.journal ≤ mark → length old.journal ≤ mark
    low mark from = omega (arith, from, longer_later old mid first)

    by_found : (found : Option Message) → IfSome found (λ message. message.key ≡ name)
        → MessageMet course name keep found stamp mid new
        → SoFar course names left (finding_with found keep stamp before) old new
    by_found None key met = record {
      stood = later.stood;
      kept = λ other held stays. by_place other stays (later.kept other held stays);
      still = λ tree all.
          let before_it = later.still tree all in
          let none : message_at tree path sequences name ≡ None =
          ap (λ (t : List TreeNode). message_at t path sequences name)
          (sym (all met.mark (low met.mark met.from) met.to)) ∙ met.there in (
            before_it.0,
            (
              before_it.1.0,
              ap (λ (m : Option Message). before_it.0 ++ cons_option m
                  (filter_map (message_at tree path sequences) left)) (sym none) ∙ before_it.1.1,
            ),
          );
    }
      where
        by_place : (other : List ℕ) → StaysThere path other (length old.journal)
            (length new.journal) new
            → (has_key other before.messages ≡ true) ⊎ IsIn other (name ∷ left)
            → (has_key other before.messages ≡ true) ⊎ IsIn other left
        by_place other stays (inl key) = inl key
        by_place other stays (inr (inl same)) =
            absurd (true_false (sym (subst
            (λ (n : List ℕ). is_some (message_at (tree_at new met.mark) path [] n) ≡ true)
            (sym same) (stays met.mark (low met.mark met.from) met.to))
            ∙ same_there [] sequences name (file_at (tree_at new met.mark) (path_in path name))
            ∙ ap is_some met.there))
        by_place other stays (inr (inr held)) = inr held
    by_found (Some message) key met = record {
      stood = stood_more path sequences (length old.journal) (length new.journal) new
          before.keeps before.messages before.stamps keep message stamp later.stood (record {
            mark = met.mark;
            from = low met.mark met.from;
            to = met.to;
            named = ap is_number key ∙ is;
            there = subst (λ (n : List ℕ). IsThere keep message
                (message_at (tree_at new met.mark) path sequences n)) (sym key) met.there;
            stamp_is = ap (λ (n : List ℕ). stamp_there
                (node_at (tree_at new met.mark) (path_in path n))) key
                ∙ met.stamp_is message refl;
          });
      kept = λ other held stays. by_place other (later.kept other held stays);
      still = λ tree all.
          let before_it = later.still tree all in
          let here = some_there keep message (message_at tree path sequences name)
          (subst (λ (t : List TreeNode). IsThere keep message (message_at t path sequences name))
          (all met.mark (low met.mark met.from) met.to) met.there) in (
            before_it.0 ++ here.other ∷ [],
            (
              there_more before.keeps before.messages before_it.0 keep message here.other
                  before_it.1.0 here.alike,
              append_assoc before_it.0 (here.other ∷ [])
                  (filter_map (message_at tree path sequences) left)
                  ∙ ap (λ (m : Option Message). before_it.0 ++ cons_option m
                  (filter_map (message_at tree path sequences) left)) (sym here.is)
                  ∙ before_it.1.1,
            ),
          );
    }
      where
        by_place : (other : List ℕ) → (has_key other before.messages ≡ true)
            ⊎ IsIn other (name ∷ left)
            → (has_key other (before.messages ++ message ∷ []) ≡ true) ⊎ IsIn other left
        by_place other (inl there) = inl (key_more other before.messages (message ∷ []) there)
        by_place other (inr (inl same)) =
            inl (subst (λ (n : List ℕ). has_key n (before.messages ++ message ∷ []) ≡ true)
            (key ∙ same)
            (key_last before.messages message))
        by_place other (inr (inr held)) = inr held

-- What is stored.

stored_first : (first : Kept) → IsNothing first → IsStored no_finding first first
stored_first first nothing = record {
  store = first.store;
  nearly = nearly_same first.store;
  holds = holds_first mh_format first.store nothing.store;
  stamps_are = λ none. nothing.stamps;
}

fewer_with : (letters : ℕ) (keeps : List (Option ℕ)) (messages : List Message) (keep : Option ℕ)
    (found : Option Message)
    → list_refusal letters (keeps_with found keep keeps) (messages_with found messages) ≡ None
    → list_refusal letters keeps messages ≡ None
fewer_with letters keeps messages keep None none = none
fewer_with letters keeps messages keep (Some message) none =
    fewer_none letters keeps messages keep message none

stored_next : (before : Finding) (keep : Option ℕ) (found : Option Message) (stamp : ℕ)
    (first kept new_kept : Kept) → IsStored before first kept
    → Keeps keep found stamp kept new_kept
    → IsStored (finding_with found keep stamp before) first new_kept
stored_next before keep found stamp first kept new_kept s k =
    let store : Store = store_found mh_format keep found s.store in
    let nearly : Nearly new_kept.store store =
    nearly_then new_kept.store (store_found mh_format keep found kept.store) store k.store
    (nearly_found keep found kept.store s.store s.nearly) in
    let holds : Holds mh_format first.store (keeps_with found keep before.keeps)
    (messages_with found before.messages) store =
    holds_found mh_format first.store s.store before.keeps before.messages keep found
    (λ id m. refl) s.holds in
    record {
      store = store;
      nearly = nearly;
      holds = holds;
      stamps_are = λ none.
          k.stamps (nearly_refusal new_kept.store store nearly
          ∙ held_refusal mh_format first.store store (keeps_with found keep before.keeps)
          (messages_with found before.messages) holds
          ∙ none)
          ∙ ap (stamps_with found stamp) (s.stamps_are
          (fewer_with first.store.letters before.keeps before.messages keep found none));
    }

-- What each message keeps.

-- the messages are in order, and the last has this name
pub record InLine (course : Course) (last : Option (List ℕ)) (found : Finding) : Type 0 where
  pub at_last : IsLast last found.messages
  pub are : AreKept course found

in_line_first : (course : Course) → InLine course None no_finding
in_line_first course = record {
  at_last = refl;
  are = record { even = refl; keeps_are = refl; cores = tt; in_order = refl; placed = tt };
}

in_line_next : (course : Course) (last : Option (List ℕ)) (name : List ℕ) (before : Finding)
    (keep : Option ℕ) (found : Option Message) (stamp : ℕ) → Stands last name
    → InLine course last before → IfSome found (IsFile course name keep stamp)
    → InLine course (last_with found name last) (finding_with found keep stamp before)
in_line_next course last name before keep None stamp stands line is = line
in_line_next course last name before keep (Some message) stamp stands line is =
    let named : Named name message = record { key = is.key; order = is.order } in
    let old = old_mails course in
    let known = course.known.stamps in
    record {
      at_last = (before.messages, (message, refl, named));
      are = record {
        even = omega (
          arith,
          line.are.even,
          length-append before.stamps (stamp ∷ []),
          length-append before.messages (message ∷ []),
        );
        keeps_are = ap (λ (l : List (Option ℕ)). l ++ keep ∷ []) line.are.keeps_are
            ∙ ap (λ (k : Option ℕ). kept_by_stamp old known before.messages before.stamps ++ k ∷ [])
            (is.keep_is ∙ ap (λ (n : List ℕ). stamped old known n stamp) (sym is.key))
            ∙ sym (keeps_more old known before.messages before.stamps message stamp line.are.even);
        cores = cores_more course.mails before.keeps before.messages keep message line.are.cores
            is.core;
        in_order = next_in_order last name before.messages message line.at_last stands named
            line.are.in_order;
        placed = placed_more before.messages message line.are.placed
            (is.order ∙ ap number_at (sym is.key));
      };
    }

-- The whole walk.

-- what is kept and what was seen so far
pub record Walking (course : Course) (names left : List (List ℕ)) (first kept : Kept)
    (old new : Option Past) : Type 0 where
  pub last : Option (List ℕ)
  pub found : Finding
  pub rises : Rises last left
  pub line : InLine course last found
  pub stored : IsStored found first kept
  pub saw : GoesOn (SoFar course names left found) old new

pub walking_first : (course : Course) (names : List (List ℕ)) (first : Kept) (told : Option Past)
    → IsNothing first → Rises None names → Walking course names names first first told told
walking_first course names first told nothing rises = record {
  last = None;
  found = no_finding;
  rises = rises;
  line = in_line_first course;
  stored = stored_first first nothing;
  saw = by_told told;
}
  where
    by_told : (told : Option Past) → GoesOn (SoFar course names names no_finding) told told
    by_told None = refl
    by_told (Some past) = so_far_first course names past

rises_with : (last : Option (List ℕ)) (name : List ℕ) (found : Option Message)
    (names : List (List ℕ))
    → Rises last (name ∷ names) → Rises (last_with found name last) names
rises_with last name None names rises = rises_skipped last name names rises
rises_with last name (Some message) names rises = (rises_first last name names rises).1

keyed_file : (course : Course) (name : List ℕ) (keep : Option ℕ) (stamp : ℕ)
    (found : Option Message) → IfSome found (IsFile course name keep stamp)
    → IfSome found (λ message. message.key ≡ name)
keyed_file course name keep stamp None is = tt
keyed_file course name keep stamp (Some message) is = is.key

pub walking_next : (course : Course) (names all left : List (List ℕ)) (name : List ℕ)
    (first kept new_kept : Kept) (a b c : Option Past) → all ≡ name ∷ left → is_number name ≡ true
    → LooksOnly a b → LooksOnly b c → Walking course names all first kept a b
    → Takes course name kept new_kept b c
    → Walking course names left first new_kept a c
walking_next course names all left name first kept new_kept a b c whole is before next w t =
    let rises : Rises w.last (name ∷ left) = subst (Rises w.last) whole w.rises in
    let so_far : GoesOn (SoFar course names (name ∷ left) w.found) a b =
    subst (λ (l : List (List ℕ)). GoesOn (SoFar course names l w.found) a b) whole w.saw in
    record {
      last = last_with t.found name w.last;
      found = finding_with t.found t.keep t.stamp w.found;
      rises = rises_with w.last name t.found left rises;
      line = in_line_next course w.last name w.found t.keep t.found t.stamp
          (rises_first w.last name left rises).0 w.line t.is;
      stored = stored_next w.found t.keep t.found t.stamp first kept new_kept w.stored t.keeps;
      saw = goes_then a b c (λ p q r x y s met.
          so_far_next course names left name w.found t.keep t.found t.stamp p q r x y is
          (keyed_file course name t.keep t.stamp t.found t.is) s met) before next so_far t.saw;
    }

pub walking_done : (course : Course) (names left : List (List ℕ)) (first kept : Kept)
    (a b : Option Past) → left ≡ [] → Walking course names left first kept a b
    → IsWalked course names first kept a b
walking_done course names left first kept a b none w = record {
  found = w.found;
  stored = w.stored;
  are = w.line.are;
  saw = goes_as a b (λ p q s. record {
    stood = s.stood;
    kept = λ name held stays. by_place name (s.kept name held stays);
    still = λ tree all.
        let it = s.still tree all in
        subst (AreThere w.found.keeps w.found.messages) (sym (append-nil it.0) ∙ it.1.1) it.1.0;
  }) (subst (λ (l : List (List ℕ)). GoesOn (SoFar course names l w.found) a b) none w.saw);
}
  where
    by_place : (name : List ℕ) → (has_key name w.found.messages ≡ true) ⊎ IsIn name []
        → has_key name w.found.messages ≡ true
    by_place name (inl key) = key
    by_place name (inr held) = absurd held

-- A step of the walk over files.

pub file_head : (all rest : List NumberedName) (item : NumberedName) → all ≡ item ∷ rest
    → All IsNumbered all
    → IsNumbered item
file_head all rest item whole each =
    All-head IsNumbered item rest (All-same IsNumbered (item ∷ rest) all (sym whole) each)

pub stepped : (course : Course) (names : List (List ℕ)) (all rest : List NumberedName)
    (item : NumberedName) (first kept new_kept : Kept) (a b c : Option Past) → all ≡ item ∷ rest
    → All IsNumbered all → LooksOnly a b → LooksOnly b c
    → Walking course names (plain_names all) first kept a b
    → Takes course item.name.items kept new_kept b c
    → Walking course names (plain_names rest) first new_kept a c
stepped course names all rest item first kept new_kept a b c whole each before next w t =
    let named : number_of item.name.items ≡ Some
    item.number = (file_head all rest item whole each).number_is in
    walking_next course names (plain_names all)
    (plain_names rest) item.name.items first kept new_kept a b c
    (ap plain_names whole) (ap (λ (n : Option ℕ). is_some n) named) before next w t
