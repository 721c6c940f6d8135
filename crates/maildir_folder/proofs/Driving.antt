-- What a scan of a Maildir has seen, by its names and its walk.
use Rattle.std.proofs.Common.{◌≡◌, ◌≤◌, ◌+◌, ◌++◌, ◌&&◌, ◌||◌, inl, inr, ℕ, Bool, true, false, not}
use Rattle.std.proofs.Common.{List, [], ◌∷◌}
use Rattle.std.proofs.Common.{Option, Some, None, length, map, is_none, is_some, if◌then◌else◌}
use Rattle.std.proofs.Common.{refl, sym, ◌∙◌}
use Rattle.std.proofs.Common.{ap, subst, arith}
use Rattle.std.specs.Prelude.{option_map}
use Rattle.std.specs.List.{filter}
use Rattle.std.specs.Str.{bytes_eq}
use Rattle.std.proofs.lemmas.Bool.{and_parts}
use Rattle.disk_model.specs.Journal.{ListDir, NoForeign, Own, Past}
use Rattle.disk_model.specs.Looking.{HasLooked, OnlyLooks}
use Rattle.disk_model.specs.Names.{names_in}
use Rattle.disk_model.specs.State.{tree_at}
use Rattle.disk_model.specs.Tree.{TreeNode}
use Rattle.disk_model.proofs.Looking.{looked_longer, looked_then}
use Rattle.disk_model.proofs.Marks.{tree_at-longer, tree_at-looked}
use Rattle.disk_model.proofs.Trees.{bytes_same}
use Rattle.folder_core.specs.Directory.{file_at, is_folder_at, is_name, path_in}
use Rattle.folder_core.specs.Maildir.{AllStood, MaildirFile, StaysThere, comes_before, directory}
use Rattle.folder_core.specs.Maildir.{files_in, is_maildir, is_shown, maildir_format}
use Rattle.folder_core.specs.Maildir.{maildir_messages, maildir_reads, message_at, message_of}
use Rattle.folder_core.specs.Maildir.{messages_behind}
use Rattle.folder_core.specs.MaildirNames.{begins_dot, split_name}
use Rattle.folder_core.specs.Message.{Message, has_key}
use Rattle.mail_base.specs.Ordered.{in_order_by}
use Rattle.folder_core.proofs.NamesIn.{file_held, holds_name}
use Rattle.folder_core.proofs.SeenLemmas.{alone_foreign, goes_then, longer_later, own_later}
use Rattle.folder_core.proofs.SeenLemmas.{saw_later}
use Rattle.maildir_folder.specs.declared.candidates.Candidate.{Candidate}
use Rattle.maildir_folder.specs.Candidates.{plain_file}
use Rattle.maildir_folder.specs.Files.{CurSeen, FolderSeen, ListsFiles, NamesSeen, NewSeen}
use Rattle.maildir_folder.specs.Walk.{IsWalked, WalkSeen}
use Rattle.maildir_folder.specs.Scan.{MessagesSeen}
use Rattle.folder_core.proofs.DirectoryScanLemmas.{FolderWalked, TellsKind}
use Rattle.folder_core.specs.Directory.{ReadsAs}
use Rattle.folder_core.specs.Keeping.{AreThere}
use Rattle.folder_core.specs.Known.{KnownFolder}
use Rattle.folder_core.specs.MaildirNames.{order_of}
use Rattle.folder_core.specs.Message.{are_in_order}
use Rattle.folder_core.specs.Right.{Right}
use Rattle.folder_letters.specs.Letters.{Mail}
use Rattle.folder_letters.specs.declared.listing.Listed.{Listed}
use Rattle.mail_base.specs.declared.kind.Kind.TheVariants.{Maildir}
use Rattle.disk_model.specs.Seen.{Seen}
use Rattle.maildir_folder.specs.KnownBase.{CanSearch}
use Rattle.mail_base.proofs.OrderedLemmas.{in_order_held}
use Rattle.folder_core.specs.ListedSoFar.{Store}
use Rattle.mail_base.specs.Ordered.{IsIn}

true_false : ◌≡◌ {A = Bool} true false → ⊥
true_false e = cc

-- A name that is there is among the files.

in_left : (file : MaildirFile) (files more : List MaildirFile) → IsIn file files
    → IsIn file (files ++ more)
in_left file [] more held = absurd held
in_left file (other ∷ files) more (inl same) = inl same
in_left file (other ∷ files) more (inr held) = inr (in_left file files more held)

in_right : (file : MaildirFile) (files more : List MaildirFile) → IsIn file more
    → IsIn file (files ++ more)
in_right file [] more held = held
in_right file (other ∷ files) more held = inr (in_right file files more held)

in_files_in : (in_cur : Bool) (name : List ℕ) (names : List (List ℕ)) → is_shown name ≡ true
    → holds_name name names ≡ true → IsIn {A = MaildirFile}
    (record { in_cur = in_cur; name = name }) (files_in in_cur names)
in_files_in in_cur name [] shown held = absurd (true_false (sym held))
in_files_in in_cur name (other ∷ names) shown held =
    by_name (bytes_eq other name) (is_shown other) refl refl held
    (λ rest. in_files_in in_cur name names shown rest)
  where
    by_name : (t k : Bool) → bytes_eq other name ≡ t → is_shown other ≡ k
        → (t || holds_name name names) ≡ true
        → (holds_name name names ≡ true → IsIn {A = MaildirFile}
        (record { in_cur = in_cur; name = name }) (files_in in_cur names))
        → IsIn {A = MaildirFile} (record { in_cur = in_cur; name = name })
        (map (λ n. record { in_cur = in_cur; name = n })
        (if k then other ∷ filter is_shown names else filter is_shown names))
    by_name true true same kept held again =
        inl (ap (λ (n : List ℕ). record { in_cur = in_cur; name = n }) (bytes_same other name same))
    by_name true false same kept held again =
        absurd (true_false (sym shown ∙ ap is_shown (sym (bytes_same other name same)) ∙ kept))
    by_name false true same kept held again = inr (again held)
    by_name false false same kept held again = again held

some_mapped : (file : MaildirFile) (bytes : Option (List ℕ))
    → is_some (option_map (message_of file) bytes) ≡ true
    → is_some bytes ≡ true
some_mapped file None some = some
some_mapped file (Some bytes) some = refl

-- a file that is there when its directory is listed is listed
there_listed : (tree : List TreeNode) (path : List ℕ) (in_cur : Bool) (name : List ℕ)
    (names : List (List ℕ))
    → names ≡ names_in tree (directory in_cur path) → is_shown name ≡ true
    → is_some (message_at tree path (record { in_cur = in_cur; name = name })) ≡ true
    → IsIn {A = MaildirFile} (record { in_cur = in_cur; name = name }) (files_in in_cur names)
there_listed tree path in_cur name names told shown there =
    let parts = and_parts (is_name name) (not (begins_dot name)) shown in
    in_files_in in_cur name names shown
    (ap (holds_name name) told ∙ file_held tree (directory in_cur path) name parts.0
    (some_mapped (record { in_cur = in_cur; name = name })
    (file_at tree (path_in (directory in_cur path) name)) there))

-- What was seen from the first look on.

stood_earlier : (path : List ℕ) (from mid to : ℕ) (past : Past) (keeps : List (Option ℕ))
    (messages : List Message) → from ≤ mid
    → AllStood path mid to past keeps messages → AllStood path from to past keeps messages
stood_earlier path from mid to past [] [] low stood = tt
stood_earlier path from mid to past [] (message ∷ messages) low stood = absurd stood
stood_earlier path from mid to past (keep ∷ keeps) [] low stood = absurd stood
stood_earlier path from mid to past (keep ∷ keeps) (message ∷ messages) low stood =
    let one = stood.0 in (
      record {
        mark = one.mark;
        from = omega (arith, one.from, low);
        to = one.to;
        file = one.file;
        shown = one.shown;
        there = one.there;
      },
      stood_earlier path from mid to past keeps messages low stood.1,
    )

-- the folder at a tree of each mark
still_reads : (tree : List TreeNode) (path : List ℕ) (cur new : List (List ℕ))
    (files : List MaildirFile) (keeps : List (Option ℕ)) (messages : List Message)
    → files ≡ in_order_by comes_before (files_in true cur ++ files_in false new)
    → is_folder_at tree path ≡ true
    → (new ≡ names_in tree (directory false path)) × (file_at tree (directory false path) ≡ None)
    → (cur ≡ names_in tree (directory true path)) × (is_folder_at tree (directory true path) ≡ true)
    → AreThere keeps messages (messages_behind tree path None files)
    → ReadsAs maildir_reads path keeps messages tree
still_reads tree path cur new files keeps messages order folder news curs are =
    let maildir : is_maildir tree path ≡ true =
    λ i. folder i && curs.1 i && is_none (news.1 i) in (
      messages_behind tree path None files,
      (
        ap (λ (t : Bool). if t then Some (maildir_messages tree path) else None) maildir
            ∙ ap Some (sym (ap (messages_behind tree path None)
            (order ∙ λ i. in_order_by comes_before
            (files_in true (curs.0 i) ++ files_in false (news.0 i))))),
        are,
      ),
    )

seen_messages : (path : List ℕ) (cur new : List (List ℕ)) (files : List MaildirFile)
    (keeps : List (Option ℕ)) (messages : List Message) (stamps : List ℕ)
    (p q r : Past) → HasLooked p q → HasLooked q r
    → files ≡ in_order_by comes_before (files_in true cur ++ files_in false new)
    → are_in_order messages ≡ true → NamesSeen path cur new p q
    → WalkSeen path files keeps messages q r → MessagesSeen path keeps messages stamps p r
seen_messages path cur new files keeps messages stamps p q r first next order ordered names walk =
    record {
      in_order = ordered;
      stood = stood_earlier path (length p.journal) (length q.journal) (length r.journal) r keeps
          messages low walk.stood;
      listed = curs.0.mark;
      from = curs.0.from;
      to = curs.0.to;
      answer = curs.0.answer;
      call = curs.0.own;
      stayed = λ file shown stays. kept_by file.in_cur file.name shown stays;
      moved = λ name new_name mark from below shown new_shown same before after.
          let late : mark + 1 ≤ length q.journal = omega (arith, below, curs.1) in
          subst (λ (b : List ℕ). has_key b messages ≡ true) same
          (walk.kept (record { in_cur = true; name = new_name }) (in_cur new_name new_shown
          (after curs.0.mark (omega (arith, below)) curs.0.to))
          (λ m high to. after m (omega (arith, late, high)) to));
      alone = λ alone.
          let none : NoForeign p r = alone_foreign p r alone in
          still_reads (tree_at r (length r.journal)) path cur new files keeps messages order
          (subst (λ (t : List TreeNode). is_folder_at t path ≡ true)
          (now none folder.mark folder.from)
          folder.tells)
          (subst (λ (t : List TreeNode). (new ≡ names_in t (directory false path))
          × (file_at t (directory false path) ≡ None)) (now none news.mark news.from) news.tells)
          (subst (λ (t : List TreeNode). (cur ≡ names_in t (directory true path))
          × (is_folder_at t (directory true path) ≡ true)) (now none curs.0.mark curs.0.from)
          curs.0.tells)
          (walk.still (tree_at r (length r.journal))
          (λ mark from to. now none mark (omega (arith, from, low))));
    }
  where
    low : length p.journal ≤ length q.journal
    low = longer_later p q first

    folder : FolderSeen path p r
    folder = saw_later {Tells = λ tree. is_folder_at tree path ≡ true} p q r names.folder next

    news : NewSeen path new p r
    news = saw_later {Tells = λ tree. (new ≡ names_in tree (directory false path))
        × (file_at tree (directory false path) ≡ None)} p q r names.new_names next

    curs : (c : CurSeen path cur p r) × (c.mark ≤ length q.journal)
    curs = (
      record {
        mark = names.cur_names.mark;
        from = names.cur_names.from;
        to = omega (arith, names.cur_names.to, longer_later q r next);
        answer = names.cur_names.answer;
        own = own_later names.cur_names.mark
            (Own (ListDir (directory true path)) names.cur_names.answer) q r next
            names.cur_names.own;
        tells = subst (λ (tree : List TreeNode). (cur ≡ names_in tree (directory true path))
            × (is_folder_at tree (directory true path) ≡ true))
            (sym (tree_at-longer q r names.cur_names.mark (looked_longer q r next)
            names.cur_names.to))
            names.cur_names.tells;
      },
      names.cur_names.to,
    )

    now : NoForeign p r → (mark : ℕ) → length p.journal ≤ mark
        → tree_at r mark ≡ tree_at r (length r.journal)
    now none mark from =
        tree_at-looked p r mark (looked_then p q r first next) none from
        ∙ sym (tree_at-looked p r (length r.journal) (looked_then p q r first next) none
        (omega (arith, low, longer_later q r next)))

    in_cur : (name : List ℕ) → is_shown name ≡ true
        → is_some (message_at (tree_at r curs.0.mark) path (record { in_cur = true; name = name }))
        ≡ true
        → IsIn {A = MaildirFile} (record { in_cur = true; name = name }) files
    in_cur name shown there =
        subst (IsIn {A = MaildirFile} (record { in_cur = true; name = name })) (sym order)
        (in_order_held comes_before (record { in_cur = true; name = name })
        (files_in true cur ++ files_in false new)
        (in_left (record { in_cur = true; name = name }) (files_in true cur) (files_in false new)
        (there_listed (tree_at r curs.0.mark) path true name cur curs.0.tells.0 shown there)))

    in_new : (name : List ℕ) → is_shown name ≡ true
        → is_some (message_at (tree_at r news.mark) path (record { in_cur = false; name = name }))
        ≡ true
        → IsIn {A = MaildirFile} (record { in_cur = false; name = name }) files
    in_new name shown there =
        subst (IsIn {A = MaildirFile} (record { in_cur = false; name = name })) (sym order)
        (in_order_held comes_before (record { in_cur = false; name = name })
        (files_in true cur ++ files_in false new)
        (in_right (record { in_cur = false; name = name }) (files_in true cur) (files_in false new)
        (there_listed (tree_at r news.mark) path false name new news.tells.0 shown there)))

    kept_by : (is_cur : Bool) (name : List ℕ) → is_shown name ≡ true
        → StaysThere path (record { in_cur = is_cur; name = name }) (length p.journal)
        (length r.journal) r
        → has_key (split_name name).0 messages ≡ true
    kept_by true name shown stays =
        walk.kept (record { in_cur = true; name = name })
        (in_cur name shown (stays curs.0.mark curs.0.from curs.0.to))
        (λ m from to. stays m (omega (arith, from, low)) to)
    kept_by false name shown stays =
        walk.kept (record { in_cur = false; name = name })
        (in_new name shown (stays news.mark news.from news.to))
        (λ m from to. stays m (omega (arith, from, low)) to)

-- the messages that were found, from the first look to the last
pub folder_walked : (known : KnownFolder) (files listed : List Candidate) (first store : Store)
    (a b c : Seen)
    → listed ≡ files → OnlyLooks a b → OnlyLooks b c
    → ListsFiles known.path files a.told b.told
    → IsWalked first.archive known (map plain_file listed) first store b c
    → FolderWalked maildir_format order_of known (MessagesSeen known.path) [] first store a.told
    c.told
folder_walked known files listed first store a b c same before next lists walked = record {
  messages = walked.messages;
  keeps = walked.keeps;
  kept = walked.walked.kept;
  cores = walked.walked.cores;
  in_order = walked.walked.in_order;
  placed = walked.walked.placed;
  holds = walked.walked.holds;
  saw = goes_then a.told b.told c.told (λ p q r x y names walk.
      seen_messages known.path lists.cur lists.new_names (map plain_file listed) walked.keeps
      walked.messages [] p q r x y (ap (map plain_file) same ∙ lists.order.sorted)
      walked.walked.in_order names walk) before.looks next.looks lists.saw walked.saw;
}

-- What was known can be searched.
pub search_right : (mails : List Mail) (known : KnownFolder) (told : Option Past)
    → Right Maildir mails known told → CanSearch mails known.listing
search_right mails known told right =
    record { within = right.within; ordered = right.ordered; placed = right.read.placed }

-- What is known of a Maildir that was listed so.
pub maildir_tells : (archive new_archive : List Mail) (known : KnownFolder) (listing : List Listed)
    (old new : Option Past)
    → TellsKind Maildir order_of archive new_archive known listing [] (MessagesSeen known.path) old
    new
maildir_tells archive new_archive known listing old new = record {
  sees = λ keeps messages p q taken saw.
      record { saw = saw; taken = taken; bytes = refl; stamps = refl };
  read = λ is lists. record { placed = lists.placed; bytes = refl; stamps = refl };
}

-- what is said of one path is so of the same path
pub at_path : (Said : List ℕ → Option Past → Option Past → Type 0) (at path : List ℕ)
    (a b : Option Past) → at ≡ path → Said at a b → Said path a b
at_path Said at path a b same said = subst (λ (p : List ℕ). Said p a b) same said
