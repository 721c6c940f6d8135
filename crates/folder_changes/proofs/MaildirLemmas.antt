-- What is done to one file of a Maildir changes one message.
use Rattle.std.proofs.Common.{◌≡◌, ◌⊎◌, inl, inr, ◌++◌, Bool, true, false, List, [], ◌∷◌, Option}
use Rattle.std.proofs.Common.{Some, None, refl, sym, ◌∙◌, ap, subst, if◌then◌else◌, ℕ}
use Rattle.std.proofs.lemmas.Slice.Eq.{bytes_eq-Decides}
use Rattle.std.specs.Ordering.{is_lt, nat_cmp, ordering_then}
use Rattle.std.specs.Cmp.Lexicographic.{slice_cmp}
use Rattle.std.specs.Prelude.{option_map}
use Rattle.std.specs.Str.{bytes_eq}
use Rattle.mail_base.specs.Flags.{applied, stored}
use Rattle.mail_base.specs.Ordered.{IsIn}
use Rattle.mail_base.specs.declared.kind.Kind.{Kind}
use Rattle.mail_base.specs.declared.kind.Kind.TheVariants.{Maildir}
use Rattle.disk_model.specs.Tree.{TreeNode}
use Rattle.disk_model.proofs.Trees.{bytes_same}
use Rattle.index_items.specs.Changes.{PlainChange, Alters, Discards}
use Rattle.folder_core.specs.Maildir.{MaildirFile, base_of, is_maildir, is_shown, maildir_messages}
use Rattle.folder_core.specs.Maildir.{maildir_reads, message_at}
use Rattle.folder_core.specs.Message.{Message, stands_before}
use Rattle.folder_changes.specs.Maildir.{IsMessageAt, IsSingleNamed, RenamesFile, TakesFile}
use Rattle.folder_changes.specs.Wanted.{altered, change_at, changed, wanted}
use Rattle.folder_changes.proofs.MemberLemmas.{message_named, message_order, message_placed}
use Rattle.folder_changes.proofs.MemberLemmas.{messages_rise, named_message}
use Rattle.folder_changes.proofs.OrderLemmas.{Rise, in_either, in_left, in_right, same_lists}

true_false : ◌≡◌ {A = Bool} true false → ⊥
true_false e = cc

some_same : {A : Type 0} (x y : A) → ◌≡◌ {A = Option A} (Some x) (Some y) → x ≡ y
some_same x y e = cc

-- What is wanted of messages in order is in order.

-- what becomes of a message has its place
record IsPlaced (m n : Message) : Type 0 where
  pub order : n.order ≡ m.order
  pub key : n.key ≡ m.key

placed_same : (m n : Message) → m ≡ n → IsPlaced m n
placed_same m n same = record {
  order = sym (ap (λ (x : Message). x.order) same);
  key = sym (ap (λ (x : Message). x.key) same);
}

changed_placed : (kind : Kind) (what : Option PlainChange) (m n : Message)
    → IsIn n (changed kind what m) → IsPlaced m n
changed_placed kind None m n (inl same) = placed_same m n same
changed_placed kind None m n (inr rest) = absurd rest
changed_placed kind (Some (Alters added cleared)) m n (inl same) = record {
  order = sym (ap (λ (x : Message). x.order) same);
  key = sym (ap (λ (x : Message). x.key) same);
}
changed_placed kind (Some (Alters added cleared)) m n (inr rest) = absurd rest
changed_placed kind (Some Discards) m n held = absurd held

module _ (kind : Kind) (what : List ℕ → Option PlainChange) where
  -- what is wanted is what becomes of one of the messages
  wanted_of : (messages : List Message) (n : Message) → IsIn n (wanted kind what messages)
      → (m : Message) × IsIn m messages × IsIn n (changed kind (what m.key) m)
  wanted_of [] n held = absurd held
  wanted_of (m ∷ messages) n held =
      by (in_either n (changed kind (what m.key) m) (wanted kind what messages) held)
      (λ rest. wanted_of messages n rest)
    where
      by : IsIn n (changed kind (what m.key) m) ⊎ IsIn n (wanted kind what messages)
          → (IsIn n (wanted kind what messages)
          → (x : Message) × IsIn x messages × IsIn n (changed kind (what x.key) x))
          → (x : Message) × IsIn x (m ∷ messages) × IsIn n (changed kind (what x.key) x)
      by (inl here) again = (m, inl refl, here)
      by (inr rest) again = let at = again rest in (at.0, inr at.1, at.2)

  wanted_is : (messages : List Message) (m n : Message) → IsIn m messages
      → IsIn n (changed kind (what m.key) m) → IsIn n (wanted kind what messages)
  wanted_is [] m n held is = absurd held
  wanted_is (x ∷ messages) m n (inl same) is =
      in_left n (changed kind (what x.key) x) (wanted kind what messages)
      (subst (λ (y : Message). IsIn n (changed kind (what y.key) y)) (sym same) is)
  wanted_is (x ∷ messages) m n (inr held) is =
      in_right n (changed kind (what x.key) x) (wanted kind what messages)
      (wanted_is messages m n held is)

  wanted_rise : (messages : List Message) → Rise stands_before messages
      → Rise stands_before (wanted kind what messages)
  wanted_rise [] rise = tt
  wanted_rise (m ∷ messages) rise = by (what m.key) (wanted_rise messages rise.1)
    where
      before : (x : Message) → IsPlaced m x → (n : Message) → IsIn n (wanted kind what messages)
          → stands_before x n ≡ true
      before x p n held =
          let at = wanted_of messages n held in
          let q = changed_placed kind (what at.0.key) at.0 n at.2 in
          (λ i. is_lt
          (ordering_then (nat_cmp (p.order i) (q.order i)) (slice_cmp nat_cmp (p.key i) (q.key i))))
          ∙ rise.0 at.0 at.1

      by : (change : Option PlainChange) → Rise stands_before (wanted kind what messages)
          → Rise stands_before (changed kind change m ++ wanted kind what messages)
      by None again = (before m (placed_same m m refl), again)
      by (Some (Alters added cleared)) again = (
        before (record m { flags = stored kind (applied m.flags added cleared) })
            (record { order = refl; key = refl }),
        again,
      )
      by (Some Discards) again = again

-- The messages of a changed folder.

-- a name's message has another base or this one
apart_or : (path base : List ℕ) (tree : List TreeNode) (file : MaildirFile) (m : Message)
    → IsMessageAt path tree file m
    → ((base_of file ≡ base) × (bytes_eq m.key base ≡ true))
    ⊎ ((base_of file ≡ base → ⊥) × (bytes_eq m.key base ≡ false))
apart_or path base tree file m at = by (bytes_eq m.key base) refl
  where
    key : m.key ≡ base_of file
    key = (message_placed tree path file m at.there).1

    by : (b : Bool) → bytes_eq m.key base ≡ b
        → ((base_of file ≡ base) × (b ≡ true)) ⊎ ((base_of file ≡ base → ⊥) × (b ≡ false))
    by true is = inl (sym key ∙ bytes_same m.key base is, refl)
    by false is = inr (
      λ same. true_false
          (sym ((bytes_eq-Decides m.key base).1 (key ∙ same)) ∙ is),
      refl,
    )

-- another message stays, and this one changes
at_other : (base : List ℕ) (change : PlainChange) (m : Message) → bytes_eq m.key base ≡ false
    → changed Maildir (change_at base change m.key) m ≡ m ∷ []
at_other base change m other =
    ap (λ (b : Bool). changed Maildir (if b then Some change else None) m) other

at_own : (base : List ℕ) (change : PlainChange) (m : Message) → bytes_eq m.key base ≡ true
    → changed Maildir (change_at base change m.key) m ≡ altered Maildir change m
at_own base change m own =
    ap (λ (b : Bool). changed Maildir (if b then Some change else None) m) own

-- a Maildir reads as its messages
reads_so : (path : List ℕ) (tree : List TreeNode) → is_maildir tree path ≡ true
    → maildir_reads tree path ≡ Some (maildir_messages tree path)
reads_so path tree folder =
    ap (λ (b : Bool). if b then Some (maildir_messages tree path) else None) folder

-- A folder whose names are of the same messages reads as the same.
module _ (path : List ℕ) (old new : List TreeNode) (single : IsSingleNamed path old)
    (folder : is_maildir new path ≡ true)
    (alike : (file : MaildirFile) → is_shown file.name ≡ true
    → message_at new path file ≡ message_at old path file) where
  was_named : (file : MaildirFile) (m : Message) → IsMessageAt path new file m
      → IsMessageAt path old file m
  was_named file m at =
      record { shown = at.shown; there = sym (alike file at.shown) ∙ at.there }

  is_named : (file : MaildirFile) (m : Message) → IsMessageAt path old file m
      → IsMessageAt path new file m
  is_named file m at = record { shown = at.shown; there = alike file at.shown ∙ at.there }

  pub alike_single : IsSingleNamed path new
  alike_single = record {
    folder = folder;
    single = λ a b m n at_a at_b same.
        single.single a b m n (was_named a m at_a) (was_named b n at_b) same;
  }

  pub alike_reads : maildir_reads new path ≡ maildir_reads old path
  alike_reads =
      reads_so path new folder
      ∙ ap (λ (l : List Message). Some l) (same_lists stands_before message_order
      (maildir_messages new path) (maildir_messages old path)
      (messages_rise new path) (messages_rise old path)
      (λ n held. let at = message_named new path n held in
      named_message old path at.0 n single (was_named at.0 n at.1))
      (λ n held. let at = message_named old path n held in
      named_message new path at.0 n alike_single (is_named at.0 n at.1)))
      ∙ sym (reads_so path old single.folder)

module _ (path base : List ℕ) (old new : List TreeNode) (single : IsSingleNamed path old) where
  -- the folders read as the same but for the message of the base
  reads_changed : (change : PlainChange) → IsSingleNamed path new
      → ((n : Message) → IsIn n (maildir_messages new path)
      → IsIn n (wanted Maildir (change_at base change) (maildir_messages old path)))
      → ((n : Message)
      → IsIn n (wanted Maildir (change_at base change) (maildir_messages old path))
      → IsIn n (maildir_messages new path))
      → maildir_reads new path
      ≡ option_map (wanted Maildir (change_at base change)) (maildir_reads old path)
  reads_changed change alone to from =
      reads_so path new alone.folder
      ∙ ap (λ (l : List Message). Some l) (same_lists stands_before message_order
      (maildir_messages new path)
      (wanted Maildir (change_at base change) (maildir_messages old path))
      (messages_rise new path)
      (wanted_rise Maildir (change_at base change) (maildir_messages old path)
      (messages_rise old path)) to from)
      ∙ sym (ap (option_map (wanted Maildir (change_at base change)))
      (reads_so path old single.folder))

  -- A file went.

  module _ (takes : TakesFile path base old new) where
    stayed : (file : MaildirFile) (m : Message) → IsMessageAt path new file m
        → IsMessageAt path old file m
    stayed file m at = record {
      shown = at.shown;
      there = sym (takes.others file at.shown (λ same. takes.gone file m at same)) ∙ at.there;
    }

    stays : (file : MaildirFile) (m : Message) → IsMessageAt path old file m
        → (base_of file ≡ base → ⊥) → IsMessageAt path new file m
    stays file m at other =
        record { shown = at.shown; there = takes.others file at.shown other ∙ at.there }

    pub taken_single : IsSingleNamed path new
    taken_single = record {
      folder = takes.folder;
      single = λ a b m n at_a at_b same.
          single.single a b m n (stayed a m at_a) (stayed b n at_b) same;
    }

    taken_to : (n : Message) → IsIn n (maildir_messages new path)
        → IsIn n (wanted Maildir (change_at base Discards) (maildir_messages old path))
    taken_to n held =
        let at = message_named new path n held in
        by at.0 at.1 (apart_or path base new at.0 n at.1)
      where
        by : (file : MaildirFile) → IsMessageAt path new file n
            → ((base_of file ≡ base) × (bytes_eq n.key base ≡ true))
            ⊎ ((base_of file ≡ base → ⊥) × (bytes_eq n.key base ≡ false))
            → IsIn n (wanted Maildir (change_at base Discards) (maildir_messages old path))
        by file at (inl own) = absurd (takes.gone file n at own.0)
        by file at (inr other) = wanted_is Maildir (change_at base Discards)
            (maildir_messages old path) n n
            (named_message old path file n single (stayed file n at))
            (subst (λ (l : List Message). IsIn n l) (sym (at_other base Discards n other.1))
            (inl refl))

    taken_from : (n : Message)
        → IsIn n (wanted Maildir (change_at base Discards) (maildir_messages old path))
        → IsIn n (maildir_messages new path)
    taken_from n held =
        let of = wanted_of Maildir (change_at base Discards) (maildir_messages old path) n held in
        let at = message_named old path of.0 of.1 in
        by of.0 of.2 at.0 at.1 (apart_or path base old at.0 of.0 at.1)
      where
        by : (m : Message) → IsIn n (changed Maildir (change_at base Discards m.key) m)
            → (file : MaildirFile) → IsMessageAt path old file m
            → ((base_of file ≡ base) × (bytes_eq m.key base ≡ true))
            ⊎ ((base_of file ≡ base → ⊥) × (bytes_eq m.key base ≡ false))
            → IsIn n (maildir_messages new path)
        by m is file at (inl own) =
            absurd (subst (λ (l : List Message). IsIn n l) (at_own base Discards m own.1) is)
        by m is file at (inr other) =
            one (subst (λ (l : List Message). IsIn n l) (at_other base Discards m other.1) is)
          where
            one : IsIn n (m ∷ []) → IsIn n (maildir_messages new path)
            one (inl same) = subst (λ (x : Message). IsIn x (maildir_messages new path)) same
                (named_message new path file m taken_single (stays file m at other.0))
            one (inr rest) = absurd rest

    pub taken_reads : maildir_reads new path
        ≡ option_map (wanted Maildir (change_at base Discards)) (maildir_reads old path)
    taken_reads = reads_changed Discards taken_single taken_to taken_from

  -- A file has another name.

  module _ (change : PlainChange) (renames : RenamesFile path base change old new) where
    kept_at : (file : MaildirFile) (m : Message) → IsMessageAt path new file m
        → (base_of file ≡ base → ⊥) → IsMessageAt path old file m
    kept_at file m at other = record {
      shown = at.shown;
      there = sym (renames.others file at.shown other) ∙ at.there;
    }

    keeps_at : (file : MaildirFile) (m : Message) → IsMessageAt path old file m
        → (base_of file ≡ base → ⊥) → IsMessageAt path new file m
    keeps_at file m at other =
        record { shown = at.shown; there = renames.others file at.shown other ∙ at.there }

    pub renamed_single : IsSingleNamed path new
    renamed_single = record {
      folder = renames.folder;
      single = λ a b m n at_a at_b same. by a b m n at_a at_b same
          (apart_or path base new a m at_a);
    }
      where
        by : (a b : MaildirFile) (m n : Message) → IsMessageAt path new a m
            → IsMessageAt path new b n → base_of a ≡ base_of b
            → ((base_of a ≡ base) × (bytes_eq m.key base ≡ true))
            ⊎ ((base_of a ≡ base → ⊥) × (bytes_eq m.key base ≡ false))
            → a ≡ b
        by a b m n at_a at_b same (inl own) =
            renames.alone a m at_a own.0 ∙ sym (renames.alone b n at_b (sym same ∙ own.0))
        by a b m n at_a at_b same (inr other) =
            single.single a b m n (kept_at a m at_a other.0)
            (kept_at b n at_b (λ is. other.0 (same ∙ is))) same

    renamed_to : (n : Message) → IsIn n (maildir_messages new path)
        → IsIn n (wanted Maildir (change_at base change) (maildir_messages old path))
    renamed_to n held =
        let at = message_named new path n held in
        by at.0 at.1 (apart_or path base new at.0 n at.1)
      where
        same_message : (file : MaildirFile) → IsMessageAt path new file n → base_of file ≡ base
            → renames.renamed ≡ n
        same_message file at own = some_same renames.renamed n
            (sym renames.is.there
            ∙ ap (message_at new path) (sym (renames.alone file n at own)) ∙ at.there)

        own_key : bytes_eq renames.message.key base ≡ true
        own_key = (bytes_eq-Decides renames.message.key base).1
            ((message_placed old path renames.from renames.message renames.was.there).1
            ∙ renames.base_was)

        by : (file : MaildirFile) → IsMessageAt path new file n
            → ((base_of file ≡ base) × (bytes_eq n.key base ≡ true))
            ⊎ ((base_of file ≡ base → ⊥) × (bytes_eq n.key base ≡ false))
            → IsIn n (wanted Maildir (change_at base change) (maildir_messages old path))
        by file at (inl own) = wanted_is Maildir (change_at base change)
            (maildir_messages old path) renames.message n
            (named_message old path renames.from renames.message single renames.was)
            (subst (λ (l : List Message). IsIn n l)
            (sym (at_own base change renames.message own_key ∙ renames.flags))
            (inl (same_message file at own.0)))
        by file at (inr other) = wanted_is Maildir (change_at base change)
            (maildir_messages old path) n n
            (named_message old path file n single (kept_at file n at other.0))
            (subst (λ (l : List Message). IsIn n l) (sym (at_other base change n other.1))
            (inl refl))

    renamed_from : (n : Message)
        → IsIn n (wanted Maildir (change_at base change) (maildir_messages old path))
        → IsIn n (maildir_messages new path)
    renamed_from n held =
        let of = wanted_of Maildir (change_at base change) (maildir_messages old path) n held in
        let at = message_named old path of.0 of.1 in
        by of.0 of.2 at.0 at.1 (apart_or path base old at.0 of.0 at.1)
      where
        was_message : (file : MaildirFile) (m : Message) → IsMessageAt path old file m
            → base_of file ≡ base → m ≡ renames.message
        was_message file m at own = some_same m renames.message
            (sym at.there ∙ ap (message_at old path)
            (single.single file renames.from m renames.message at renames.was
            (own ∙ sym renames.base_was))
            ∙ renames.was.there)

        by : (m : Message) → IsIn n (changed Maildir (change_at base change m.key) m)
            → (file : MaildirFile) → IsMessageAt path old file m
            → ((base_of file ≡ base) × (bytes_eq m.key base ≡ true))
            ⊎ ((base_of file ≡ base → ⊥) × (bytes_eq m.key base ≡ false))
            → IsIn n (maildir_messages new path)
        by m is file at (inl own) =
            one (subst (λ (l : List Message). IsIn n l) (at_own base change m own.1
            ∙ ap (altered Maildir change) (was_message file m at own.0) ∙ renames.flags) is)
          where
            one : IsIn n (renames.renamed ∷ []) → IsIn n (maildir_messages new path)
            one (inl same) = subst (λ (x : Message). IsIn x (maildir_messages new path)) same
                (named_message new path renames.to renames.renamed renamed_single renames.is)
            one (inr rest) = absurd rest
        by m is file at (inr other) =
            one (subst (λ (l : List Message). IsIn n l) (at_other base change m other.1) is)
          where
            one : IsIn n (m ∷ []) → IsIn n (maildir_messages new path)
            one (inl same) = subst (λ (x : Message). IsIn x (maildir_messages new path)) same
                (named_message new path file m renamed_single (keeps_at file m at other.0))
            one (inr rest) = absurd rest

    pub renamed_reads : maildir_reads new path
        ≡ option_map (wanted Maildir (change_at base change)) (maildir_reads old path)
    renamed_reads = reads_changed change renamed_single renamed_to renamed_from
