-- What is counted and stored, but for how many are new.
use Rattle.std.proofs.Common.{◌≡◌, ◌<◌, ◌+◌, ◌⊎◌, inl, inr, ℕ, Bool, true, false}
use Rattle.std.proofs.Common.{Option, Some, None, length, is_none, nat_lt, if◌then◌else◌, refl, sym}
use Rattle.std.proofs.Common.{◌∙◌, ap, subst, arith}
use Rattle.std.proofs.lemmas.Bool.Decides.{nat_tests}
use Rattle.mail_base.specs.declared.flags.Flags.{Flags}
use Rattle.folder_letters.specs.Letters.{Mail}
use Rattle.folder_core.specs.Limits.{count_refusal, most_bytes, most_messages, sum_refusal}
use Rattle.folder_core.specs.Limits.{told_sum}
use Rattle.folder_core.specs.ListedSoFar.{Store, known_if, new_if, store_found, store_known}
use Rattle.folder_core.specs.ListedSoFar.{store_message, store_new, store_refusal}
use Rattle.folder_core.specs.Message.{Message}
use Rattle.folder_core.specs.Mh.{mh_format}
use Rattle.folder_core.specs.declared.error.ScanError.TheVariants.{TooMany, TooLarge}
use Rattle.mh_folder.specs.Walk.{Nearly}

true_false : ◌≡◌ {A = Bool} true false → ⊥
true_false e = cc

-- the same with another number of new messages
abbrev pub with_fresh : ℕ → Store → Store
with_fresh fresh store = record store { fresh = fresh }

pub nearly_same : (store : Store) → Nearly store store
nearly_same store = record { same = refl; fresh = inl refl }

-- the same is the same but for that
pub nearly_from : (a b : Store) → a ≡ b → Nearly a b
nearly_from a b is = record {
  same = is ∙ ap (λ (n : ℕ). with_fresh n b) (sym (ap (λ (s : Store). s.fresh) is));
  fresh = inl (ap (λ (s : Store). s.fresh) is);
}

pub nearly_then : (a b c : Store) → Nearly a b → Nearly b c → Nearly a c
nearly_then a b c first next = record {
  same = first.same ∙ ap (with_fresh a.fresh) next.same;
  fresh = by_fresh first.fresh next.fresh;
}
  where
    by_fresh : (a.fresh ≡ b.fresh) ⊎ (most_bytes < b.bytes)
        → (b.fresh ≡ c.fresh) ⊎ (most_bytes < c.bytes)
        → (a.fresh ≡ c.fresh) ⊎ (most_bytes < c.bytes)
    by_fresh x (inr high) = inr high
    by_fresh (inl one) (inl two) = inl (one ∙ two)
    by_fresh (inr high) (inl two) =
        let same : b.bytes ≡ c.bytes = ap (λ (s : Store). s.bytes) next.same in
        inr (omega (arith, high, same))

-- past the bytes the number of new messages tells nothing
too_many_bytes : (letters fresh other count bytes : ℕ) → most_bytes < bytes
    → sum_refusal letters fresh count bytes ≡ sum_refusal letters other count bytes
too_many_bytes letters fresh other count bytes past =
    let is : nat_lt most_bytes bytes ≡ true = grind (arith, nat_tests, past) in
    ap (λ (t : Bool). if nat_lt most_messages count then Some (TooMany count)
    else (if t then Some (TooLarge (told_sum bytes)) else count_refusal letters fresh count)) is
    ∙ sym (ap (λ (t : Bool). if nat_lt most_messages count then Some (TooMany count)
    else (if t then Some (TooLarge (told_sum bytes)) else count_refusal letters other count)) is)

pub refused_bytes : (letters fresh count bytes : ℕ) → most_bytes < bytes
    → is_none (sum_refusal letters fresh count bytes) ≡ false
refused_bytes letters fresh count bytes past =
    let is : nat_lt most_bytes bytes ≡ true = grind (arith, nat_tests, past) in
    ap (λ (t : Bool). is_none (if nat_lt most_messages count then Some (TooMany count)
    else (if t then Some (TooLarge (told_sum bytes)) else count_refusal letters fresh count))) is
    ∙ by_test (nat_lt most_messages count)
  where
    by_test : (t : Bool) → is_none (if t then Some (TooMany count)
        else Some (TooLarge (told_sum bytes))) ≡ false
    by_test true = refl
    by_test false = refl

same_fresh : (a b : Store) → a ≡ with_fresh a.fresh b → a.fresh ≡ b.fresh → a ≡ b
same_fresh a b same fresh = same ∙ ap (λ (n : ℕ). with_fresh n b) fresh

pub nearly_refusal : (a b : Store) → Nearly a b → store_refusal a ≡ store_refusal b
nearly_refusal a b nearly = by_fresh nearly.fresh
  where
    by_fresh : (a.fresh ≡ b.fresh) ⊎ (most_bytes < b.bytes) → store_refusal a ≡ store_refusal b
    by_fresh (inl fresh) = ap store_refusal (same_fresh a b nearly.same fresh)
    by_fresh (inr past) =
        ap store_refusal nearly.same
        ∙ too_many_bytes b.letters a.fresh b.fresh b.count b.bytes past

-- what is not refused is the same
pub nearly_whole : (a b : Store) → Nearly a b → store_refusal a ≡ None → a ≡ b
nearly_whole a b nearly none = by_fresh nearly.fresh
  where
    by_fresh : (a.fresh ≡ b.fresh) ⊎ (most_bytes < b.bytes) → a ≡ b
    by_fresh (inl fresh) = same_fresh a b nearly.same fresh
    by_fresh (inr past) =
        absurd (true_false (sym (ap is_none (sym (nearly_refusal a b nearly) ∙ none))
        ∙ refused_bytes b.letters b.fresh b.count b.bytes past))

-- One message more.

more_bytes : (bytes size : ℕ) → most_bytes < bytes → most_bytes < told_sum (bytes + size)
more_bytes bytes size past = omega (arith, past)

nearly_new : (fresh : ℕ) (flags : Flags) (mail : Mail) (store : Store)
    → most_bytes < store.bytes
    → Nearly (store_new flags mail (with_fresh fresh store)) (store_new flags mail store)
nearly_new fresh flags mail store past =
    let high = more_bytes store.bytes (length mail.core) past in
    let one = refused_bytes store.letters (fresh + 1) (store.count + 1)
    (told_sum (store.bytes + length mail.core)) high in
    let two = refused_bytes store.letters (store.fresh + 1) (store.count + 1)
    (told_sum (store.bytes + length mail.core)) high in
    record {
      same = ap (λ (t : Bool). new_if t flags mail (with_fresh fresh store)) one
          ∙ sym (ap (λ (t : Bool). with_fresh (fresh + 1) (new_if t flags mail store)) two);
      fresh = inr high;
    }

nearly_known : (fresh id : ℕ) (flags : Flags) (size : ℕ) (store : Store)
    → most_bytes < store.bytes
    → Nearly (store_known id flags size (with_fresh fresh store)) (store_known id flags size store)
nearly_known fresh id flags size store past =
    let high = more_bytes store.bytes size past in
    let one = refused_bytes store.letters fresh (store.count + 1)
    (told_sum (store.bytes + size)) high in
    let two = refused_bytes store.letters store.fresh (store.count + 1)
    (told_sum (store.bytes + size)) high in
    record {
      same = ap (λ (t : Bool). known_if t id flags size (with_fresh fresh store)) one
          ∙ sym (ap (λ (t : Bool). with_fresh fresh (known_if t id flags size store)) two);
      fresh = inr high;
    }

nearly_message : (keep : Option ℕ) (message : Message) (fresh : ℕ) (store : Store)
    → most_bytes < store.bytes
    → Nearly (store_message mh_format keep message (with_fresh fresh store))
    (store_message mh_format keep message store)
nearly_message None message fresh store past =
    nearly_new fresh message.flags (mh_format.letter 0 message) store past
nearly_message (Some id) message fresh store past =
    nearly_known fresh id message.flags (length message.raw) store past

pub nearly_found : (keep : Option ℕ) (found : Option Message) (a b : Store) → Nearly a b
    → Nearly (store_found mh_format keep found a) (store_found mh_format keep found b)
nearly_found keep None a b nearly = nearly
nearly_found keep (Some message) a b nearly = by_fresh nearly.fresh
  where
    by_fresh : (a.fresh ≡ b.fresh) ⊎ (most_bytes < b.bytes)
        → Nearly (store_message mh_format keep message a) (store_message mh_format keep message b)
    by_fresh (inl fresh) =
        subst (λ (s : Store). Nearly (store_message mh_format keep message s)
        (store_message mh_format keep message b)) (sym (same_fresh a b nearly.same fresh))
        (nearly_same (store_message mh_format keep message b))
    by_fresh (inr past) =
        subst (λ (s : Store). Nearly (store_message mh_format keep message s)
        (store_message mh_format keep message b)) (sym nearly.same)
        (nearly_message keep message a.fresh b past)
