-- What the changes make of the file that is known.
use Rattle.std.proofs.Common.{List, None, Option, Some, ap, arith, drop, length, length-append}
use Rattle.std.proofs.Common.{refl, subst, sym, take, ℕ}
use Rattle.std.proofs.Common.{take-append-drop, ◌++◌, ◌∙◌, ◌≡◌, ◌≤◌}
use Rattle.std.specs.Prelude.{option_map}
use Rattle.std.specs.List.{concat}
use Rattle.std.proofs.lemmas.List.Folds.{concat-append}
use Rattle.bstr.proofs.lemmas.RestLemmas.{concat-lines_of}
use Rattle.bstr.specs.Text.{lines_of}
use Rattle.folder_letters.specs.declared.listing.Listed.{Listed}
use Rattle.folder_core.specs.Known.{KnownFolder}
use Rattle.folder_core.specs.Mbox.{first_some, messages, raw_messages}
use Rattle.folder_core.specs.declared.region.Region.{Region}
use Rattle.index_items.specs.Changes.{Changed, PlainChange}
use Rattle.folder_drivers.specs.MboxFront.{first_difference, too_many}
use Rattle.mbox_writes.specs.Fronts.{IsCause, IsFront, front_refusal}
use Rattle.mbox_writes.specs.declared.front.FrontError.{FrontError}
use Rattle.mbox_writes.specs.declared.front.FrontError.TheVariants.{Differs}
use Rattle.mbox_writes.specs.declared.front.FrontError.TheVariants.{NoMemory as NoMemoryThere}
use Rattle.mbox_writes.specs.declared.front.FrontError.TheVariants.{TooMany as TooManyThere}
use Rattle.mbox_writes.specs.Refusals.{told_front}
use Rattle.mbox_writes.specs.Plan.{Rewrites}
use Rattle.folder_drivers.specs.MboxSync.{UnplannedFor, end_of, start_of}
use Rattle.mbox_text.specs.Rewriting.{changed_tail, first_changed, raws_in, rewritten}
use Rattle.mbox_text.specs.Rewriting.{unchanged_count}
use Rattle.mbox_text.specs.Rewriting.{wanted_of}
use Rattle.mbox_text.specs.declared.rewriting.Rewritten.{Rewritten}
use Rattle.mbox_text.proofs.GroupLemmas.{all_lines, concat_map}
use Rattle.folder_core.proofs.Messages.{map-regions}
use Rattle.mbox_text.proofs.RewritingLemmas.{front_stays}

-- why a file is not the known one

-- which of two causes is due
abbrev due_of : Option ℕ → Option ℕ → Option FrontError
due_of many place = first_some (option_map (λ count. TooManyThere count) many)
    (option_map (λ place. Differs place) place)

none_due : (many place : Option ℕ) → due_of many place ≡ None → (many ≡ None) × (place ≡ None)
none_due None None e = (refl, refl)
none_due None (Some place) e = absurd (cc)
none_due (Some count) place e = absurd (cc)

-- the cause of a refusal is what is said of it
pub due_unplanned : (known : KnownFolder) (changes : List Changed) (bytes : List ℕ)
    (why : FrontError) → IsCause why (front_refusal known.bytes bytes)
    → UnplannedFor known changes bytes (told_front why)
due_unplanned known changes bytes why cause =
    by (too_many bytes) (first_difference known.bytes bytes) why refl refl cause
  where
    by : (many place : Option ℕ) (why : FrontError) → too_many bytes ≡ many
        → first_difference known.bytes bytes ≡ place → IsCause why (due_of many place)
        → UnplannedFor known changes bytes (told_front why)
    by many place NoMemoryThere e f is = tt
    by None None (Differs at) e f is = absurd (cc)
    by None (Some place) (Differs at) e f is =
        let same : place ≡ at = cc in (e, f ∙ (λ i. Some (same i)))
    by (Some count) place (Differs at) e f is = absurd (cc)
    by None None (TooManyThere size) e f is = absurd (cc)
    by None (Some place) (TooManyThere size) e f is = absurd (cc)
    by (Some count) place (TooManyThere size) e f is =
        let same : count ≡ size = cc in e ∙ (λ i. Some (same i))

-- the messages of a file, one behind the other, are the file
concat_raws : (bytes : List ℕ) → concat (raw_messages bytes) ≡ bytes
concat_raws bytes = concat_map (messages (lines_of bytes))
    ∙ ap concat (all_lines (lines_of bytes)) ∙ concat-lines_of bytes

-- the front stays, and the new end stands behind it
whole_is : (what : List (Option PlainChange)) (bytes : List ℕ)
    → take (first_changed what (raw_messages bytes)) bytes ++ changed_tail what (raw_messages bytes)
    ≡ rewritten what bytes
whole_is what bytes =
    ap (λ (l : List ℕ). take (first_changed what (raw_messages bytes)) l
    ++ changed_tail what (raw_messages bytes)) (sym (concat_raws bytes))
    ∙ sym (front_stays what (raw_messages bytes))

-- the first message that changes starts within the file
starts_within : (what : List (Option PlainChange)) (bytes : List ℕ)
    → first_changed what (raw_messages bytes) ≤ length bytes
starts_within what bytes =
    let raws = raw_messages bytes in
    let n = unchanged_count what raws in
    let split : concat (take n raws) ++ concat (drop n raws) ≡ bytes =
    sym (concat-append (take n raws) (drop n raws))
    ∙ ap concat (take-append-drop n raws) ∙ concat_raws bytes in
    omega (arith, ap length split, length-append (concat (take n raws)) (concat (drop n raws)))

module _ (known : KnownFolder) (changes : List Changed) (bytes : List ℕ) (done : Rewritten)
    (regions : List Region) where
  rewrites_at : IsFront known.bytes bytes regions → front_refusal known.bytes bytes ≡ None
      → done.at ≡ first_changed (wanted_of changes known.listing) (raws_in bytes regions)
      → done.tail.items ≡ changed_tail (wanted_of changes known.listing) (raws_in bytes regions)
      → Rewrites known changes bytes done
  rewrites_at front due at tail =
      let none = none_due (too_many bytes) (first_difference known.bytes bytes) due in
      let raws : raws_in bytes regions ≡ raw_messages bytes =
      ap (raws_in bytes) front.cut ∙ map-regions bytes in
      let start : done.at ≡ start_of known changes bytes =
      at ∙ ap (first_changed (wanted_of changes known.listing)) raws in
      let end : done.tail.items ≡ end_of known changes bytes =
      tail ∙ ap (changed_tail (wanted_of changes known.listing)) raws in
      record {
        as_known = record {
          begins = front.as_known;
          mailbox = front.begins;
          few = none.0;
          same = none.1;
        };
        at = start;
        tail = end;
        within = subst (λ (n : ℕ). n ≤ length bytes) (sym start)
            (starts_within (wanted_of changes known.listing) bytes);
        whole = (λ i. take (start i) bytes ++ end i)
            ∙ whole_is (wanted_of changes known.listing) bytes;
      }

  pub rewrites : (kept : List ℕ) (there : List Region) (listing : List Listed)
      → kept ≡ known.bytes → there ≡ regions → listing ≡ known.listing
      → IsFront kept bytes regions → front_refusal kept bytes ≡ None
      → done.at ≡ first_changed (wanted_of changes listing) (raws_in bytes there)
      → done.tail.items ≡ changed_tail (wanted_of changes listing) (raws_in bytes there)
      → Rewrites known changes bytes done
  rewrites kept there listing e f h front due at tail =
      rewrites_at (subst (λ (l : List ℕ). IsFront l bytes regions) e front)
      (subst (λ (l : List ℕ). front_refusal l bytes ≡ None) e due)
      (at ∙ (λ i. first_changed (wanted_of changes (h i)) (raws_in bytes (f i))))
      (tail ∙ (λ i. changed_tail (wanted_of changes (h i)) (raws_in bytes (f i))))
