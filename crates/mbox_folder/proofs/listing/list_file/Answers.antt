use Rattle.std.proofs.Common.{◌≡◌, ◌-◌, ◌++◌, zero, suc, length, map, take, drop, ℕ, List, [], ◌∷◌}
use Rattle.std.proofs.Common.{Option, refl, sym, ◌∙◌, ap, subst, arith, length-drop, take_all}
use Rattle.std.proofs.lemmas.List.{length-map}
use Rattle.folder_core.specs.Keeping.{mails_of}
use Rattle.folder_core.specs.Limits.{count_refusal}
use Rattle.folder_core.specs.Mbox.{Cover, raw_messages, regions}
use Rattle.folder_core.specs.declared.error.ScanError.{ScanError}
use Rattle.folder_core.specs.declared.region.Region.{Region}
use Rattle.folder_letters.specs.Letters.{Mail, plain_letter}
use Rattle.folder_letters.specs.declared.letter.Letter.{Letter}
use Rattle.folder_letters.specs.declared.listing.Listed.{Listed}
use Rattle.folder_core.proofs.Messages.{in_region, map-regions}
use Rattle.mbox_folder.specs.ListedFile.{count_staying, letters_from, listed_from, raws_in}
use Rattle.mbox_folder.specs.ListedFile.{stay_count}
use Rattle.mbox_folder.proofs.Unchanged.{counts_unlisted}
use Rattle.mbox_folder.proofs.listing.list_file.Goals as goal

-- the messages are those of the regions
whole : (bytes : List ℕ) (items : List Region) → items ≡ regions bytes
    → raws_in bytes items ≡ raw_messages bytes
whole bytes items same = ap (raws_in bytes) same ∙ map-regions bytes

-- as many messages as regions
many : (bytes : List ℕ) (items : List Region) → items ≡ regions bytes
    → length items ≡ length (raw_messages bytes)
many bytes items same =
    sym (length-map items (in_region bytes)) ∙ ap length (whole bytes items same)

-- those behind the first so many
raws-drop : (bytes : List ℕ) (k : ℕ) (items : List Region)
    → raws_in bytes (drop k items) ≡ drop k (raws_in bytes items)
raws-drop bytes zero items = refl
raws-drop bytes (suc k) [] = refl
raws-drop bytes (suc k) (region ∷ items) = raws-drop bytes k items

cover-drop : (from end k : ℕ) (items : List Region) → Cover from end items
    → (at : ℕ) × Cover at end (drop k items)
cover-drop from end zero items h = (from, h)
cover-drop from end (suc k) [] h = (from, h)
cover-drop from end (suc k) (region ∷ items) h = cover-drop region.end end k items h.2

-- how many stay, by the regions
staying_is : (mails : List Mail) (old : List Listed) (bytes : List ℕ) (items : List Region) (k : ℕ)
    → items ≡ regions bytes → k ≡ stay_count (mails_of mails old) (raws_in bytes items)
    → k ≡ count_staying mails old bytes
staying_is mails old bytes items k same is =
    is ∙ ap (stay_count (mails_of mails old)) (whole bytes items same)

-- the same by slices of letters and regions
at_slices : (letters part : List Letter) (old : List Listed) (bytes : List ℕ)
    (items slice : List Region) (k : ℕ) → part ≡ letters → slice ≡ items
    → k ≡ stay_count (mails_of (map plain_letter part) old) (raws_in bytes slice)
    → items ≡ regions bytes → k ≡ count_staying (map plain_letter letters) old bytes
at_slices letters part old bytes items slice k same all is cut =
    staying_is (map plain_letter letters) old bytes items k cut
    (is ∙ ap (λ (l : List Letter). stay_count (mails_of (map plain_letter l) old)
    (raws_in bytes slice))
    same
    ∙ ap (λ (l : List Region). stay_count (mails_of (map plain_letter letters) old)
    (raws_in bytes l))
    all)

-- the counts of the code are those of the messages
same_counts : (mails : List Mail) (old : List Listed) (bytes : List ℕ) (items : List Region)
    (k letters archive count total : ℕ) (found : Option ScanError)
    → items ≡ regions bytes → k ≡ count_staying mails old bytes
    → letters ≡ archive → count ≡ length items → total ≡ length items
    → found ≡ count_refusal letters (count - k) total
    → count_refusal archive (length (raw_messages bytes) - count_staying mails old bytes)
    (length (raw_messages bytes)) ≡ found
same_counts mails old bytes items k letters archive count total found same is at all whole told =
    let size : length (raw_messages bytes) ≡ count = sym (all ∙ many bytes items same) in
    let sizes : length (raw_messages bytes) ≡ total = sym (whole ∙ many bytes items same) in
    ap (λ (n : ℕ). count_refusal archive (length (raw_messages bytes) - n)
    (length (raw_messages bytes)))
    (sym is)
    ∙ ap (λ (n : ℕ). count_refusal archive (n - k) (length (raw_messages bytes))) size
    ∙ ap (count_refusal archive (count - k)) sizes
    ∙ ap (λ (n : ℕ). count_refusal n (count - k) total) (sym at) ∙ sym told

-- a slice from a place on
rest_slice : (k : ℕ) (items slice : List Region) → slice ≡ items
    → take (length slice - k) (drop k slice) ≡ drop k items
rest_slice k items slice same =
    take_all (length slice - k) (drop k slice) (omega (arith, length-drop k slice))
    ∙ ap (drop k) same

-- the messages of the regions behind those that stay
fresh_raws : (mails : List Mail) (old : List Listed) (bytes : List ℕ) (items slice : List Region)
    (k : ℕ)
    → slice ≡ items → items ≡ regions bytes → k ≡ count_staying mails old bytes
    → raws_in bytes (take (length slice - k) (drop k slice))
    ≡ drop (count_staying mails old bytes) (raw_messages bytes)
fresh_raws mails old bytes items slice k all same is =
    ap (raws_in bytes) (rest_slice k items slice all) ∙ raws-drop bytes k items
    ∙ ap (drop k) (whole bytes items same)
    ∙ ap (λ (n : ℕ). drop n (raw_messages bytes)) is

pub returns-in-Some-clause-unlisted : goal.returns-in-Some-clause-unlisted
returns-in-Some-clause-unlisted c =
    let stay = at_slices c.args.archive.now.items c.as_slice-2.result.now c.args.old.now
    c.args.bytes.now c.in-Ok.regions.items c.as_slice.result.now c.in-Ok-count_staying.staying
    c.as_slice-2.ensures c.as_slice.ensures c.in-Ok-count_staying.ensures.count
    c.in-Ok.ensures.cut in
    counts_unlisted (length c.args.archive.now.items) (map plain_letter c.args.archive.now.items)
    c.args.old.now c.args.bytes.now c.in-Some.why (c.in-Ok.ensures.mailbox refl)
    (same_counts (map plain_letter c.args.archive.now.items) c.args.old.now c.args.bytes.now
    c.in-Ok.regions.items c.in-Ok-count_staying.staying c.len.result
    (length c.args.archive.now.items) c.len-2.result c.len-3.result c.count_refusal.result
    c.in-Ok.ensures.cut stay c.len.ensures c.len-2.ensures c.len-3.ensures c.count_refusal.ensures
    ∙ c.in-Some.is)

pub list_messages-requires-clause-cover : goal.list_messages-requires-clause-cover
list_messages-requires-clause-cover c =
    subst (λ (l : List Region). (at : ℕ) × Cover at (length c.args.bytes.now) l)
    (sym (rest_slice c.in-Ok-count_staying.staying c.in-Ok.regions.items c.as_slice-3.result.now
    c.as_slice-3.ensures))
    (cover-drop 0 (length c.args.bytes.now) c.in-Ok-count_staying.staying c.in-Ok.regions.items
    c.in-Ok.ensures.cover)

pub returns-in-Ok-list_messages-clause-listed : goal.returns-in-Ok-list_messages-clause-listed
returns-in-Ok-list_messages-clause-listed c =
    let letters = c.args.archive.now.items in
    let mails : List Mail = map plain_letter letters in
    let stay = at_slices letters c.as_slice-2.result.now c.args.old.now
    c.args.bytes.now c.in-Ok.regions.items c.as_slice.result.now c.in-Ok-count_staying.staying
    c.as_slice-2.ensures c.as_slice.ensures c.in-Ok-count_staying.ensures.count
    c.in-Ok.ensures.cut in
    let fresh = fresh_raws mails c.args.old.now c.args.bytes.now c.in-Ok.regions.items
    c.as_slice-3.result.now c.in-Ok-count_staying.staying c.as_slice-3.ensures c.in-Ok.ensures.cut
    stay in
    let same : length letters ≡ length mails = sym (length-map letters plain_letter) in
    record {
      begins = c.in-Ok.ensures.mailbox refl;
      taken = same_counts mails c.args.old.now c.args.bytes.now
          c.in-Ok.regions.items c.in-Ok-count_staying.staying c.len.result
          (length mails) c.len-2.result c.len-3.result c.count_refusal.result
          c.in-Ok.ensures.cut stay (c.len.ensures ∙ same) c.len-2.ensures c.len-3.ensures
          c.count_refusal.ensures
          ∙ c.in-None.is;
      letters = c.in-Ok-list_messages.ensures.letters
          ∙ ap (λ (n : ℕ). mails ++ letters_from n (raws_in c.args.bytes.now
          (take (length c.as_slice-3.result.now - c.in-Ok-count_staying.staying)
          (drop c.in-Ok-count_staying.staying c.as_slice-3.result.now)))) same
          ∙ ap (λ (l : List (List ℕ)). mails ++ letters_from (length mails) l) fresh;
      listed = c.in-Ok-list_messages.ensures.listed
          ∙ ap (λ (n : ℕ). take c.in-Ok-count_staying.staying c.args.old.now
          ++ listed_from n (raws_in c.args.bytes.now
          (take (length c.as_slice-3.result.now - c.in-Ok-count_staying.staying)
          (drop c.in-Ok-count_staying.staying c.as_slice-3.result.now)))) same
          ∙ ap (λ (l : List (List ℕ)). take c.in-Ok-count_staying.staying c.args.old.now
          ++ listed_from (length mails) l) fresh
          ∙ ap (λ (k : ℕ). take k c.args.old.now ++ listed_from (length mails)
          (drop (count_staying mails c.args.old.now c.args.bytes.now)
          (raw_messages c.args.bytes.now))) stay;
    }
