-- Taking in what a scan found, and taking it back.
use Rattle.std.proofs.Common.{◌≡◌, ◌∙◌, ◌≤◌, ◌<◌, ◌∷◌, [], ℕ, List, ap, arith, length, map, sym}
use Rattle.std.proofs.Common.{take}
use Rattle.std.proofs.lemmas.List.{length-map, length-take, take-map}
use Rattle.std.proofs.lemmas.List.Elements.{All-head, All-tail}
use Rattle.std.specs.Prelude.{OnErr, Result, Ok, Err}
use Rattle.folder_letters.specs.Letters.{Mail}
use Rattle.folder_letters.specs.declared.listing.Found.{Found}
use Rattle.folder_letters.specs.declared.listing.Listed.{Listed}
use Rattle.headers.specs.Header.{PlainHeader, plain_header}
use Rattle.headers.specs.declared.header.Header.{Header}
use Rattle.index_items.specs.Found.{AreListedBelow, IsJoined, came_items}
use Rattle.index_items.specs.Items.{PlainItem, numbers}
use Rattle.index_listed.specs.Heads.{AreHeads, AreWithin}
use Rattle.index_listed.specs.Listed.{header_of}
use Rattle.index_view.specs.View.{IsOf, IsWithMore, MayTake, PlainView}
use Rattle.index_view.proofs.ItemLemmas.{joined_within}

-- a clause for errors alone holds where its promise does
pub on_any : {T E P : Type 0} (r : Result T E) → P → OnErr r P
on_any (Ok x) p = tt
on_any (Err e) p = p

-- headers in front, as plain ones
pub heads_kept : (old more : List Header) (hs : List PlainHeader) → map plain_header old ≡ hs
    → take (length old) more ≡ old → take (length hs) (map plain_header more) ≡ hs
heads_kept old more hs are kept =
    ap (λ n. take n (map plain_header more)) (sym (ap length are) ∙ length-map old plain_header)
    ∙ take-map plain_header (length old) more ∙ ap (map plain_header) kept ∙ are

pub with_more : (old new : PlainView) (hs : List PlainHeader) → new ≡ record old { heads = hs }
    → take (length old.heads) hs ≡ old.heads → IsWithMore old new
with_more old new hs is kept = record {
  same = sym (λ i. record (is i) { heads = old.heads });
  front = ap (λ (v : PlainView). take (length old.heads) v.heads) is ∙ kept;
}

-- numbers below one bound are below a greater one
below_more : (n m : ℕ) → n ≤ m → (xs : List ℕ) → AreWithin n xs → AreWithin m xs
below_more n m le [] all = tt
below_more n m le (x ∷ xs) all = (omega (arith, le, all.0), below_more n m le xs all.1)

-- what came is below a bound, number by number
came_within : (n : ℕ) (came : List Listed) → AreListedBelow n came
    → AreWithin n (numbers (came_items came))
came_within n [] below = tt
came_within n (l ∷ came) below = (
  All-head (λ (m : Listed). m.id.0 < n) l came below,
  came_within n came (All-tail (λ (m : Listed). m.id.0 < n) l came below),
)

-- there are at most as many headers as letters
pub heads_short : (hs : List PlainHeader) (mails : List Mail) → AreHeads hs mails
    → length hs ≤ length mails
heads_short hs mails are =
    let long = ap length are.same ∙ length-map (take (length hs) mails) header_of
    ∙ length-take (length hs) mails in omega (arith, long)

-- the messages of a view are letters of its archive
pub all_below : (mails : List Mail) (v : PlainView) → IsOf mails v
    → AreWithin (length mails) (numbers v.items)
all_below mails v of = below_more (length v.heads) (length mails)
    (heads_short v.heads mails of.heads) (numbers v.items) of.within

-- the messages that a scan leaves are letters of the archive
pub all_within_archive : (mails : List Mail) (found : Found) (hs : List PlainHeader)
    (items more : List PlainItem) → AreHeads hs mails → AreWithin (length hs) (numbers items)
    → MayTake mails items found → IsJoined mails found items more
    → AreWithin (length mails) (numbers more)
all_within_archive mails found hs items more heads within may joined =
    joined_within (λ n. n < length mails) mails found items more joined
    (below_more (length hs) (length mails) (heads_short hs mails heads) (numbers items) within)
    (came_within (length mails) found.came.items may.came_below)
