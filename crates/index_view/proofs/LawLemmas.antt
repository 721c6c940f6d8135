-- What a first scan found may be taken in.
use Rattle.std.proofs.Common.{◌≡◌, ◌∙◌, ◌+◌, ◌<◌, ◌≤◌, [], ◌∷◌, ℕ, List, ap, arith, false, length}
use Rattle.std.proofs.Common.{map, nat_eq, subst, sym}
use Rattle.std.proofs.lemmas.Bool.{ne_eqb}
use Rattle.std.proofs.lemmas.List.{get_or-map, length-map}
use Rattle.std.proofs.lemmas.List.Elements.{All-from_recursion}
use Rattle.std.proofs.lemmas.Simd.{map-map}
use Rattle.std.specs.List.{All, AllByRecursion, IsDistinct}
use Rattle.mail_base.specs.declared.kind.Id.{Id}
use Rattle.folder_letters.specs.Letters.{Mail}
use Rattle.folder_letters.specs.Listings.{ids_from}
use Rattle.folder_letters.specs.declared.listing.Found.{Found}
use Rattle.folder_letters.specs.declared.listing.Listed.{Listed}
use Rattle.index_items.specs.Found.{came_items}
use Rattle.index_items.specs.Items.{PlainItem, listed}
use Rattle.index_view.specs.Laws.{AllCame}
use Rattle.index_view.specs.View.{AreApart, MayTake}

-- the numbers that go up by one, as many as there are messages
abbrev counted : ℕ → List Listed → List ℕ
counted n came = map (λ (id : Id). id.0) (ids_from n came)

counted_below : (n bound : ℕ) (came : List Listed) → n + length came ≤ bound
    → AllByRecursion (λ m. m < bound) (counted n came)
counted_below n bound [] low = tt
counted_below n bound (l ∷ came) low =
    (omega arith, counted_below (n + 1) bound came (omega arith))

counted_behind : (m n : ℕ) (came : List Listed) → m < n
    → AllByRecursion (λ k. nat_eq m k ≡ false) (counted n came)
counted_behind m n [] low = tt
counted_behind m n (l ∷ came) low =
    (ne_eqb m n (λ same. omega arith), counted_behind m (n + 1) came (omega arith))

counted_apart : (n : ℕ) (came : List Listed) → IsDistinct nat_eq (counted n came)
unfolding IsDistinct
counted_apart n [] = tt
counted_apart n (l ∷ came) =
    (counted_behind n (n + 1) came (omega arith), counted_apart (n + 1) came)

abbrev number : Listed → ℕ
number l = l.id.0

came_numbers : (n : ℕ) (came : List Listed) → map (λ (l : Listed). l.id) came ≡ ids_from n came
    → counted n came ≡ map number came
came_numbers n came is = ap (map (λ (id : Id). id.0)) (sym is)
    ∙ map-map (λ (id : Id). id.0) (λ (l : Listed). l.id) came

came_below : (n bound : ℕ) (came : List Listed)
    → map (λ (l : Listed). l.id) came ≡ ids_from n came → n + length came ≤ bound
    → All (λ (l : Listed). l.id.0 < bound) came
came_below n bound came is low k d within =
    subst (λ m. m < bound) (get_or-map number came k d (number d) within)
    (All-from_recursion (λ m. m < bound) (map number came)
    (subst (AllByRecursion (λ m. m < bound)) (came_numbers n came is)
    (counted_below n bound came low)) k (number d)
    (subst (λ m. k < m) (sym (length-map came number)) within))

came_apart : (n : ℕ) (came : List Listed) → map (λ (l : Listed). l.id) came ≡ ids_from n came
    → AreApart (came_items came)
came_apart n came is = subst (IsDistinct nat_eq)
    (came_numbers n came is
    ∙ sym (map-map (λ (i : PlainItem). i.id.0) (λ (l : Listed). listed l.id l.flags) came))
    (counted_apart n came)

none_there : {A : Type 0} (P : A → Type 0) (xs : List A) → xs ≡ [] → All P xs
none_there P xs none = subst (All P) (sym none) (All-from_recursion P [] tt)

pub may_take : (found : Found) (mails : List Mail) → AllCame found mails → MayTake mails [] found
may_take found mails all =
    let came = found.came.items in record {
      below = (
        none_there (λ (id : Id). id.0 < length mails) _ all.none_gone,
        none_there (λ (l : Listed). l.id.0 < length mails) _ all.none_reflagged,
      );
      came_below = came_below all.first (length mails) came all.ids all.within;
      apart = came_apart all.first came all.ids;
    }
