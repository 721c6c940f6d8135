-- The letters of listed ids.
use Rattle.std.proofs.Common.{◌≡◌, ◌∙◌, ◌<◌, ◌+◌, ◌∷◌, [], ◌||◌, ℕ, suc, Bool, true, false, List}
use Rattle.std.proofs.Common.{Option, Some, None, ap, arith, cond, length, lt-ltb, map, nat_eq}
use Rattle.std.proofs.Common.{nat_lt, not, option_map, refl, slice_index_or, subst, sym, take}
use Rattle.std.proofs.lemmas.Bool.Decides.{nat_tests}
use Rattle.std.proofs.lemmas.List.{get_or-map, get_or-take, length-map}
use Rattle.std.proofs.lemmas.List.Elements.{All-from_recursion}
use Rattle.std.proofs.lemmas.List.Quantifiers.{position-Some}
use Rattle.std.specs.List.{list_any, position_or_len}
use Rattle.std.specs.Prelude.{is_some, position}
use Rattle.folder_letters.specs.Letters.{Mail, plain_letter}
use Rattle.folder_letters.specs.declared.letter.Letter.{Letter}
use Rattle.headers.specs.Header.{PlainHeader}
use Rattle.mail_base.specs.declared.kind.Id.{Id}
use Rattle.patterns_match.specs.declared.row.Row.{Row}
use Rattle.index_items.specs.Items.{numbers}
use Rattle.index_listed.specs.Heads.{AreHeads}
use Rattle.index_listed.specs.Listed.{header_of, mail_at, no_mail, text_of}
use Rattle.index_listed.proofs.PlaceLemmas.{found_reads}
use Rattle.index_view.specs.Answers.{PlainAnswers, place_of}
use Rattle.index_view.specs.Lines.{head_at}
use Rattle.index_view.specs.Listing.{all_listed}
use Rattle.index_view.specs.View.{IsOf, PlainView, facts_of, is_listed}
use Rattle.index_view.proofs.AnswersLemmas.{row_numbers}
use Rattle.index_view.proofs.JoinLemmas.{heads_short}
use Rattle.index_view.proofs.ViewLemmas.{listed_ids}

-- the numbers of the rows are those of the messages
pub rows_are : (mails : List Mail) (v : PlainView) → IsOf mails v
    → map (λ (r : Row). r.id.0) v.answers.rows ≡ numbers v.items
rows_are mails v of =
    ap (λ (a : PlainAnswers). map (λ (r : Row). r.id.0) a.rows) of.answered
    ∙ row_numbers (all_listed mails v.items) (facts_of v) ∙ listed_ids mails v.items

less_more : (a b : ℕ) → nat_lt (1 + a) (suc b) ≡ nat_lt a b
less_more a b = grind (arith, nat_tests)

-- something is found exactly where there is something
pub found_any : (p : ℕ → Bool) (xs : List ℕ)
    → nat_lt (position_or_len p xs) (length xs) ≡ list_any p xs
found_any p [] = refl
found_any p (x ∷ xs) = by_test (p x) (found_any p xs)
  where
    by_test : (b : Bool) → nat_lt (position_or_len p xs) (length xs) ≡ list_any p xs
        → nat_lt (cond (not b) (1 + position_or_len p xs) 0) (suc (length xs))
        ≡ b || list_any p xs
    by_test true rest = lt-ltb 0 (suc (length xs)) (omega arith)
    by_test false rest = less_more (position_or_len p xs) (length xs) ∙ rest

pub some_where : (b : Bool) (p : ℕ) → is_some (cond b (Some p) None) ≡ b
some_where true p = refl
some_where false p = refl

pub some_mapped : {A B : Type 0} (f : A → B) (o : Option A)
    → is_some (option_map f o) ≡ is_some o
some_mapped f None = refl
some_mapped f (Some x) = refl

-- something is answered exactly of a listed message
pub listed_if : (mails : List Mail) (v : PlainView) (id : Id) → IsOf mails v → {B : Type 0}
    → (f : ℕ → B) → is_some (option_map f (place_of v.answers id)) ≡ is_listed v id
listed_if mails v id of f = some_mapped f (place_of v.answers id)
    ∙ ap (λ xs. is_some (position (nat_eq id.0) xs)) (rows_are mails v of)
    ∙ some_where _ (position_or_len (nat_eq id.0) (numbers v.items))
    ∙ found_any (nat_eq id.0) (numbers v.items)

-- the header of a listed id is kept
pub listed_within : (mails : List Mail) (v : PlainView) (id : Id) (p : ℕ) → IsOf mails v
    → place_of v.answers id ≡ Some p → id.0 < length v.heads
listed_within mails v id p of is =
    let is_in = ap (λ xs. position (nat_eq id.0) xs) (sym (rows_are mails v of)) ∙ is in
    let low = (position-Some (nat_eq id.0) (numbers v.items) p 0 is_in).0 in
    subst (λ n. n < length v.heads) (found_reads (numbers v.items) id.0 p is_in 0)
    (All-from_recursion (λ n. n < length v.heads) (numbers v.items) of.within p 0 low)

-- it is that of its letter
pub head_of_letter : (heads : List PlainHeader) (mails : List Mail) (id : Id)
    → AreHeads heads mails → id.0 < length heads
    → head_at heads id ≡ header_of (mail_at mails id)
head_of_letter heads mails id are low =
    let n = id.0 in
    let within : n < length (take (length heads) mails) =
    subst (λ m. n < m) (ap length are.same ∙ length-map (take (length heads) mails) header_of)
    low in
    ap (λ l. slice_index_or l n (header_of no_mail)) are.same
    ∙ get_or-map header_of (take (length heads) mails) n no_mail (header_of no_mail) within
    ∙ ap header_of (get_or-take (length heads) mails n no_mail low)

-- the letter of a listed id stands in the archive
pub listed_letter : (mails : List Mail) (v : PlainView) (id : Id) (p : ℕ) → IsOf mails v
    → place_of v.answers id ≡ Some p → id.0 < length mails
listed_letter mails v id p of is =
    omega (arith, listed_within mails v id p of is, heads_short v.heads mails of.heads)

-- and its text is what is shown of it
pub text_of_letter : (letters : List Letter) (id : Id) (d : Letter) → id.0 < length letters
    → text_of (plain_letter (slice_index_or letters id.0 d))
    ≡ text_of (mail_at (map plain_letter letters) id)
text_of_letter letters id d low =
    ap text_of (sym (get_or-map plain_letter letters id.0 d no_mail low))
