-- How a table is read through what is seen of its rows.
use Rattle.std.proofs.Common.{◌≡◌, ℕ, zero, suc, ◌+◌, ◌<◌, Bool, cond, ltb, not, List, [], ◌∷◌, map}
use Rattle.std.proofs.Common.{length, refl, sym, ap, ◌∙◌, Some, None, option_map}
use Rattle.std.proofs.Common.{find, true, false}
use Rattle.std.specs.Prelude.{slice_get}
use Rattle.std.specs.List.{position, position_or_len, prefix_len, slice_index_or}
use Rattle.std.specs.Str.{bytes_eq}
use Rattle.std.proofs.lemmas.Option.{slice_get-get_or}
use Rattle.rc_lang.specs.declared.variable.Row.{Row}
use Rattle.rc_lang.specs.declared.command.CommandRow.{CommandRow}
use Rattle.rc_lang.specs.Commands.{Row as CommandOf, plain_row as plain_command, rows as commands}
use Rattle.rc_lang.specs.Variables.{Named, TableRow, without_place, plain_row}

pub slice_get_map : {X Y : Type 0} (f : X → Y) (xs : List X) (n : ℕ)
    → slice_get (map f xs) n ≡ option_map f (slice_get xs n)
slice_get_map f [] n = refl
slice_get_map f (x ∷ xs) zero = refl
slice_get_map f (x ∷ xs) (suc n) = slice_get_map f xs n

length_map : {X Y : Type 0} (f : X → Y) (xs : List X) → length (map f xs) ≡ length xs
length_map f [] = refl
length_map f (x ∷ xs) = ap (λ n. suc n) (length_map f xs)

prefix_map : {X Y : Type 0} (p : Y → Bool) (f : X → Y) (xs : List X)
    → prefix_len p (map f xs) ≡ prefix_len (λ x. p (f x)) xs
prefix_map p f [] = refl
prefix_map p f (x ∷ xs) = ap (λ n. cond (p (f x)) (1 + n) 0) (prefix_map p f xs)

position_map : {X Y : Type 0} (p : Y → Bool) (f : X → Y) (xs : List X)
    → position p (map f xs) ≡ position (λ x. p (f x)) xs
position_map p f xs =
    ap (λ n. cond (ltb n (length (map f xs))) (Some n) None) (prefix_map (λ y. not (p y)) f xs)
    ∙ ap (λ m. cond (ltb (position_or_len (λ x. p (f x)) xs) m) (Some (position_or_len (λ x. p
    (f x)) xs)) None)
    (length_map f xs)

-- two tables of which the same is seen have a name at the same place
pub same_position : (xs : List Row) (ys : List TableRow) (name : List ℕ)
    → map plain_row xs ≡ map without_place ys
    → position (λ r. bytes_eq r.0.now name) xs ≡ position (λ r. bytes_eq r.name name) ys
same_position xs ys name same =
    let p : Named → Bool = λ n. bytes_eq n.name name in
    sym (position_map p plain_row xs) ∙ ap (position p) same ∙ position_map p without_place ys

-- and the same at each place
pub same_row : (xs : List Row) (ys : List TableRow) (n : ℕ) (d : Row)
    → map plain_row xs ≡ map without_place ys → n < length xs
    → Some (plain_row (slice_index_or xs n d)) ≡ option_map without_place (slice_get ys n)
same_row xs ys n d same within =
    ap (option_map plain_row) (sym (slice_get-get_or xs n d within))
    ∙ sym (slice_get_map plain_row xs n)
    ∙ ap (λ l. slice_get l n) same
    ∙ slice_get_map without_place ys n

find_map : {X Y : Type 0} (p : Y → Bool) (f : X → Y) (xs : List X)
    → find p (map f xs) ≡ option_map f (find (λ x. p (f x)) xs)
find_map p f [] = refl
find_map p f (x ∷ xs) =
    elim (p (f x)) as (λ b. cond b (Some (f x)) (find p (map f xs))
    ≡ option_map f (cond b (Some x) (find (λ x. p (f x)) xs)))
    [ true ↦ refl | false ↦ find_map p f xs ]

-- and the row of a command's name
pub same_command : (xs : List CommandRow) (name : List ℕ) → map plain_command xs ≡ commands
    → option_map plain_command (find (λ r. bytes_eq r.0.now name) xs)
    ≡ find (λ r. bytes_eq r.name name) commands
same_command xs name same =
    let p : CommandOf → Bool = λ r. bytes_eq r.name name in sym (find_map p plain_command xs)
    ∙ ap (find p) same
