-- Names with commas between them.
use Rattle.std.proofs.Common.{◌≡◌, ◌==◌, ◌++◌, ℕ, List, [], ◌∷◌, Option, Some, None, Result, Ok}
use Rattle.std.proofs.Common.{Err, append_assoc, position, option_map, refl, sym, ap, ◌∙◌}
use Rattle.mail_base.specs.Places.{around, split_once}
use Rattle.mail_base.proofs.PlacesLemmas.{slice_split_first_none, slice_split_first_some}
use Rattle.keymap.specs.declared.menu.Menu.{Menu}
use Rattle.rc_lang.specs.Expansion.{before_all, before_rest}
use Rattle.rc_lang_words.specs.Faults.{Fault}
use Rattle.key_requests.specs.Requests.{menu_of, menus_in, names_in}

names_at : (s : List ℕ) (o : Option ℕ) (p : List ℕ × List ℕ) → position (λ b. b == 44) s ≡ o
    → Some p ≡ option_map (around s) o → names_in s ≡ p.0 ∷ names_in p.1
names_at s None p at is = absurd (cc)
names_at s (Some k) p at is =
    let same : p ≡ around s k = cc in
    slice_split_first_some (λ b. b == 44) s k at
    ∙ sym (ap (λ (q : List ℕ × List ℕ). q.0 ∷ names_in q.1) same)

-- a name before a comma
pub names_more : (s : List ℕ) (p : List ℕ × List ℕ) → Some p ≡ split_once 44 s → names_in s
    ≡ p.0 ∷ names_in p.1
names_more s p is = names_at s (position (λ b. b == 44) s) p refl is

names_end : (s : List ℕ) (o : Option ℕ) → position (λ b. b == 44) s ≡ o
    → option_map (around s) o ≡ None → names_in s ≡ s ∷ []
names_end s None at is = slice_split_first_none (λ b. b == 44) s at
names_end s (Some k) at is = absurd (cc)

-- the last name
pub names_last : (s : List ℕ) → split_once 44 s ≡ None → names_in s ≡ s ∷ []
names_last s is = names_end s (position (λ b. b == 44) s) refl is

-- Menus that were read, and those of the names that are left.

pub behind_more : {X : Type 0} → (menus : List X) (menu : X) (w : Result (List X) Fault)
    → before_all (menus ++ menu ∷ []) w ≡ before_all menus (before_rest (Ok (menu ∷ [])) w)
behind_more menus menu (Ok rest) = ap Ok (append_assoc menus (menu ∷ []) rest)
behind_more menus menu (Err fault) = refl

module _ (menus : List Menu) (word s : List ℕ) (p : List ℕ × List ℕ) (is : Some p ≡ split_once 44 s)
  where
    here : (m : Result (List Menu) Fault) → menu_of word p.0 ≡ m
        → before_all menus (menus_in word (names_in s))
        ≡ before_all menus (before_rest m (menus_in word (names_in p.1)))
    here m at =
        ap (λ (names : List (List ℕ)). before_all menus (menus_in word names)) (names_more s p is)
        ∙ ap (λ (x : Result (List Menu) Fault). before_all menus
        (before_rest x (menus_in word (names_in p.1)))) at

    pub menus_more : (menu : Menu) → menu_of word p.0 ≡ Ok (menu ∷ [])
        → before_all (menus ++ menu ∷ []) (menus_in word (names_in p.1))
        ≡ before_all menus (menus_in word (names_in s))
    menus_more menu at = behind_more menus menu (menus_in word (names_in p.1))
        ∙ sym (here (Ok (menu ∷ [])) at)

    pub menus_refused : (fault : Fault) → menu_of word p.0 ≡ Err fault
        → before_all menus (menus_in word (names_in s)) ≡ Err fault
    menus_refused fault at = here (Err fault) at

module _ (menus : List Menu) (word s : List ℕ) (is : split_once 44 s ≡ None) where
  there : (m : Result (List Menu) Fault) → menu_of word s ≡ m
      → before_all menus (menus_in word (names_in s)) ≡ before_all menus (before_rest m (Ok []))
  there m at =
      ap (λ (names : List (List ℕ)). before_all menus (menus_in word names)) (names_last s is)
      ∙ ap (λ (x : Result (List Menu) Fault). before_all menus (before_rest x (Ok []))) at

  pub last_menu : (menu : Menu) → menu_of word s ≡ Ok (menu ∷ [])
      → before_all menus (menus_in word (names_in s)) ≡ Ok (menus ++ menu ∷ [])
  last_menu menu at = there (Ok (menu ∷ [])) at

  pub last_refused : (fault : Fault) → menu_of word s ≡ Err fault
      → before_all menus (menus_in word (names_in s)) ≡ Err fault
  last_refused fault at = there (Err fault) at
