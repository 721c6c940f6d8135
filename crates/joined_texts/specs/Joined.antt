-- Texts in several pieces, and literals in them.
use Rattle.std.specs.Prelude.{◌==◌, ◌&&◌, ◌||◌, ◌++◌, ℕ, Bool, true, false, List, [], ◌∷◌}
use Rattle.std.specs.Prelude.{Option, Some, None, if◌then◌else◌}
use Rattle.std.specs.Char.{is_ascii_uppercase, to_ascii_lowercase}
use Rattle.std.specs.List.{flat_map, list_any}
use Rattle.headers.specs.FoldedField.{continued}
use Rattle.joined_texts.specs.declared.joined.Case.{Case}
use Rattle.joined_texts.specs.declared.joined.Case.TheVariants.{Regarded, Folded}
use Rattle.joined_texts.specs.declared.joined.Joined.{Joined}

-- a text up to the byte that ends it, if there is one
abbrev pub up_to : Option ℕ → List ℕ → List ℕ
up_to None text = text
up_to (Some last) [] = []
up_to (Some last) (b ∷ text) = b ∷ (if b == last then [] else up_to (Some last) text)

-- the pieces one behind the other
abbrev pub whole : Joined → List ℕ
whole j = j.first.now ++ flat_map (λ piece. piece.now) j.rest.now ++ continued j.lines.now

-- the text that they make
abbrev pub joined : Joined → List ℕ
joined j = up_to j.last (whole j)

-- the byte ends a text
abbrev pub ends : Option ℕ → ℕ → Bool
ends None b = false
ends (Some last) b = b == last

-- what stands before the first such byte
abbrev pub before_first : ℕ → List ℕ → List ℕ
before_first b [] = []
before_first b (c ∷ text) = if c == b then [] else c ∷ before_first b text

-- what stands behind it
abbrev pub behind_first : ℕ → List ℕ → Option (List ℕ)
behind_first b [] = None
behind_first b (c ∷ text) = if c == b then Some text else behind_first b text

-- two bytes are equal in a search
abbrev pub are_equal : Case → ℕ → ℕ → Bool
are_equal Regarded b c = b == c
are_equal Folded b c = to_ascii_lowercase b == to_ascii_lowercase c

-- a literal with a capital letter is searched for as it is written
abbrev pub case_of : List ℕ → Case
case_of literal = if list_any is_ascii_uppercase literal then Regarded else Folded

-- the literal stands at the front
abbrev pub begins : Case → List ℕ → List ℕ → Bool
begins case text [] = true
begins case [] (c ∷ literal) = false
begins case (b ∷ text) (c ∷ literal) = are_equal case b c && begins case text literal

-- the literal stands somewhere
abbrev pub holds : Case → List ℕ → List ℕ → Bool
holds case [] literal = begins case [] literal
holds case (b ∷ text) literal = begins case (b ∷ text) literal || holds case text literal

-- the literal stands somewhere, by the case that a search for it regards
abbrev pub is_there : List ℕ → List ℕ → Bool
is_there literal text = holds (case_of literal) text literal
