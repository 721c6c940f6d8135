-- What answers to prompts mean.
use Rattle.std.specs.Prelude.{[], ◌∷◌, ◌||◌, ℕ, Bool, List, Option, None, Some, codes, length}
use Rattle.std.specs.Prelude.{if◌then◌else◌, ◌==◌}
use Rattle.std.specs.Str.{bytes_eq}
use Rattle.index_items.specs.declared.act.Act.{Act}
use Rattle.index_items.specs.declared.act.Act.TheVariants.{Set, Clear}
use Rattle.index_items.specs.declared.act.Mark.{Mark}
use Rattle.index_items.specs.declared.act.Mark.TheVariants as mark
use Rattle.prompts.specs.declared.asking.Asking.{Asking}
use Rattle.prompts.specs.declared.asking.Asking.TheVariants as asking
use Rattle.index_functions.specs.declared.effect.Effect.{Effect}
use Rattle.index_functions.specs.declared.effect.Effect.TheVariants.{Do, Resolve, DropPrefix}
use Rattle.index_functions.specs.declared.effect.Scope.TheVariants.{Meant}

-- a text takes the limit away
abbrev pub is_no_limit : List ℕ → Bool
is_no_limit text = (length text == 0) || bytes_eq text (codes "all")

-- the mark that a key names (Mutt's manual, "set-flag")
abbrev pub mark_of : ℕ → Option Mark
mark_of key =
    if key == 68 then Some mark.Deleted
    else (if key == 78 then Some mark.New
    else (if key == 79 then Some mark.Old
    else (if key == 114 then Some mark.Replied
    else (if key == 42 then Some mark.Tagged
    else (if key == 33 then Some mark.Flagged else None)))))

-- the effects of what is done to the messages that are meant
abbrev pub marking : Act → List Effect
marking act = Do act Meant ∷ Resolve ∷ DropPrefix ∷ []

-- the effects of a mark that was chosen
abbrev pub chosen_effects : Asking → Option Mark → List Effect
chosen_effects asking.SetFlag (Some m) = marking (Set m)
chosen_effects asking.ClearFlag (Some m) = marking (Clear m)
chosen_effects _ _ = []
