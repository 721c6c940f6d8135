-- Where acts on messages change of what is seen at most whether each of these messages is.
use Rattle.std.specs.Prelude.{◌&&◌, Bool, true, false, List, [], ◌∷◌, Option, Some, None, nat_eq}
use Rattle.std.specs.Prelude.{take, if◌then◌else◌}
use Rattle.std.specs.List.{list_all}
use Rattle.mail_base.specs.declared.kind.Id.{Id}
use Rattle.patterns_match.specs.Leaves.{every}
use Rattle.patterns_match.specs.Trees.{Leaf, Tree}
use Rattle.index_listed.specs.Page.{cursor_place}
use Rattle.index_view.specs.Answers.{Facts, PlainAnswers, is_open}
use Rattle.patterns_match.specs.Pattern.{PlainPattern}
use Rattle.session_index.specs.Shown.{seen}
use Rattle.index_view.specs.Staying.{entries_stay}

-- a term of any kind
abbrev pub any_leaf : Leaf → Bool
any_leaf leaf = true

-- a pattern of no other messages
abbrev pub is_alone : Tree → Bool
is_alone tree = every any_leaf false tree

-- the limit asks nothing of other messages
abbrev pub limit_is_alone : Option PlainPattern → Bool
limit_is_alone None = true
limit_is_alone (Some limit) = is_alone limit.tree

-- all messages are listed, and stand in threads that are not shut
abbrev pub are_open : PlainAnswers → Bool
are_open a = list_all (is_open a) a.sight.order

-- ids stand among others, in the same order
abbrev pub is_part : List Id → List Id → Bool
is_part [] all = true
is_part (x ∷ xs) [] = false
is_part (x ∷ xs) (y ∷ ys) = if nat_eq x.0 y.0 then is_part xs ys else is_part (x ∷ xs) ys

-- what is seen hangs on no flag but by the limit, and by that on those of no other message
abbrev pub looks_alone : Facts → Bool
looks_alone f = entries_stay f.scores && limit_is_alone f.limit

-- acts on these messages, which are seen, can hide each of them, and do no more to what is seen
abbrev pub hide_alone : Facts → PlainAnswers → List Id → Bool
hide_alone f a ids = looks_alone f && (are_open a && is_part ids (seen a))

-- the messages that are seen before the cursor
abbrev pub before_cursor : List Id → Option Id → List Id
before_cursor ids cursor = take (cursor_place ids cursor) ids
