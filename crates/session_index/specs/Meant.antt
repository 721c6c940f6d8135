-- Which messages a function means.
use Rattle.std.specs.Prelude.{◌∷◌, [], ℕ, Bool, true, false, List, Option, None, Some, nat_eq}
use Rattle.std.specs.List.{filter}
use Rattle.mail_base.specs.declared.kind.Id.{Id}
use Rattle.index_view.specs.Answers.{PlainAnswers}
use Rattle.session_index.specs.Shown.{seen, shows}
use Rattle.session_index.specs.Neighbours.{root_of}
use Rattle.session_index.specs.declared.sought.Sought.TheVariants.{Tagged}

-- the cursor's message, if it stands on one
abbrev pub ids_of : Option Id → List Id
ids_of None = []
ids_of (Some id) = id ∷ []

-- the tagged messages that are seen, in order
abbrev pub tagged_of : PlainAnswers → List Id
tagged_of a = filter (shows Tagged a) (seen a)

-- the message on which the cursor stands, or the tagged ones
abbrev pub meant : Bool → PlainAnswers → Option Id → List Id
meant true a cursor = tagged_of a
meant false a cursor = ids_of cursor

-- the messages of the thread of a root, in order
abbrev pub of_thread : PlainAnswers → ℕ → List Id
of_thread a root = filter (λ id. nat_eq root (root_of a id)) a.sight.order

-- all messages of the thread of the one on which the cursor stands, in order
abbrev pub thread_ids : PlainAnswers → Option Id → List Id
thread_ids a None = []
thread_ids a (Some id) = of_thread a (root_of a id)
