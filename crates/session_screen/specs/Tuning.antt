-- What the variables say of the index.
use Rattle.std.specs.Prelude.{ℕ, Bool, false, nat_eq, List, codes, Option, Some}
use Rattle.std.specs.Prelude.{if◌then◌else◌}
use Rattle.std.specs.List.{starts_with}
use Rattle.std.specs.Str.{bytes_eq}
use Rattle.index_order.specs.declared.options.Sort.{Sort}
use Rattle.index_order.specs.declared.options.Sort.TheVariants.{DateSent, DateReceived, From}
use Rattle.index_order.specs.declared.options.Sort.TheVariants.{MailboxOrder, Score, Size, Subject}
use Rattle.index_order.specs.declared.options.Sort.TheVariants.{Threads, To}
use Rattle.index_order.specs.declared.view_options.ViewOptions.{ViewOptions}
use Rattle.rc_lang.specs.Rules.{behind_front}
use Rattle.rc_lang.specs.Settings.{value_of}
use Rattle.rc_lang.specs.Values.{PlainValue, Flag, Quad}
use Rattle.rc_lang.specs.declared.quad.Quad.{Quad as FourWay}
use Rattle.rc_lang.specs.declared.quad.Quad.TheVariants.{No}
use Rattle.rc_lang.specs.declared.variable.Variable.{Variable}
use Rattle.rc_lang.specs.declared.variable.Variable.TheVariants as variable
use Rattle.session_screen.specs.Places.{text_of}

-- the boolean of a value
abbrev pub flag_in : Option PlainValue → Bool
flag_in (Some (Flag flag)) = flag
flag_in _ = false

-- a boolean variable is set
abbrev pub is_set : List PlainValue → Variable → Bool
is_set values v = flag_in (value_of values v)

-- the answer of a value
abbrev pub quad_in : Option PlainValue → FourWay
quad_in (Some (Quad quad)) = quad
quad_in _ = No

-- what a variable says that has yes, no or a question
abbrev pub quad_of : List PlainValue → Variable → FourWay
quad_of values v = quad_in (value_of values v)

-- Orders (Mutt's manual, "sort" and "sort_aux").

-- the order with a name; `date` and `date-sent` are one
abbrev pub order_named : List ℕ → Sort
order_named name =
    if bytes_eq name (codes "date-received") then DateReceived
    else (if bytes_eq name (codes "from") then From
    else (if bytes_eq name (codes "mailbox-order") then MailboxOrder
    else (if bytes_eq name (codes "score") then Score
    else (if bytes_eq name (codes "size") then Size
    else (if bytes_eq name (codes "subject") then Subject
    else (if bytes_eq name (codes "threads") then Threads
    else (if bytes_eq name (codes "to") then To else DateSent)))))))

-- threads are sorted by no threads
abbrev pub aux_of : Sort → Sort
aux_of Threads = DateSent
aux_of sort = sort

-- an order is turned round
abbrev pub is_reversed : List ℕ → Bool
is_reversed name = starts_with nat_eq name (codes "reverse-")

-- threads are put in order by their last message
abbrev pub is_last : List ℕ → Bool
is_last name = starts_with nat_eq name (codes "last-")

-- the order behind `reverse-`
abbrev pub behind_reverse : List ℕ → List ℕ
behind_reverse name = behind_front (codes "reverse-") name

-- the order behind `last-`
abbrev pub behind_last : List ℕ → List ℕ
behind_last name = behind_front (codes "last-") name

-- how the index stands in threads and in order
abbrev pub options_by : List PlainValue → List ℕ → List ℕ → ViewOptions
options_by values sort aux = record {
  threads = record {
    strict = is_set values variable.StrictThreads;
    reply_only = is_set values variable.SortRe;
    duplicates = is_set values variable.DuplicateThreads;
  };
  sort = order_named (behind_reverse sort);
  reverse = is_reversed sort;
  aux = aux_of (order_named (behind_last (behind_reverse aux)));
  aux_reverse = is_reversed aux;
  aux_last = is_last (behind_reverse aux);
}

-- what the variables say of the index
abbrev pub options_of : List PlainValue → ViewOptions
options_of values =
    options_by values (text_of values variable.Sort) (text_of values variable.SortAux)
