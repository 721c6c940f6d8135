-- What a format shows of a clock: it depends on the parts alone, and every format shows something.
use Rattle.std.proofs.Common.{◌≡◌, ◌∙◌, refl, sym, ap, subst, ⊎_elim, ◌==◌, ◌++◌, Bool, true, false}
use Rattle.std.proofs.Common.{ℕ, zero, suc, ℤ}
use Rattle.std.proofs.lemmas.Bool.{false≢true}
use Rattle.std.specs.Prelude.{IsOk, List, [], ◌∷◌, length, drop, get_or, nat_lt, Option, Some, None}
use Rattle.std.specs.Prelude.{Result, Ok, Err, option_map, if◌then◌else◌}
use Rattle.jiff_core.specs.declared.civil.date.Date.{Date}
use Rattle.jiff_core.specs.declared.civil.iso_week_date.ISOWeekDate.{ISOWeekDate}
use Rattle.jiff_core.specs.declared.error.Error.{Error}
use Rattle.jiff_core.specs.declared.error.Error.TheVariants.{Parse}
use Rattle.jiff_core.specs.declared.error.Syntax.TheVariants.{Directive}
use Rattle.jiff_strtime.specs.Directive.{read_extension, read_width}
use Rattle.jiff_strtime.specs.Number.{match_result}
use Rattle.jiff_strtime.specs.Show.{Context, IsShownAs, SecondResult, Shown, after_percent}
use Rattle.jiff_strtime.specs.Show.{char_text, directive_text, dot_fraction, is_char, sequence_len}
use Rattle.jiff_strtime.specs.Show.{items_from, percent_text, show_f, show_format, show_letter}
use Rattle.jiff_strtime.specs.Show.{show_steps, shown_then, step_text, text_of}
use Rattle.jiff_strtime.specs.Text.{Parts, parts_of}
use Rattle.jiff_strtime.specs.declared.tm.BrokenDownTime.{BrokenDownTime}
use Rattle.index_rows.specs.Date.{config, context, parts_on}

-- two contexts of which all directives show the same
record Alike (a b : Context) : Type 0 where
  directive : (letter : ℕ) (ext : _)
      → directive_text config letter ext a ≡ directive_text config letter ext b
  fraction : (width : Option ℕ) → dot_fraction width a ≡ dot_fraction width b

-- the parts of a clock show the same whatever date and instant they come to
alike_parts : (day : ℤ) (s : ℕ) (date : Result Date Error) (iso : Result ISOWeekDate Error)
    (e : Error) → Alike (record { parts = parts_on day s; date = date; iso = iso; second = Err e })
    (context (parts_on day s))
unfolding parts_on directive_text items_from text_of
alike_parts day s date iso e = record { directive = λ letter ext. refl; fraction = λ width. refl }

f_alike : (a b : Context) → Alike a b → (width : Option ℕ) (fmt : List ℕ) → show_f width fmt a
    ≡ show_f width fmt b
f_alike a b h width [] = refl
f_alike a b h width (f ∷ after) = λ k.
    if f == 102 then Ok (h.fraction width k, after) else Err (Parse Directive)

letter_alike : (a b : Context) → Alike a b → (ext : _) (fmt : List ℕ)
    → show_letter config ext fmt a ≡ show_letter config ext fmt b
letter_alike a b h ext [] = refl
letter_alike a b h ext (letter ∷ after) = λ k.
    if letter == 46 then match_result (read_width after) (λ w. f_alike a b h w.0 w.1 k) (λ e. Err e)
    else shown_then after (h.directive letter ext k)

percent_alike : (a b : Context) → Alike a b → (fmt : List ℕ) → percent_text config fmt a
    ≡ percent_text config fmt b
percent_alike a b h fmt = λ k.
    match_result (read_extension fmt) (λ e. letter_alike a b h e.0 e.1 k) (λ e. Err e)

behind_alike : (a b : Context) → Alike a b → (fmt : List ℕ) → after_percent config fmt a
    ≡ after_percent config fmt b
behind_alike a b h fmt = λ k.
    if length fmt == 0 then Ok (37 ∷ [], fmt)
    else match_result (percent_alike a b h fmt k) (λ t. Ok t) (λ e. Ok (37 ∷ [], fmt))

step_alike : (a b : Context) → Alike a b → (fmt : List ℕ) → step_text config fmt a
    ≡ step_text config fmt b
step_alike a b h fmt = λ k.
    if length fmt == 0 then Ok ([], fmt)
    else (if get_or fmt 0 0 == 37 then behind_alike a b h (drop 1 fmt) k
    else (if nat_lt (get_or fmt 0 0) 128 then Ok (get_or fmt 0 0 ∷ [], drop 1 fmt)
    else char_text config fmt))

steps_alike : (a b : Context) → Alike a b → (fuel : ℕ) (fmt shown : List ℕ)
    → show_steps fuel config fmt a shown ≡ show_steps fuel config fmt b shown
unfolding show_steps
steps_alike a b h zero fmt shown = refl
steps_alike a b h (suc fuel) fmt shown = λ k.
    match_result (step_alike a b h fmt k) (λ t. steps_alike a b h fuel t.1 (shown ++ t.0) k)
    (λ e. Err e)

none_or_some : {A : Type 0} (o : Option A) (x : A) → o ≡ None → o ≡ Some x → ⊥
none_or_some o x none some = absurd cc

-- parts without an instant and without an offset come to no second
no_second : (tm : BrokenDownTime) (r : Result ℤ Error) → SecondResult tm r
    → option_map (λ t. t.nanosecond) tm.timestamp ≡ None
    → option_map (λ o. o.seconds) tm.offset ≡ None → (e : Error) × (r ≡ Err e)
no_second tm (Err e) h instant offset = (e, refl)
no_second tm (Ok s) h instant offset = absurd (⊎_elim
    (λ at. none_or_some _ _ instant (ap (option_map (λ t. t.nanosecond)) at))
    (λ at. none_or_some _ _ offset at.offset) h.1)

-- what a format shows of the parts of a clock
pub shown_of_clock : (format : List ℕ) (tm : BrokenDownTime) (day : ℤ) (s : ℕ) (shown : Shown)
    → parts_of tm ≡ parts_on day s → IsShownAs config format tm shown
    → show_format config format (context (parts_on day s)) ≡ shown
unfolding parts_on
shown_of_clock format tm day s shown is h =
    let cx = h.context in
    let parts = h.is_context.parts ∙ is in
    let second =
    no_second tm cx.second h.is_context.second (ap (λ p. p.timestamp) is) (ap (λ p. p.offset) is) in
    let same : cx ≡ record {
      parts = parts_on day s;
      date = cx.date;
      iso = cx.iso;
      second = Err second.0;
    } = λ k. record { parts = parts k; date = cx.date; iso = cx.iso; second = second.1 k } in
    let only = context (parts_on day s) in
    let alike =
    subst (λ c. Alike c only) (sym same) (alike_parts day s cx.date cx.iso second.0) in
    sym (steps_alike cx only alike (length format) format []) ∙ h.shown_is

-- a choice of what is shown
either_shown : {A : Type 0} (b : Bool) (x y : Result A Error) → IsOk x → IsOk y
    → IsOk (if b then x else y)
either_shown true x y h k = h
either_shown false x y h k = k

-- what is shown, or else another text
other_shown : {A : Type 0} (r : Result A Error) (other : A)
    → IsOk {E = Error} (match_result r (λ t. Ok t) (λ e. Ok other))
other_shown (Ok t) other = refl
other_shown (Err e) other = refl

-- what is shown behind what is shown
next_shown : {A B : Type 0} (r : Result A Error) (f : A → Result B Error) → IsOk r
    → ((t : A) → IsOk (f t))
    → IsOk (match_result r f (λ e. Err e))
next_shown (Ok t) f h k = k t
next_shown (Err e) f h k = absurd (false≢true h)

behind_shown : (cx : Context) (fmt : List ℕ) → IsOk (after_percent config fmt cx)
behind_shown cx fmt =
    either_shown (length fmt == 0) _ _ refl
    (other_shown (percent_text config fmt cx) (37 ∷ [], fmt))

step_shown : (cx : Context) (fmt : List ℕ) → IsOk (step_text config fmt cx)
step_shown cx fmt =
    either_shown (length fmt == 0) _ _ refl
    (either_shown (get_or fmt 0 0 == 37) _ _ (behind_shown cx (drop 1 fmt))
    (either_shown (nat_lt (get_or fmt 0 0) 128) _ _ refl
    (either_shown (is_char fmt (sequence_len (get_or fmt 0 0))) _ _ refl refl)))

steps_shown : (fuel : ℕ) (cx : Context) (fmt shown : List ℕ)
    → IsOk (show_steps fuel config fmt cx shown)
unfolding show_steps
steps_shown zero cx fmt shown = refl
steps_shown (suc fuel) cx fmt shown =
    next_shown (step_text config fmt cx) (λ t. show_steps fuel config t.1 cx (shown ++ t.0))
    (step_shown cx fmt) (λ t. steps_shown fuel cx t.1 (shown ++ t.0))

-- no format is refused
pub formats_shown : (format : List ℕ) (parts : Parts)
    → IsOk (show_format config format (context parts))
formats_shown format parts = steps_shown (length format) (context parts) format []
