-- Values that say yes or no, or ask.
use Rattle.std.specs.Prelude.{ℕ, List, codes, Option, Some, None, if◌then◌else◌}
use Rattle.std.specs.Str.{bytes_eq}
use Rattle.rc_lang.specs.declared.quad.Quad.{Quad}
use Rattle.rc_lang.specs.declared.quad.Quad.TheVariants.{Yes, No, AskYes, AskNo}

-- the name of one of four ways
abbrev pub quad_text : Quad → List ℕ
quad_text Yes = codes "yes"
quad_text No = codes "no"
quad_text AskYes = codes "ask-yes"
quad_text AskNo = codes "ask-no"

-- the one of four ways with a name
abbrev pub quad_of : List ℕ → Option Quad
quad_of text =
    if bytes_eq text (codes "yes") then Some Yes
    else (if bytes_eq text (codes "no") then Some No
    else (if bytes_eq text (codes "ask-yes") then Some AskYes
    else (if bytes_eq text (codes "ask-no") then Some AskNo else None)))

-- yes and no exchanged, and so the questions
abbrev pub opposite_quad : Quad → Quad
opposite_quad Yes = No
opposite_quad No = Yes
opposite_quad AskYes = AskNo
opposite_quad AskNo = AskYes
