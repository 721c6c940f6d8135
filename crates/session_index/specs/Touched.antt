-- What an act can change of a message.
use Rattle.index_view.specs.Staying.{Touched as PlainTouched}
use Rattle.session_index.specs.declared.touched.Touched.{Touched}

-- For the code alone.

-- what is touched, as contracts see it
abbrev pub plain_touched : Touched → PlainTouched
plain_touched t = record { flags = t.flags; deleted = t.deleted; tagged = t.tagged }
