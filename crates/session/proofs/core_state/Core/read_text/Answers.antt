use Rattle.std.proofs.Common.{◌≡◌, ◌∙◌, ℕ, List, Option, FitsSigned, ap, arith, map, subst, sym}
use Rattle.std.proofs.Common.{w32}
use Rattle.std.proofs.lemmas.Int.{ints as signed_arith}
use Rattle.std.proofs.Math.Facts.{to_z-of_z}
use Rattle.std.proofs.lemmas.Result.{on_ok_weaker}
use Rattle.std.specs.Prelude.{option_map}
use Rattle.folder_letters.specs.Letters.{plain_letter}
use Rattle.patterns_match.specs.Pattern.{PlainPattern, plain_pattern}
use Rattle.index_view.specs.View.{IsOf}
use Rattle.session_state.specs.Days.{reading_of}
use Rattle.session_state.specs.declared.instant.Instant.{Instant}
use Rattle.session.specs.Answers.{pattern_answered}
use Rattle.session.specs.Core.{instant_of, plain_core}
use Rattle.session.proofs.core_state.Core.read_text.Goals as goal

pub returns-in-None-clause-core : goal.returns-in-None-clause-core
returns-in-None-clause-core g c =
    let mails = map plain_letter c.args.archive.now.items in
    let offset : FitsSigned w32 c.args.window.offset =
    omega (arith, signed_arith, c.requires.window.west, c.requires.window.east) in
    let time_is : c.with_offset-time.result ≡ instant_of c.args.window c.args.moment.0 =
    rw (to_z-of_z offset) at c.with_offset-time.ensures.value in
    on_ok_weaker c.refuse.result (λ is later keeps. record {
      is_of = subst (IsOf mails) (sym c.refuse.ensures.view) c.requires.is_of;
      same = is ∙ ap (λ (o : Option PlainPattern). pattern_answered mails c.args.asking
          c.args.text.items o (plain_core c.args.self.now))
          (ap (option_map plain_pattern) (sym c.in-None.is)
          ∙ c.in_ok-pattern.ensures.read later keeps
          ∙ ap (λ (text : List ℕ). reading_of later c.with_offset-time.result text)
          c.as_slice.ensures.bytes
          ∙ ap (λ (time : Instant). reading_of later time c.args.text.items)
          time_is);
    }) c.refuse.ensures.core
