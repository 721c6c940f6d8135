-- What the builder over regex answers.
use Rattle.std.proofs.Common.{◌≡◌, ◌∙◌, ◌||◌, ℕ, Bool, true, false, List, Err, sym, ap, subst}
use Rattle.std.proofs.lemmas.Bool.{false≢true}
use Rattle.std.proofs.Math.Bool.{or-true}
use Rattle.mail_base.specs.Faults.{counted_up}
use Rattle.regex.specs.Failures.{IsPattern, IsRightKind}
use Rattle.regex.specs.Patterns.{Config, Refuses}
use Rattle.regex.specs.Sources.{IsRefusal}
use Rattle.regex.specs.Views.{builder_config}
use Rattle.regex.specs.declared.builder.RegexBuilder.{RegexBuilder}
use Rattle.regex.specs.declared.error.Error.{Error}
use Rattle.regex.specs.declared.error.Error.TheVariants.{Syntax, CompiledTooBig}
use Rattle.regex_syntax.specs.declared.error.Error as parser
use Rattle.people.specs.Expr.{config, is_pattern}
use Rattle.people.proofs.PatternLemmas.{pattern_is, refused_pattern}
use Rattle.people.specs.RegexBuild.{Builds, PlainBuild, counted, is_sized}
use Rattle.people.specs.declared.error.ExprError.{ExprError}
use Rattle.people.specs.declared.error.ExprError.TheVariants as error

-- a pattern that is too large
pub too_large : {T : Type 0} (fold : Bool) (text : List ℕ) (why : ExprError) (old new : PlainBuild)
    → why ≡ error.Size
    → is_sized old text ≡ false → is_pattern fold text ≡ true
    → new ≡ record old { refusals = counted_up old.refusals }
    → Builds {T = T} fold text (Err why) old new
too_large {T} fold text why old new size free is counts = record {
  sized = λ h. absurd (false≢true (sym free ∙ h));
  size = λ h. ap (λ b. is_sized old text || b) is ∙ or-true (is_sized old text);
  counts = counts ∙ ap (λ w. counted {T = T} old (Err w)) (sym size);
}

-- what regex refuses for its form, and what it finds too large
pub syntax_refused : (fold : Bool) (text source : List ℕ) (options : Config) (e : Error)
    (p : parser.Error)
    → e ≡ Syntax p → source ≡ text → options ≡ config fold → IsRefusal options source e
    → IsRightKind options source e → is_pattern fold text ≡ false
syntax_refused fold text source options e p is same read refused kind =
    refused_pattern fold text options p.kind read (subst (IsRightKind options source) is kind)
    (subst (λ s. Refuses options s p.kind) same (refused p is))

pub size_refused : (fold : Bool) (text source : List ℕ) (options : Config) (e : Error)
    → e ≡ CompiledTooBig
    → source ≡ text → options ≡ config fold → IsRightKind options source e
    → is_pattern fold text ≡ true
size_refused fold text source options e is same read kind =
    pattern_is fold text options read
    (subst (IsPattern options) same (subst (IsRightKind options source) is kind))

-- the options under which a text is read
pub options_of : (made new : RegexBuilder) (fold : Bool)
    → made ≡ record new {
      config =
          record new.config { flags = record new.config.flags { case_insensitive = fold } };
    }
    → builder_config new ≡ config false → record (builder_config made) { utf8 = true } ≡ config fold
options_of made new fold e d =
    ap (λ (b : RegexBuilder). record (builder_config b) { utf8 = true }) e
    ∙ ap (λ (o : Config). record o
    { flags = record o.flags { case_insensitive = fold }; utf8 = true }) d
