use Rattle.std.proofs.Common.{◌∙◌, sym, ap}
use Rattle.std.specs.List.{list_any}
use Rattle.std.specs.Str.{bytes_eq}
use Rattle.mail_base.specs.Series.{plain_texts}
use Rattle.people.specs.RegexBuild.{PlainBuild, is_sized}
use Rattle.people.proofs.PeopleLemmas.{list_any-map}
use Rattle.people.proofs.regex_build.RegexBuild.is_sized.Goals as goal

pub returns : goal.returns
returns c =
    let bytes = c.as_bytes.result.now in
    c.is_among.ensures
    ∙ ap (list_any (λ t. bytes_eq t.items bytes)) c.as_slice.ensures
    ∙ sym (list_any-map (λ s. bytes_eq s bytes) (λ t. t.items) c.self.inside.sizes.items)
    ∙ ap (λ b. list_any (λ s. bytes_eq s b) (plain_texts c.self.inside.sizes))
    c.as_bytes.ensures.value
    ∙ ap (λ (b : PlainBuild). is_sized b c.args.text.now) c.self.view_is
