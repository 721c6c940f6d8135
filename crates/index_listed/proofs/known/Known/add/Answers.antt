use Rattle.std.proofs.Common.{◌∙◌, ap}
use Rattle.index_listed.specs.Known.{is_in, with_text}
use Rattle.index_listed.proofs.KnownLemmas.{text_added}
use Rattle.index_listed.proofs.known.Known.add.Goals as goal

pub returns : goal.returns
returns c = text_added c.self.inside.texts.keys c.insert.new.self.keys c.args.text
    c.in_ok-insert.ensures.keys
    ∙ ap (λ k. with_text (is_in k) c.args.text.now) c.self.view_is
