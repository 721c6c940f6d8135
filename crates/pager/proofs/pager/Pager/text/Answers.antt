use Rattle.std.proofs.Common.{◌∙◌, ap, sym, cond, get_or, []}
use Rattle.pager.specs.Broken.{is_shown}
use Rattle.pager.specs.Fields.{texts_at}
use Rattle.pager.specs.Pager.{PlainPager, numbered}
use Rattle.pager.proofs.PagerLemmas.{no_text, place_text, text_shown}
use Rattle.pager.proofs.ShownLemmas.{empty_shown}
use Rattle.pager.proofs.pager.Pager.text.Goals as goal

pub returns-then-not-self-clause-shown : goal.returns-then-not-self-clause-shown
returns-then-not-self-clause-shown c =
    let p = c.self.inside in
    ap (λ (q : PlainPager). is_shown q.cols c.text.result.now) (sym c.self.view_is)
    ∙ ap (is_shown p.cols) c.text.ensures
    ∙ text_shown p.cols p.texts.done c.args.number (empty_shown p.cols) c.self.invariant.all

pub returns-in-Some-clause-text : goal.returns-in-Some-clause-text
returns-in-Some-clause-text c =
    let p = c.self.inside in
    let places = p.unquoted.items in
    let number = c.args.number in
    c.text-in-Some.ensures
    ∙ sym (place_text p.texts.done places number c.in-Some.place.now (sym c.in-Some.ensures))
    ∙ ap (λ b. get_or (cond b (texts_at p.texts.done places) p.texts.done) number [])
    (sym c.if-not-self.false)
    ∙ ap (λ (q : PlainPager). get_or (numbered q) number []) c.self.view_is

pub returns-in-Some-clause-shown : goal.returns-in-Some-clause-shown
returns-in-Some-clause-shown c =
    let p = c.self.inside in
    ap (λ (q : PlainPager). is_shown q.cols c.text-in-Some.result.now) (sym c.self.view_is)
    ∙ ap (is_shown p.cols) c.text-in-Some.ensures
    ∙ text_shown p.cols p.texts.done _ (empty_shown p.cols) c.self.invariant.all

pub returns-in-None-clause-text : goal.returns-in-None-clause-text
returns-in-None-clause-text c =
    let p = c.self.inside in
    let places = p.unquoted.items in
    let number = c.args.number in
    sym (no_text p.texts.done places number (sym c.in-None.ensures))
    ∙ ap (λ b. get_or (cond b (texts_at p.texts.done places) p.texts.done) number [])
    (sym c.if-not-self.false)
    ∙ ap (λ (q : PlainPager). get_or (numbered q) number []) c.self.view_is

pub returns-in-None-clause-shown : goal.returns-in-None-clause-shown
returns-in-None-clause-shown c = empty_shown c.args.self.now.cols
