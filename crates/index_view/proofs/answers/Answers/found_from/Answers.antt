use Rattle.std.proofs.Common.{◌≡◌, ◌∙◌, ◌+◌, Bool, List, None, Option, ap, drop, find, length}
use Rattle.std.proofs.Common.{map, subst, sym, take}
use Rattle.std.proofs.lemmas.List.{length-map}
use Rattle.std.proofs.lemmas.List.Folds.{find-append}
use Rattle.std.specs.Option.{option_or}
use Rattle.std.specs.Prelude.{IfOk}
use Rattle.mail_base.specs.declared.kind.Id.{Id}
use Rattle.patterns_match.specs.Pattern.{plain_pattern}
use Rattle.index_listed.specs.Listed.{plain_listed}
use Rattle.index_listed.specs.Seen.{visible_ids}
use Rattle.index_view.specs.Answers.{PlainAnswers, id_passes}
use Rattle.index_view.specs.Searching.{round}
use Rattle.index_view.specs.Tables.{seen_of, table}
use Rattle.index_view.proofs.TableLemmas.{table_long}
use Rattle.index_view.proofs.answers.Answers.found_from.Goals as goal
use Rattle.index_view.proofs.answers.Answers.found_from.Goals.{After-split_at}

messages_are : (c : After-split_at) → seen_of c.messages_of-messages.result
    ≡ table (map plain_listed c.args.listed.now) c.args.self.now.rows c.args.self.now.links
messages_are c =
    let is = c.self.view_is in
    c.messages_of-messages.ensures ∙ (λ i. table (map plain_listed c.args.listed.now)
    ((c.deref.ensures.value ∙ ap (λ (a : PlainAnswers). a.rows) is) i)
    ((c.deref-2.ensures.value ∙ ap (λ (a : PlainAnswers). a.links) is) i))

as_many : (c : After-split_at)
    → length (seen_of c.messages_of-messages.result) ≡ length c.args.self.now.rows
as_many c =
    let listed = c.args.listed.now in
    ap length (messages_are c)
    ∙ table_long (map plain_listed listed) c.args.self.now.rows c.args.self.now.links
    ∙ length-map listed plain_listed ∙ sym c.requires.listed

pub first_passing-requires : goal.first_passing-requires
first_passing-requires c = as_many (goal.at.first_passing-requires c).After-split_at

pub first_passing-requires-in-None : goal.first_passing-requires-in-None
first_passing-requires-in-None c =
    as_many (goal.at.first_passing-requires-in-None c).After-split_at

-- what is asked of an id
abbrev test : After-split_at → Id → Bool
test c = id_passes c.args.people.now (plain_pattern c.args.pattern.now)
    (table (map plain_listed c.args.listed.now) c.args.self.now.rows c.args.self.now.links)
    c.args.self.now

abbrev seen : After-split_at → List Id
seen c = visible_ids c.args.self.now.sight

seen_is : (c : After-split_at) → c.as_slice.result.now ≡ seen c
seen_is c = c.as_slice.ensures ∙ c.visible.ensures
    ∙ ap (λ (a : PlainAnswers). visible_ids a.sight) c.self.view_is

-- what is found of some ids, where these are told by others that are equal
found_in : (c : After-split_at) (o : Option Id) (ids is : List Id) → ids ≡ is
    → o ≡ find (id_passes c.args.people.now (plain_pattern c.args.pattern.now)
    (seen_of c.messages_of-messages.result) c.args.self.now) ids
    → o ≡ find (test c) is
found_in c o ids is same found = found
    ∙ (λ i. find (id_passes c.args.people.now (plain_pattern c.args.pattern.now)
    (messages_are c i) c.args.self.now) (same i))

-- what is found going round, given what is found behind
found_round : (c : After-split_at) (o : Option Id)
    → o ≡ find (test c) (drop (c.args.place + 1) (seen c))
    → option_or o (find (test c) (take (c.args.place + 1) (seen c)))
    ≡ find (test c) (round c.args.place (seen c))
found_round c o found =
    ap (λ (z : Option Id). option_or z (find (test c) (take (c.args.place + 1) (seen c)))) found
    ∙ sym (find-append (test c) (drop (c.args.place + 1) (seen c))
    (take (c.args.place + 1) (seen c)))

pub returns-in-Some-clause-value : goal.returns-in-Some-clause-value
returns-in-Some-clause-value c =
    let at = (goal.at.returns-in-Some-clause-value c).After-split_at in
    found_round at _ (found_in at _ _ _ (c.split_at.ensures.back
    ∙ ap (drop (c.args.place + 1)) (seen_is at)) (sym c.in-Some.is ∙ c.in_ok-id.ensures.value))

pub returns-in-None-clause-value : goal.returns-in-None-clause-value
returns-in-None-clause-value c =
    let at = (goal.at.returns-in-None-clause-value c).After-split_at in
    let same = c.in_ok-id.ensures.same in
    let front = c.split_at.ensures.front ∙ ap (take (c.args.place + 1)) (seen_is at) in
    let none = found_in at _ _ _ (c.split_at.ensures.back
    ∙ ap (drop (c.args.place + 1)) (seen_is at)) (sym c.in-None.is ∙ c.in_ok-id.ensures.value) in
    subst (λ (z : Option Id). IfOk c.first_passing-in-None.result (λ found. found ≡ z))
    ((λ i. find (id_passes (same.1 i) (plain_pattern (same.0 i)) (messages_are at i)
    c.args.self.now) (front i)) ∙ found_round at None none)
    c.first_passing-in-None.ensures.value
