use Rattle.std.proofs.Common.{◌≡◌, ◌-◌, ◌∙◌, ◌++◌, ◌∷◌, [], List, ap, drop, length, map, subst, sym}
use Rattle.std.proofs.Common.{take, ℕ}
use Rattle.std.proofs.lemmas.List.{map-append}
use Rattle.folder_core.proofs.SeenLemmas.{first_and_rest}
use Rattle.folder_letters.specs.Letters.{plain_letter}
use Rattle.hooks.specs.Hooks.{plain_pattern_hook}
use Rattle.hooks.specs.declared.command.PatternHook.{PatternHook}
use Rattle.index_view.specs.View.{IsOf}
use Rattle.mail_base.specs.Series.{Held}
use Rattle.patterns.proofs.CauseLemmas.{keeps_on}
use Rattle.rc_lang.specs.Settings.{plain_names}
use Rattle.session_index.specs.Desk.{plain_desk}
use Rattle.session_index.specs.declared.desk.Desk.{Desk}
use Rattle.session.specs.Showing.{commands_in, hook_counts}
use Rattle.session.proofs.ShowingLemmas.{commands_more, commands_same}
use Rattle.session.proofs.showing.add_commands.Goals as goal

pub counts-requires-clause-is_of : goal.counts-requires-clause-is_of
counts-requires-clause-is_of g c =
    subst (λ (d : Desk). IsOf (map plain_letter c.args.archive.now.items) d.view)
    (sym c.loop-left.invariant.same) c.requires.is_of

pub loop-left-preserved-in_ok-push : goal.loop-left-preserved-in_ok-push
loop-left-preserved-in_ok-push g c =
    let mails = map plain_letter c.args.archive.now.items in
    let time = c.args.time in
    let id = c.args.id in
    let d = plain_desk c.args.desk.now in
    let left = c.loop-left.left.now in
    let first = c.first-item.result in
    let rest = take (length left - 1) (drop 1 left) in
    let texts = plain_names c.loop-left.commands.items in
    let command = c.in_ok-copy_of.field-0 in
    let whole : left ≡ first ∷ rest =
    first_and_rest left _ first c.first-item.is c.in-len1-up.len_at_least in
    record {
      same = c.counts.ensures.same ∙ c.loop-left.invariant.same;
      keeps = keeps_on _ _ _ c.loop-left.invariant.keeps c.counts.ensures.keeps;
      went = λ later keeps.
          ap (λ (l : List (Held ℕ)). plain_names l
          ++ commands_in later time mails id d (map plain_pattern_hook rest))
          c.in_ok-push.ensures.ok
          ∙ ap (λ (l : List (List ℕ)). l
          ++ commands_in later time mails id d (map plain_pattern_hook rest))
          (map-append (λ (name : Held ℕ). name.items) c.loop-left.commands.items (command ∷ []))
          ∙ ap (λ (t : List ℕ). (texts ++ t ∷ [])
          ++ commands_in later time mails id d (map plain_pattern_hook rest))
          (c.in_ok-copy_of.ensures ∙ c.as_slice.ensures)
          ∙ commands_more later time mails id d texts (plain_pattern_hook first)
          (map plain_pattern_hook rest)
          (sym c.if-branch.true ∙ c.in_ok-counts.ensures.counts later keeps
          ∙ ap (λ (e : Desk). hook_counts later time mails id (plain_desk e)
          (plain_pattern_hook first)) c.loop-left.invariant.same)
          ∙ ap (λ (l : List PatternHook). texts
          ++ commands_in later time mails id d (map plain_pattern_hook l)) (sym whole)
          ∙ c.loop-left.invariant.went later (keeps_on _ _ _ c.counts.ensures.keeps keeps);
    }

pub loop-left-preserved : goal.loop-left-preserved
loop-left-preserved g c =
    let mails = map plain_letter c.args.archive.now.items in
    let time = c.args.time in
    let id = c.args.id in
    let d = plain_desk c.args.desk.now in
    let left = c.loop-left.left.now in
    let first = c.first-item.result in
    let rest = take (length left - 1) (drop 1 left) in
    let texts = plain_names c.loop-left.commands.items in
    let whole : left ≡ first ∷ rest =
    first_and_rest left _ first c.first-item.is c.in-len1-up.len_at_least in
    record {
      same = c.counts.ensures.same ∙ c.loop-left.invariant.same;
      keeps = keeps_on _ _ _ c.loop-left.invariant.keeps c.counts.ensures.keeps;
      went = λ later keeps.
          commands_same later time mails id d texts (plain_pattern_hook first)
          (map plain_pattern_hook rest)
          (sym c.if-branch.false ∙ c.in_ok-counts.ensures.counts later keeps
          ∙ ap (λ (e : Desk). hook_counts later time mails id (plain_desk e)
          (plain_pattern_hook first)) c.loop-left.invariant.same)
          ∙ ap (λ (l : List PatternHook). texts
          ++ commands_in later time mails id d (map plain_pattern_hook l)) (sym whole)
          ∙ c.loop-left.invariant.went later (keeps_on _ _ _ c.counts.ensures.keeps keeps);
    }
