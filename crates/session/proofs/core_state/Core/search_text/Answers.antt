use Rattle.std.proofs.Common.{◌∙◌, List, ap, map, subst, sym, ℕ}
use Rattle.std.proofs.lemmas.Result.{on_ok_weaker}
use Rattle.folder_letters.specs.Letters.{plain_letter}
use Rattle.mail_base.specs.Shown.{utf8_text}
use Rattle.patterns.specs.Causes.{is_good_on}
use Rattle.session_pager.specs.Reads.{plain_reader}
use Rattle.session_state.specs.Rules.{weeding_of}
use Rattle.session.specs.Core.{Reads, plain_core}
use Rattle.session.proofs.PagingLemmas.{expression_found, expression_refused, read_bad, read_good}
use Rattle.session.proofs.PagingLemmas.{read_keeps}
use Rattle.session.proofs.core_state.Core.search_text.Goals as goal

pub returns-in_err-is_found-in-Ok-clause-keeps : goal.returns-in_err-is_found-in-Ok-clause-keeps
returns-in_err-is_found-in-Ok-clause-keeps g c = read_keeps _ _ _ _ _ _ c.read.ensures.reads

pub returns-in_ok-is_found-in-Ok-clause-keeps : goal.returns-in_ok-is_found-in-Ok-clause-keeps
returns-in_ok-is_found-in-Ok-clause-keeps g c = read_keeps _ _ _ _ _ _ c.read.ensures.reads

pub returns-in_ok-is_found-in-Ok-clause-core : goal.returns-in_ok-is_found-in-Ok-clause-core
returns-in_ok-is_found-in-Ok-clause-core g c = λ later keeps.
    let mails = map plain_letter c.args.archive.now.items in
    let cols = c.args.window.cols in
    let old = plain_core c.args.self.now in
    let found = c.in_ok-is_found-in-Ok.ensures in
    let bytes = c.as_slice.ensures.bytes in
    c.tell_found.ensures.core ∙ expression_found later mails c.args.window c.args.text.now.items old
    c.in-Ok.expr c.in_ok-is_found-in-Ok.is_found (plain_reader c.search_for.new.self)
    (c.in-Ok.ensures.value ∙ ap utf8_text bytes)
    (ap (λ (t : List ℕ). is_good_on later (utf8_text t)) (sym bytes)
    ∙ read_good _ _ _ _ later _ _ c.in-Ok.ensures.reads keeps)
    (found.found mails cols (weeding_of old.rules) c.requires)
    (found.moved mails cols (weeding_of old.rules) c.requires).same

pub returns-in_ok-is_found-in-Ok-clause-reads : goal.returns-in_ok-is_found-in-Ok-clause-reads
returns-in_ok-is_found-in-Ok-clause-reads g c =
    let mails = map plain_letter c.args.archive.now.items in
    subst (Reads mails c.args.window) (sym c.tell_found.ensures.rest)
    (c.in_ok-is_found-in-Ok.ensures.moved mails c.args.window.cols
    (weeding_of c.args.self.now.rules) c.requires).is_read

pub returns-in_default : goal.returns-in_default
returns-in_default g c =
    let mails = map plain_letter c.args.archive.now.items in
    let old = plain_core c.args.self.now in
    let bytes = c.as_slice.ensures.bytes in
    record {
      keeps = read_keeps _ _ _ _ _ _ c.read.ensures.reads;
      core = on_ok_weaker c.refuse.result (λ is later keeps. is
          ∙ expression_refused later mails c.args.window c.args.text.now.items old
          (ap (λ (t : List ℕ). is_good_on later (utf8_text t)) (sym bytes)
          ∙ read_bad _ _ _ _ later _ _ c.in_default.not-NoMemory c.in-Err.ensures.reads keeps))
          c.refuse.ensures.core;
      reads = on_ok_weaker c.refuse.result (λ is. subst (Reads mails c.args.window)
          (sym c.refuse.ensures.rest) c.requires) c.refuse.ensures.core;
      view = c.refuse.ensures.view;
    }
