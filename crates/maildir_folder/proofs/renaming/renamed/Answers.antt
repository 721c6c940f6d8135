use Rattle.std.proofs.Common.{◌≡◌, rules, ap, ◌∙◌}
use Rattle.mail_base.specs.Flags.{applied, normal}
use Rattle.folder_changes.specs.Maildir.{flags_named}
use Rattle.folder_core.specs.Maildir.{base_of}
use Rattle.maildir_folder.specs.Candidates.{plain_file}
use Rattle.maildir_folder.proofs.RenamingLemmas.{base_kept, flags_told, made_candidate}
use Rattle.maildir_folder.proofs.renaming.renamed.Goals as goal

pub returns-clause-flags : goal.returns-clause-flags
returns-clause-flags c =
    let told : c.stored.result ≡ normal (applied (flags_named (plain_file c.args.file.now))
    c.args.delta.added c.args.delta.cleared) = search rules in
    ap flags_named c.in_ok-made.ensures.name
    ∙ flags_told (plain_file c.args.file.now)
    (applied (flags_named (plain_file c.args.file.now)) c.args.delta.added c.args.delta.cleared)
    c.stored.result told
    ∙ told

pub returns-clause-base : goal.returns-clause-base
returns-clause-base c = ap base_of c.in_ok-made.ensures.name
    ∙ base_kept (plain_file c.args.file.now) c.stored.result

pub returns-clause-each : goal.returns-clause-each
returns-clause-each c = made_candidate c.args.file.now c.in_ok-made.made c.stored.result
    (record {
      order = c.requires.order;
      base = c.requires.base;
      text = c.requires.text;
      shown = c.requires.shown;
    }) c.in_ok-made.ensures.name c.in_ok-made.ensures.same.0 c.in_ok-made.ensures.same.1
