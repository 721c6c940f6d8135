use Rattle.std.proofs.Common.{inl, inr}
use Rattle.disk_model.specs.Journal.{ListDir, MakeDir}
use Rattle.disk_model.specs.Names.{names_in}
use Rattle.folder_changes.specs.Refused.{refuses}
use Rattle.maildir_appends.specs.Causes.{IsListOrMake}
use Rattle.folder_drivers.proofs.Causing.{call_for, for_result, none_unmade}
use Rattle.folder_core.specs.Directory.{path_in}
use Rattle.folder_changes.proofs.TraceLemmas.{calls_looked, calls_then}
use Rattle.folder_drivers.specs.Refusing.{IsMake}
use Rattle.maildir_appends.proofs.Freeing.{calls_grow, calls_to, meets_listed, meets_made}
use Rattle.maildir_appends.proofs.Freeing.{meets_missing}
use Rattle.std.proofs.Common.{ap, ◌∙◌}
use Rattle.folder_shapes.specs.Maildir.{maildir_files, maildir_shape}
use Rattle.folder_shapes.proofs.MaildirLemmas.{a_maildir}
use Rattle.maildir_appends.proofs.Paths.{is_home}
use Rattle.folder_drivers.proofs.MetNames as L
use Rattle.folder_drivers.proofs.Preparing as P
use Rattle.folder_drivers.proofs.Refusing.{blamed_now}
use Rattle.maildir_appends.proofs.listing.names_or_none.Goals as goal

pub returns-in_err-dir-clause-prepares : goal.returns-in_err-dir-clause-prepares
returns-in_err-dir-clause-prepares g c =
    P.started (maildir_files c.args.path.now) (a_maildir c.args.path.now) _

pub returns-in-Ok-clause-prepares : goal.returns-in-Ok-clause-prepares
returns-in-Ok-clause-prepares g c =
    P.listed (maildir_files c.args.path.now) (a_maildir c.args.path.now)
    c.list.ensures.0.called

pub returns-in-Ok-clause-saw : goal.returns-in-Ok-clause-saw
returns-in-Ok-clause-saw g c =
    L.saw_listed (c.as_str.ensures.value ∙ c.in_ok-dir.ensures) c.in-Ok.ensures.0.called

pub make_dir-requires-clause-apart : goal.make_dir-requires-clause-apart
make_dir-requires-clause-apart g c =
    ap (maildir_shape c.args.path.now).slot
    (c.as_str-in-Err-Missing.ensures.value ∙ c.in_ok-dir.ensures) ∙ c.requires

pub make_dir-requires-clause-inside : goal.make_dir-requires-clause-inside
make_dir-requires-clause-inside g c =
    ap (maildir_shape c.args.path.now).home
    (c.as_str-in-Err-Missing.ensures.value ∙ c.in_ok-dir.ensures)
    ∙ is_home c.args.path.now c.args.word.now

pub returns-in-Err-Missing-clause-prepares : goal.returns-in-Err-Missing-clause-prepares
returns-in-Err-Missing-clause-prepares g c =
    P.then (maildir_files c.args.path.now) (a_maildir c.args.path.now)
    (P.listed (maildir_files c.args.path.now) (a_maildir c.args.path.now)
    c.list.ensures.0.called) c.make_dir.ensures.prepares

pub returns-in-Err-Missing-clause-saw : goal.returns-in-Err-Missing-clause-saw
returns-in-Err-Missing-clause-saw g c =
    L.saw_made c.make_dir.result (c.as_str.ensures.value ∙ c.in_ok-dir.ensures)
    c.make_dir.ensures.none c.in-Err-Missing.field-0-is c.in-Err-Missing.ensures.0.called
    c.make_dir.ensures.prepares

pub returns : goal.returns
returns g c = record {
  prepares = P.listed (maildir_files c.args.path.now) (a_maildir c.args.path.now)
      c.list.ensures.0.called;
  saw = tt;
  blames = blamed_now c.in-Err.why c.from.result c.from.ensures c.in-Err.ensures.0.counts;
  calls = calls_looked (IsMake (path_in c.args.path.now c.args.word.now)) _ _ c.list.ensures.1.0;
  meets = tt;
  cause = call_for (IsListOrMake (path_in c.args.path.now c.args.word.now))
      (λ tree. names_in tree c.as_str.result.now) c.in-Err.why (ListDir c.as_str.result.now)
      c.from.result _ _ (inl (ap ListDir (c.as_str.ensures.value ∙ c.in_ok-dir.ensures)))
      c.from.ensures c.in-Err.ensures.0.called.goes;
}

pub returns-in-Ok-clause-calls : goal.returns-in-Ok-clause-calls
returns-in-Ok-clause-calls g c =
    calls_looked (IsMake (path_in c.args.path.now c.args.word.now)) _ _ c.list.ensures.1.0

pub returns-in-Ok-clause-meets : goal.returns-in-Ok-clause-meets
returns-in-Ok-clause-meets g c =
    meets_listed (path_in c.args.path.now c.args.word.now) c.as_str.result.now
    (c.as_str.ensures.value ∙ c.in_ok-dir.ensures) c.in-Ok.ensures.0 c.list.ensures.1.0

pub returns-in-Err-Missing-clause-calls : goal.returns-in-Err-Missing-clause-calls
returns-in-Err-Missing-clause-calls g c =
    calls_then (IsMake (path_in c.args.path.now c.args.word.now)) _ _ _
    (calls_looked (IsMake (path_in c.args.path.now c.args.word.now)) _ _ c.list.ensures.1.0)
    (calls_to c.as_str-in-Err-Missing.result.now (path_in c.args.path.now c.args.word.now) _ _
    (c.as_str-in-Err-Missing.ensures.value ∙ c.in_ok-dir.ensures) c.make_dir.ensures.calls)

pub returns-in-Err-Missing-clause-meets : goal.returns-in-Err-Missing-clause-meets
returns-in-Err-Missing-clause-meets g c =
    meets_made c.make_dir.result (path_in c.args.path.now c.args.word.now) _ _ _
    c.make_dir.ensures.none
    (meets_missing (path_in c.args.path.now c.args.word.now) c.as_str.result.now
    c.in-Err-Missing.field-0 c.mark.result (c.as_str.ensures.value ∙ c.in_ok-dir.ensures)
    c.in-Err-Missing.field-0-is c.in-Err-Missing.ensures.0 c.list.ensures.1.0 c.mark.ensures.1)
    (calls_grow _ _ _ c.make_dir.ensures.calls)

pub returns-in-Err-Missing-clause-cause : goal.returns-in-Err-Missing-clause-cause
returns-in-Err-Missing-clause-cause g c =
    for_result c.make_dir.result (λ call. ⊥) (IsMake c.as_str-in-Err-Missing.result.now)
    (IsListOrMake (path_in c.args.path.now c.args.word.now)) _ _ _
    (λ call is. none_unmade (refuses call))
    (λ call is. inr (is ∙ ap MakeDir
    (c.as_str-in-Err-Missing.ensures.value ∙ c.in_ok-dir.ensures)))
    (calls_looked (λ call. ⊥) _ _ c.list.ensures.1.0)
    (calls_grow _ _ _ c.make_dir.ensures.calls) c.make_dir.ensures.cause
