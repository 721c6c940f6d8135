use Rattle.folder_changes.specs.Refused.{refuses}
use Rattle.folder_drivers.specs.Refusing.{IsAny}
use Rattle.maildir_appends.specs.Causes.{IsListOrMake}
use Rattle.folder_drivers.proofs.Causing.{for_earlier, none_unmade}
use Rattle.maildir_appends.proofs.Causing.{tmp_unmade}
use Rattle.disk_model.proofs.Looking.{grows_then}
use Rattle.std.proofs.Common.{codes, false, inl, inr}
use Rattle.disk_model.specs.Journal.{ListDir}
use Rattle.folder_core.specs.Directory.{path_in}
use Rattle.folder_changes.proofs.TraceLemmas.{calls_for, calls_looked, calls_then}
use Rattle.folder_drivers.specs.Refusing.{IsMake}
use Rattle.maildir_appends.specs.Causes.{IsFreeFor, IsMakeIn}
use Rattle.folder_drivers.specs.MetNames.{plain_names}
use Rattle.maildir_appends.proofs.Freeing.{calls_grow, seen_behind}
use Rattle.std.proofs.Common.{true}
use Rattle.folder_core.specs.Maildir.{directory}
use Rattle.folder_shapes.specs.Maildir.{maildir_files}
use Rattle.folder_shapes.proofs.MaildirLemmas.{a_maildir}
use Rattle.maildir_appends.proofs.Paths.{new_apart, tmp_apart}
use Rattle.folder_drivers.proofs.FirstLooking as F
use Rattle.folder_drivers.proofs.MetNames as L
use Rattle.folder_drivers.proofs.Preparing as P
use Rattle.maildir_appends.proofs.listing.list_names.Goals as goal

pub names_or_none-requires : goal.names_or_none-requires
names_or_none-requires g c = new_apart c.args.path.now

pub returns-in-Err-clause-prepares : goal.returns-in-Err-clause-prepares
returns-in-Err-clause-prepares g c =
    P.then (maildir_files c.args.path.now) (a_maildir c.args.path.now)
    c.cur_names.ensures.prepares c.names_or_none.ensures.prepares

pub names_or_none-requires-2 : goal.names_or_none-requires-2
names_or_none-requires-2 g c = tmp_apart c.args.path.now

pub returns-in-Ok-names_or_none-clause-prepares : goal.returns-in-Ok-names_or_none-clause-prepares
returns-in-Ok-names_or_none-clause-prepares g c =
    P.then (maildir_files c.args.path.now) (a_maildir c.args.path.now)
    (P.then (maildir_files c.args.path.now) (a_maildir c.args.path.now)
    c.cur_names.ensures.prepares c.names_or_none.ensures.prepares)
    c.names_or_none-2.ensures.prepares

pub returns-in-Err-names_or_none-clause-prepares : goal.returns-in-Err-names_or_none-clause-prepares
returns-in-Err-names_or_none-clause-prepares g c =
    P.then (maildir_files c.args.path.now) (a_maildir c.args.path.now)
    (P.then (maildir_files c.args.path.now) (a_maildir c.args.path.now)
    c.cur_names.ensures.prepares c.names_or_none.ensures.prepares)
    c.names_or_none-2.ensures.prepares

pub returns-in-Err-clause-first : goal.returns-in-Err-clause-first
returns-in-Err-clause-first g c =
    F.found_then_refused (directory true c.args.path.now)
    (F.found_prepared (directory true c.args.path.now) c.in_ok-cur.ensures.first
    c.names_or_none.ensures.prepares)

pub returns-in-Ok-names_or_none-clause-first : goal.returns-in-Ok-names_or_none-clause-first
returns-in-Ok-names_or_none-clause-first g c =
    F.found_prepared (directory true c.args.path.now)
    (F.found_prepared (directory true c.args.path.now) c.in_ok-cur.ensures.first
    c.names_or_none.ensures.prepares)
    c.names_or_none-2.ensures.prepares

pub returns-in-Err-names_or_none-clause-first : goal.returns-in-Err-names_or_none-clause-first
returns-in-Err-names_or_none-clause-first g c =
    F.found_then_refused (directory true c.args.path.now)
    (F.found_prepared (directory true c.args.path.now)
    (F.found_prepared (directory true c.args.path.now) c.in_ok-cur.ensures.first
    c.names_or_none.ensures.prepares)
    c.names_or_none-2.ensures.prepares)

pub returns-in-Ok-names_or_none-clause-saw : goal.returns-in-Ok-names_or_none-clause-saw
returns-in-Ok-names_or_none-clause-saw g c = record {
  cur = L.saw_prepared (L.saw_prepared c.in_ok-cur.ensures.saw c.names_or_none.ensures.prepares)
      c.names_or_none-2.ensures.prepares;
  new_names = L.saw_prepared (L.prepared_saw c.cur_names.ensures.prepares c.in-Ok.ensures.saw)
      c.names_or_none-2.ensures.prepares;
  tmp = L.prepared_saw c.cur_names.ensures.prepares
      (L.prepared_saw c.names_or_none.ensures.prepares c.in-Ok-names_or_none.ensures.saw);
}

pub returns-in_err-cur-clause-calls : goal.returns-in_err-cur-clause-calls
returns-in_err-cur-clause-calls g c =
    calls_looked (IsMakeIn c.args.path.now) _ _ c.cur_names.ensures.looks

pub returns-in-Err-clause-calls : goal.returns-in-Err-clause-calls
returns-in-Err-clause-calls g c =
    calls_then (IsMakeIn c.args.path.now) _ _ _
    (calls_looked (IsMakeIn c.args.path.now) _ _ c.cur_names.ensures.looks)
    (calls_for (IsMake (directory false c.args.path.now)) (IsMakeIn c.args.path.now) _ _
    (λ call is. inl is) c.names_or_none.ensures.calls)

pub returns-in-Ok-names_or_none-clause-calls : goal.returns-in-Ok-names_or_none-clause-calls
returns-in-Ok-names_or_none-clause-calls g c =
    calls_then (IsMakeIn c.args.path.now) _ _ _
    (calls_looked (IsMakeIn c.args.path.now) _ _ c.cur_names.ensures.looks)
    (calls_then (IsMakeIn c.args.path.now) _ _ _
    (calls_for (IsMake (directory false c.args.path.now)) (IsMakeIn c.args.path.now) _ _
    (λ call is. inl is) c.names_or_none.ensures.calls)
    (calls_for (IsMake (path_in c.args.path.now (codes "tmp"))) (IsMakeIn c.args.path.now) _ _
    (λ call is. inr is) c.names_or_none-2.ensures.calls))

pub returns-in-Err-names_or_none-clause-calls : goal.returns-in-Err-names_or_none-clause-calls
returns-in-Err-names_or_none-clause-calls g c =
    calls_then (IsMakeIn c.args.path.now) _ _ _
    (calls_looked (IsMakeIn c.args.path.now) _ _ c.cur_names.ensures.looks)
    (calls_then (IsMakeIn c.args.path.now) _ _ _
    (calls_for (IsMake (directory false c.args.path.now)) (IsMakeIn c.args.path.now) _ _
    (λ call is. inl is) c.names_or_none.ensures.calls)
    (calls_for (IsMake (path_in c.args.path.now (codes "tmp"))) (IsMakeIn c.args.path.now) _ _
    (λ call is. inr is) c.names_or_none-2.ensures.calls))

pub returns-in-Ok-names_or_none-clause-meets : goal.returns-in-Ok-names_or_none-clause-meets
returns-in-Ok-names_or_none-clause-meets g c =
    let tmp = path_in c.args.path.now (codes "tmp") in
    seen_behind (ListDir tmp) (IsFreeFor tmp (plain_names c.in-Ok-names_or_none.tmp)) _ _ _
    (calls_grow _ _ _ (calls_looked (IsMake tmp) _ _ c.cur_names.ensures.looks))
    (grows_then _ _ _ (calls_grow _ _ _ c.names_or_none.ensures.calls)
    (calls_grow _ _ _ c.names_or_none-2.ensures.calls))
    (seen_behind (ListDir tmp) (IsFreeFor tmp (plain_names c.in-Ok-names_or_none.tmp)) _ _ _
    (calls_grow _ _ _ c.names_or_none.ensures.calls)
    (calls_grow _ _ _ c.names_or_none-2.ensures.calls) c.in-Ok-names_or_none.ensures.meets)

pub returns-in-Err-clause-cause : goal.returns-in-Err-clause-cause
returns-in-Err-clause-cause g c =
    for_earlier (λ call. ⊥) (IsListOrMake (directory false c.args.path.now)) IsAny c.in-Err.why
    _ _ _ (λ call is. none_unmade (refuses call)) (λ call is. tt)
    (calls_looked (λ call. ⊥) _ _ c.cur_names.ensures.looks)
    (calls_grow _ _ _ c.names_or_none.ensures.calls) c.in-Err.ensures.cause

pub returns-in-Err-names_or_none-clause-cause : goal.returns-in-Err-names_or_none-clause-cause
returns-in-Err-names_or_none-clause-cause g c =
    for_earlier (λ call. ⊥) IsAny IsAny c.in-Err-names_or_none.why _ _ _
    (λ call is. none_unmade (refuses call)) (λ call is. tt)
    (calls_looked (λ call. ⊥) _ _ c.cur_names.ensures.looks)
    (grows_then _ _ _ (calls_grow _ _ _ c.names_or_none.ensures.calls)
    (calls_grow _ _ _ c.names_or_none-2.ensures.calls))
    (for_earlier (IsMake (directory false c.args.path.now))
    (IsListOrMake (path_in c.args.path.now (codes "tmp"))) IsAny c.in-Err-names_or_none.why _ _ _
    (tmp_unmade c.args.path.now) (λ call is. tt) c.names_or_none.ensures.calls
    (calls_grow _ _ _ c.names_or_none-2.ensures.calls) c.in-Err-names_or_none.ensures.cause)
