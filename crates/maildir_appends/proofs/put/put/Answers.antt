use Rattle.std.proofs.Common.{inl, inr}
use Rattle.folder_changes.proofs.TraceLemmas.{calls_then}
use Rattle.maildir_appends.proofs.Putting.{begun_for, kept_for, last_for, moved_for}
use Rattle.maildir_appends.proofs.Putting.{one_called}
use Rattle.maildir_appends.proofs.Putting.{synced_for, written_for}
use Rattle.std.specs.String.{string_bytes}
use Rattle.maildir_appends.proofs.Freeing.{in_way_if}
use Rattle.std.proofs.Common.{refl}
use Rattle.maildir_appends.proofs.Adding as A
use Rattle.maildir_appends.proofs.put.put.Goals as goal

pub returns-in_err-create-clause-some : goal.returns-in_err-create-clause-some
returns-in_err-create-clause-some g c =
    let is = A.placed_as c.as_str-beside.ensures.value refl c.requires.placed in
    A.not_begun c.args.path.now c.args.text.now is.made c.in_err-create.ensures.called

pub returns-in_err-write_at-clause-some : goal.returns-in_err-write_at-clause-some
returns-in_err-write_at-clause-some g c =
    let is = A.placed_as c.as_str-beside.ensures.value refl c.requires.placed in
    let made = A.begun _ _ _ _ is c.in_ok-create.ensures.called in
    let end = A.not_written _ _ _ _ is made c.in_err-write_at.ensures.called in
    A.may_be_added _ _ _ _ is end

pub returns-in_err-sync-clause-some : goal.returns-in_err-sync-clause-some
returns-in_err-sync-clause-some g c =
    let is = A.placed_as c.as_str-beside.ensures.value refl c.requires.placed in
    let made = A.begun _ _ _ _ is c.in_ok-create.ensures.called in
    let written = A.written _ _ _ _ is made c.in_ok-write_at.ensures.called in
    let end = A.not_synced _ _ _ _ is written c.in_err-sync.ensures.called in
    A.may_be_added _ _ _ _ is end

pub returns-in_err-rename-clause-some : goal.returns-in_err-rename-clause-some
returns-in_err-rename-clause-some g c =
    let is = A.placed_as c.as_str-beside.ensures.value c.as_str.ensures.value c.requires.placed in
    let made = A.begun _ _ _ _ is c.in_ok-create.ensures.called in
    let written = A.written _ _ _ _ is made c.in_ok-write_at.ensures.called in
    let synced = A.synced _ _ _ _ is written c.in_ok-sync.ensures.called in
    let end = A.not_named _ _ _ _ is synced c.in_err-rename.ensures.called in
    A.may_be_added _ _ _ _ is end

pub returns-in_err-sync_dir-clause-some : goal.returns-in_err-sync_dir-clause-some
returns-in_err-sync_dir-clause-some g c =
    let is = A.placed_as c.as_str-beside.ensures.value c.as_str.ensures.value c.requires.placed in
    let made = A.begun _ _ _ _ is c.in_ok-create.ensures.called in
    let written = A.written _ _ _ _ is made c.in_ok-write_at.ensures.called in
    let synced = A.synced _ _ _ _ is written c.in_ok-sync.ensures.called in
    let named = A.named _ _ _ _ is synced c.in_ok-rename.ensures.called in
    let end = A.not_kept _ _ _ _ is named c.in_err-sync_dir.ensures.called in
    A.may_be_added _ _ _ _ is end

pub returns-clause-some : goal.returns-clause-some
returns-clause-some g c =
    let is = A.placed_as c.as_str-beside.ensures.value c.as_str.ensures.value c.requires.placed in
    let made = A.begun _ _ _ _ is c.in_ok-create.ensures.called in
    let written = A.written _ _ _ _ is made c.in_ok-write_at.ensures.called in
    let synced = A.synced _ _ _ _ is written c.in_ok-sync.ensures.called in
    let named = A.named _ _ _ _ is synced c.in_ok-rename.ensures.called in
    let kept = A.kept _ _ _ _ is named c.in_ok-sync_dir.ensures.called in
    let last = A.still_kept _ _ _ _ is kept c.sync_dir-2.ensures.called in
    A.may_be_added _ _ _ _ is last

pub returns-clause-ok : goal.returns-clause-ok
returns-clause-ok g c =
    let is = A.placed_as c.as_str-beside.ensures.value c.as_str.ensures.value c.requires.placed in
    let made = A.begun _ _ _ _ is c.in_ok-create.ensures.called in
    let written = A.written _ _ _ _ is made c.in_ok-write_at.ensures.called in
    let synced = A.synced _ _ _ _ is written c.in_ok-sync.ensures.called in
    let named = A.named _ _ _ _ is synced c.in_ok-rename.ensures.called in
    let kept = A.kept _ _ _ _ is named c.in_ok-sync_dir.ensures.called in
    let last = A.still_kept _ _ _ _ is kept c.sync_dir-2.ensures.called in
    A.on_ok _ (A.was_added _ _ _ _ is last)

pub returns-clause-puts : goal.returns-clause-puts
returns-clause-puts g c =
    A.on_ok _ (A.puts_at _ _ c.as_str-beside.ensures.value c.as_str.ensures.value
    c.in_ok-create.ensures.called c.in_ok-write_at.ensures.grows c.in_ok-sync.ensures.grows
    c.in_ok-rename.ensures.called c.in_ok-sync_dir.ensures.grows c.sync_dir-2.ensures.grows)

pub returns-in_err-create-clause-in_way : goal.returns-in_err-create-clause-in_way
returns-in_err-create-clause-in_way g c =
    in_way_if c.as_str-beside.result.now (string_bytes c.args.places.now.beside) _
    c.from_residual.result _ _ c.as_str-beside.ensures.value c.from_residual.ensures.1
    c.in_err-create.ensures.called.goes

pub returns-in_err-create-clause-cause : goal.returns-in_err-create-clause-cause
returns-in_err-create-clause-cause g c =
    begun_for (string_bytes c.args.places.now.beside) (string_bytes c.args.places.now.place)
    (string_bytes c.args.places.now.new) (string_bytes c.args.places.now.cur)
    c.requires.apart c.as_str-beside.result.now _ c.from_residual.result _ _
    c.as_str-beside.ensures.value c.from_residual.ensures.1 c.in_err-create.ensures.called.goes

pub returns-in_err-write_at-clause-cause : goal.returns-in_err-write_at-clause-cause
returns-in_err-write_at-clause-cause g c =
    written_for (string_bytes c.args.places.now.beside) (string_bytes c.args.places.now.place)
    (string_bytes c.args.places.now.new) (string_bytes c.args.places.now.cur)
    c.requires.apart c.as_str-beside.result.now c.args.text.now 0 _
    c.from_residual-in_err-write_at.result _ _ _ c.as_str-beside.ensures.value
    c.from_residual-in_err-write_at.ensures.1
    (one_called _ c.as_str-beside.ensures.value c.in_ok-create.ensures.called)
    c.in_err-write_at.ensures.called.goes

pub returns-in_err-sync-clause-cause : goal.returns-in_err-sync-clause-cause
returns-in_err-sync-clause-cause g c =
    synced_for (string_bytes c.args.places.now.beside) (string_bytes c.args.places.now.place)
    (string_bytes c.args.places.now.new) (string_bytes c.args.places.now.cur)
    c.requires.apart c.as_str-beside.result.now _ c.from_residual-in_err-sync.result _ _ _
    c.as_str-beside.ensures.value c.from_residual-in_err-sync.ensures.1
    (calls_then _ _ _ _ (one_called _ c.as_str-beside.ensures.value c.in_ok-create.ensures.called)
    (one_called _ c.as_str-beside.ensures.value c.in_ok-write_at.ensures.called))
    c.in_err-sync.ensures.called.goes

pub returns-in_err-rename-clause-cause : goal.returns-in_err-rename-clause-cause
returns-in_err-rename-clause-cause g c =
    moved_for (string_bytes c.args.places.now.beside) (string_bytes c.args.places.now.place)
    (string_bytes c.args.places.now.new) (string_bytes c.args.places.now.cur)
    c.requires.apart c.as_str-beside.result.now c.as_str.result.now _
    c.from_residual-in_err-rename.result _ _ _ c.as_str-beside.ensures.value
    c.as_str.ensures.value c.from_residual-in_err-rename.ensures.1
    (calls_then _ _ _ _ (one_called _ c.as_str-beside.ensures.value c.in_ok-create.ensures.called)
    (calls_then _ _ _ _ (one_called _ c.as_str-beside.ensures.value c.in_ok-write_at.ensures.called)
    (one_called _ c.as_str-beside.ensures.value c.in_ok-sync.ensures.called)))
    c.in_err-rename.ensures.called.goes

pub returns-in_err-sync_dir-clause-cause : goal.returns-in_err-sync_dir-clause-cause
returns-in_err-sync_dir-clause-cause g c =
    kept_for (string_bytes c.args.places.now.beside) (string_bytes c.args.places.now.place)
    (string_bytes c.args.places.now.new) (string_bytes c.args.places.now.cur)
    c.requires.apart c.as_str-2.result.now _ c.from_residual-in_err-sync_dir.result _ _ _
    (inl c.as_str-2.ensures.value) c.from_residual-in_err-sync_dir.ensures.1
    (calls_then _ _ _ _ (one_called _ c.as_str-beside.ensures.value c.in_ok-create.ensures.called)
    (calls_then _ _ _ _ (one_called _ c.as_str-beside.ensures.value c.in_ok-write_at.ensures.called)
    (calls_then _ _ _ _ (one_called _ c.as_str-beside.ensures.value c.in_ok-sync.ensures.called)
    (one_called _ (c.as_str-beside.ensures.value, c.as_str.ensures.value)
    c.in_ok-rename.ensures.called))))
    c.in_err-sync_dir.ensures.called.goes

pub returns-clause-cause : goal.returns-clause-cause
returns-clause-cause g c =
    last_for (string_bytes c.args.places.now.beside) (string_bytes c.args.places.now.place)
    (string_bytes c.args.places.now.new) (string_bytes c.args.places.now.cur)
    c.requires.apart c.as_str-3.result.now c.sync_dir-2.result _ _ _ (inr c.as_str-3.ensures.value)
    (calls_then _ _ _ _ (one_called _ c.as_str-beside.ensures.value c.in_ok-create.ensures.called)
    (calls_then _ _ _ _ (one_called _ c.as_str-beside.ensures.value c.in_ok-write_at.ensures.called)
    (calls_then _ _ _ _ (one_called _ c.as_str-beside.ensures.value c.in_ok-sync.ensures.called)
    (calls_then _ _ _ _ (one_called _ (c.as_str-beside.ensures.value, c.as_str.ensures.value)
    c.in_ok-rename.ensures.called)
    (one_called _ (inl c.as_str-2.ensures.value) c.in_ok-sync_dir.ensures.called)))))
    c.sync_dir-2.ensures.called.goes
