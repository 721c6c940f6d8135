use Rattle.std.proofs.Common.{◌∙◌, ap, sym, false, length, true, Some, None}
use Rattle.mbox_folder.proofs.Changing.{by_size, look_is, read_at_path, tells_kept, tells_no_look}
use Rattle.mbox_folder.proofs.Changing.{tells_nothing_there, tells_read, tells_refused}
use Rattle.mbox_folder.proofs.read.read_unless_kept.Goals as goal

pub returns-then-is_as_known : goal.returns-then-is_as_known
returns-then-is_as_known g c =
    tells_kept c.args.known.now c.path.result.now c.args.stamp c.mark.result c.in-Some.stat _ _
    c.requires.was c.mark.ensures.1 c.requires.kept
    (by_size c.len.result (length c.args.known.now.bytes) c.args.stamp c.in-Some.stat
    c.is_as_known.result true (c.len.ensures ∙ ap length c.bytes.ensures) c.is_as_known.ensures
    c.if-is_as_known.true)
    c.path.ensures
    (look_is (Some c.in-Some.stat) c.path.result.now c.in-Some.is (record {
      looked = c.in-Ok.ensures.looked;
      first = c.in-Ok.ensures.first;
      reads = c.in-Ok.ensures.reads;
    }))

pub returns-in-Ok-read_file : goal.returns-in-Ok-read_file
returns-in-Ok-read_file g c =
    tells_read c.args.known.now c.path.result.now c.args.stamp c.in-Some.stat c.in-Ok-read_file.file
    _ _ _
    c.requires.kept
    (by_size c.len.result (length c.args.known.now.bytes) c.args.stamp c.in-Some.stat
    c.is_as_known.result false (c.len.ensures ∙ ap length c.bytes.ensures) c.is_as_known.ensures
    c.if-is_as_known.false)
    c.path.ensures
    (look_is (Some c.in-Some.stat) c.path.result.now c.in-Some.is (record {
      looked = c.in-Ok.ensures.looked;
      first = c.in-Ok.ensures.first;
      reads = c.in-Ok.ensures.reads;
    }))
    (read_at_path _ c.path-2.result.now c.path.result.now (c.path-2.ensures ∙ sym c.path.ensures)
    (record {
      seen = c.in-Ok-read_file.ensures.seen;
      first = c.in-Ok-read_file.ensures.first;
      possible = c.in-Ok-read_file.ensures.possible;
      meets = c.in-Ok-read_file.ensures.meets;
    }))

pub returns-in-Err-read_file : goal.returns-in-Err-read_file
returns-in-Err-read_file g c =
    tells_refused c.args.known.now c.path.result.now c.in-Err-read_file.why _ c.in-Some.stat _ _ _
    c.path.ensures
    (look_is (Some c.in-Some.stat) c.path.result.now c.in-Some.is (record {
      looked = c.in-Ok.ensures.looked;
      first = c.in-Ok.ensures.first;
      reads = c.in-Ok.ensures.reads;
    }))
    (read_at_path _ c.path-2.result.now c.path.result.now (c.path-2.ensures ∙ sym c.path.ensures)
    (record {
      seen = c.in-Err-read_file.ensures.seen;
      first = c.in-Err-read_file.ensures.first;
      possible = c.in-Err-read_file.ensures.possible;
      meets = c.in-Err-read_file.ensures.meets;
    }))
    c.behind_look.ensures

pub returns-in_default : goal.returns-in_default
returns-in_default g c =
    tells_nothing_there c.args.known.now c.path.result.now _ _ c.path.ensures
    (look_is None c.path.result.now c.in_default.is (record {
      looked = c.in-Ok.ensures.looked;
      first = c.in-Ok.ensures.first;
      reads = c.in-Ok.ensures.reads;
    }))

pub returns-in-Err : goal.returns-in-Err
returns-in-Err g c =
    tells_no_look c.args.known.now c.path.result.now c.in-Err.why _ _ c.path.ensures
    (record {
      looked = c.in-Err.ensures.looked;
      first = c.in-Err.ensures.first;
      reads = c.in-Err.ensures.reads;
    })
