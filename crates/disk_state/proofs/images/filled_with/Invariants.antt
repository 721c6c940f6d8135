use Rattle.std.proofs.Common.{◌≡◌, map}
use Rattle.std.specs.List.{range_with_len}
use Rattle.disk_model.specs.Fills.{filled_byte}
use Rattle.disk_state.specs.Plain.{plain_file}
use Rattle.disk_state.proofs.images.filled_with.Given as goal

abbrev pub invariant-loop-place : goal.invariant-loop-place
invariant-loop-place l =
    l.bytes.items ≡ map (filled_byte (plain_file l.file) l.byte) (range_with_len 0 l.place)
