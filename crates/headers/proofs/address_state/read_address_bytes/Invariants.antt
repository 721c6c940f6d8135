use Rattle.std.proofs.Common.{◌≡◌, ◌+◌, ◌≤◌, ◌++◌, length, vec_len, vec_capacity}
use Rattle.headers.specs.AddressState.{address_bytes, bytes_from, depth_at}
use Rattle.headers.proofs.address_state.read_address_bytes.Given as goal

abbrev pub invariant-loop-left : goal.invariant-loop-left
invariant-loop-left l = record {
  depth : depth_at l.state.within + length l.left ≤ length l.value;
  room : vec_len l.bytes + length l.left ≤ vec_capacity l.bytes;
  read : l.bytes.items ++ bytes_from l.state l.left ≡ address_bytes l.value;
}

abbrev pub decreases-loop-left : goal.decreases-loop-left
decreases-loop-left l = length l.left
