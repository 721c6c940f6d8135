use Rattle.std.proofs.Common.{◌≡◌, ◌<◌, ℕ, false, Some, length, slice_get, slice_index}
use Rattle.threads.specs.Message.{is_listed_before, plain_messages}
use Rattle.threads.proofs.walk.first_listed.Given as goal

abbrev pub invariant-loop-place : goal.invariant-loop-place
invariant-loop-place l = record {
  within : l.first < length l.messages;
  among : (i : ℕ) × (slice_get l.places i ≡ Some l.first);
  least : (i : ℕ) → i < l.place-index
      → is_listed_before (plain_messages l.messages) (slice_index l.places i) l.first ≡ false;
}
