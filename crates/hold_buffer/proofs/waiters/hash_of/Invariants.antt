use Rattle.std.proofs.Common.{◌≡◌, ◌<◌, take}
use Rattle.std.specs.List.{fold}
use Rattle.hold_buffer.specs.Waiters.{hash_step}
use Rattle.hold_buffer.proofs.waiters.hash_of.Given as goal

abbrev pub invariant-loop-byte : goal.invariant-loop-byte
invariant-loop-byte l = (l.hash ≡ fold hash_step l.counter (take l.byte-index l.name)) × (l.hash < 4294967296)
