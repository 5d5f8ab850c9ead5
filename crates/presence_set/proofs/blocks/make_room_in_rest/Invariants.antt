use Rattle.std.proofs.Common.{◌≡◌, ◌≤◌, length, drop}
use Rattle.presence_set.specs.Blocks.{pairs_in, AreNonEmpty, AllHaveRoom}
use Rattle.presence_set.proofs.blocks.make_room_in_rest.Given as goal

abbrev pub invariant-loop-at : goal.invariant-loop-at
invariant-loop-at g l =
    (l.at ≤ length l.rest.items) × (pairs_in l.rest.items ≡ pairs_in l.fn.rest.items) × AreNonEmpty l.rest.items × AllHaveRoom (drop l.at l.rest.items)

abbrev pub decreases-loop-at : goal.decreases-loop-at
decreases-loop-at g l = l.at
