use Rattle.std.proofs.Common.{◌≡◌, ◌++◌, drop, Ok}
use Rattle.serde_json.specs.View.{items_view}
use Rattle.json_scalar.specs.Refusal.{and_then}
use Rattle.replica_c.specs.Asking.{vals_of}
use Rattle.replica_c.proofs.read.read_each.Given as goal

-- the values so far, and then those of the items behind them
abbrev pub invariant-loop-item : goal.invariant-loop-item
invariant-loop-item l =
    vals_of (items_view l.items) ≡ and_then (vals_of (items_view (drop l.item-index l.items))) (λ rest. Ok (l.entries.items ++ rest))
