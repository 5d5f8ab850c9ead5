use Rattle.std.proofs.Common.{ℕ, ◌<◌, ◌≤◌, List, length, map, refl, ap, subst, ◌∙◌}
use Rattle.serde_json.specs.View.{view}
use Rattle.serde_json.proofs.Views.{view-Array}
use Rattle.op_core.specs.Wire.{list_data, entry_data}
use Rattle.version_vector.proofs.Steps.{map_grown, map_done}
use Rattle.op_core.proofs.encode.write_front.Goals as goal

pub loop-at-preserved : goal.loop-at-preserved
loop-at-preserved c =
    let front : List (List ℕ × ℕ) = c.args.front.now in
    let at = c.loop-at.at in
    let pair : List ℕ × ℕ = c.pair_at.result in
    let within : at < length front = subst (λ (n : ℕ). at < n) c.len-at-end.ensures c.loop-at-test.true in
    map_grown entry_data front at pair (map view c.loop-at.entries.items) (map view c.push_written.new.values.items) (entry_data pair) within (c.pair_at.ensures pair) refl
    c.loop-at.invariant (c.in_ok-push_written.ensures (entry_data pair) c.write_entry.ensures)

pub returns : goal.returns
returns c =
    let front : List (List ℕ × ℕ) = c.args.front.now in
    let past : length front ≤ c.loop-at.at = subst (λ (n : ℕ). n ≤ c.loop-at.at) c.len-at-end.ensures c.loop-at-test.false in
    view-Array c.loop-at.entries ∙ ap list_data (map_done entry_data front c.loop-at.at (map view c.loop-at.entries.items) past c.loop-at.invariant)
