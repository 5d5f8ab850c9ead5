use Rattle.std.proofs.Common.{map, refl, ap, ◌∙◌}
use Rattle.serde_json.specs.View.{view}
use Rattle.serde_json.proofs.Views.{view-Array}
use Rattle.op_core.specs.Wire.{list_data, tagged_data, path_data}
use Rattle.version_vector.proofs.Steps.{map_grown, map_done}
use Rattle.op_core.proofs.encode.write_path.Goals as goal

pub loop-tagged-preserved : goal.loop-tagged-preserved
loop-tagged-preserved c =
    let tagged = c.tagged-item.result in
    map_grown tagged_data c.as_slice-tagged-items.result.now c.loop-tagged.tagged-index tagged (map view c.loop-tagged.keys.items) (map view c.push_written.new.values.items) (tagged_data tagged)
    c.loop-tagged-test.true c.tagged-item.is refl c.loop-tagged.invariant (c.in_ok-push_written.ensures (tagged_data tagged) c.write_tagged.ensures)

pub returns : goal.returns
returns c =
    let keys = c.as_slice-tagged-items.result.now in
    view-Array c.loop-tagged.keys
    ∙ ap list_data (map_done tagged_data keys c.loop-tagged.tagged-index (map view c.loop-tagged.keys.items) c.loop-tagged-test.false c.loop-tagged.invariant)
    ∙ ap path_data c.as_slice-tagged-items.ensures
