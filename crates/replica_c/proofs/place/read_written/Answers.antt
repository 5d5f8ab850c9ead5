use Rattle.std.proofs.Common.{None}
use Rattle.serde_json.specs.View.{view}
use Rattle.op_core.specs.Reading.{cursor_within}
use Rattle.replica_c.proofs.Paths.{moved_cause}
use Rattle.replica_c.proofs.place.read_written.Goals as goal

pub returns-in-Err : goal.returns-in-Err
returns-in-Err c =
    rw (c.in_a_place.ensures)
    (moved_cause (cursor_within None (view c.args.value.now)) c.read_cursor.result c.in-Err.cause c.read_cursor.ensures c.in-Err.is)
