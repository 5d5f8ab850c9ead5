-- The keys of a way: its own, or shared ones in place of them.
use Rattle.std.specs.Prelude.{List, [], Option, unwrap_or}
use Rattle.small_values.specs.declared.small_vec.SmallVec.{SmallVec}
use Rattle.small_values.specs.SmallVec.{elements_by}
use Rattle.op_core.specs.declared.cursor.Tagged.{Tagged}

abbrev pub kept_keys : SmallVec Tagged (Option (List Tagged)) → List Tagged
kept_keys = elements_by (λ shared. unwrap_or shared [])
