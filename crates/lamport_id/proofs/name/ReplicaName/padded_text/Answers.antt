use Rattle.std.proofs.Common.{sym, subst}
use Rattle.std.specs.Str.{IsUtf8}
use Rattle.lamport_id.specs.Name.{unpadded}
use Rattle.lamport_id.proofs.Names.{IsUtf8-padded}
use Rattle.lamport_id.proofs.name.ReplicaName.padded_text.Goals as goal

pub from_utf8_unchecked-requires : goal.from_utf8_unchecked-requires
from_utf8_unchecked-requires c = subst IsUtf8 (sym c.self.invariant.1) (IsUtf8-padded (unpadded c.self.inside.bytes) c.self.invariant.0)
