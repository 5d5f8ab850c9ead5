use Rattle.std.proofs.Common.{rules}
use Rattle.served_log.proofs.Keeping.{same_left}
use Rattle.served_log.proofs.serve.serve_with_copier.Goals as goal

pub returns-clause-left : goal.returns-clause-left
returns-clause-left g c =
    same_left g.M.Marker.origin g.L.StoredLog.log _ c.run_beside_copier-copier.ensures.left c.new-copier.ensures.stored (search rules) c.new-copier.ensures.seats (search rules) c.end-fault.ensures.fault
