use Rattle.std.proofs.Common.{◌≡◌, flat_map, map, take, string_bytes}
use Rattle.stored_log.specs.Report.{line_by}
use Rattle.stored_log.proofs.report.lines_of.Given as goal

abbrev pub invariant-loop-name : goal.invariant-loop-name
invariant-loop-name g l = string_bytes l.text ≡ flat_map (line_by (g.L.StoredLog.log l.copy).docs) (map string_bytes (take l.name-index l.name-items))
