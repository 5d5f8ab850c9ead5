use Rattle.std.proofs.Common.{Some, inl, refl, ap, ◌∙◌}
use Rattle.replica_c.proofs.open_closed.Goals as goal

pub returns-in-Ok : goal.returns-in-Ok
returns-in-Ok c = inl (c.in-Ok.kept.value, c.in-Ok.ensures.ok, c.of-in-Ok.ensures ∙ ap Some c.of.ensures, refl, refl)
