use Rattle.server_core.proofs.access.OnShelfDocAccess.into_reply.Goals as goal

pub returns : goal.returns
returns g c = c.into_reply.ensures
