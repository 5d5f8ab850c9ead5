use Rattle.log_copy.proofs.copy.LogCopy.front.Goals as goal

pub returns-clause-ok : goal.returns-clause-ok
returns-clause-ok g c = rw (← c.self.view_is) (rw c.as_slice.ensures.value at c.front.ensures.ok)
