use Rattle.version_vector.proofs.front.Front.le.Goals as goal

pub returns : goal.returns
returns c = c.covers_all.ensures
