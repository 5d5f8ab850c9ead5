use Rattle.log_copy.proofs.SoundLemmas.{storable_content}
use Rattle.log_copy.proofs.copy.LogCopy.is_accepted_again.Goals as goal

pub returns : goal.returns
returns g c = rw (← c.self.view_is) (storable_content c.self.inside.epoch c.self.inside.docs.items c.self.invariant.storable)
