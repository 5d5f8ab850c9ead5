use Rattle.std.proofs.Common.{rules}
use Rattle.std.proofs.lemmas.Fn.{filter_same}
use Rattle.presence_set.specs.Blocks.{has_pair}
use Rattle.presence_set.proofs.blocks.drop_empty.Goals as goal

pub returns : goal.returns
returns g c = filter_same _ (λ b. has_pair b.0) _ (λ x b f' h. search rules) _ _ c.retain.ensures.filtered
