use Rattle.std.proofs.Common.{◌++◌, sym, subst}
use Rattle.presence_set.specs.ById.{IsAscending}
use Rattle.presence_set.specs.Blocks.{pairs_in, blocks_in}
use Rattle.presence_set.proofs.Ascending.{put_ascending}
use Rattle.presence_set.proofs.id_blocks.IdBlocks.put.Goals as goal

pub invariant_of-self : goal.invariant_of-self
invariant_of-self g c =
    let old = c.self.inside.first.0 ++ pairs_in (blocks_in c.self.inside.later) in
    record {
      rising = subst IsAscending (sym c.put_among.ensures.same) (put_ascending old c.args.id c.args.value c.self.invariant.rising);
      filled = c.put_among.ensures.filled;
      room = c.put_among.ensures.room;
    }
