use Rattle.std.proofs.Common.{◌≤◌, arith}
use Rattle.op_log.proofs.Uncovered.{uncovered_behind, covers_none}
use Rattle.op_log.proofs.index.Index.next_uncovered.Goals as goal

pub returns-then-follows_its_replica-clause-ok : goal.returns-then-follows_its_replica-clause-ok
returns-then-follows_its_replica-clause-ok c =
    let (k, name, follows, before, here) = c.follows_its_replica.ensures c.if-follows_its_replica.true in
    let le : k ≤ c.args.from = omega (arith, follows) in
    record {
      within = c.requires.within;
      later = omega arith;
      covered = covers_none c.args.front.now c.args.entries.now c.args.from;
      uncovered = uncovered_behind c.args.front.now c.args.entries.now c.requires.index.good name k c.args.from before here le (c.requires.before k follows);
    }
