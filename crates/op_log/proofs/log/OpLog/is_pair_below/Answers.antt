use Rattle.std.proofs.Common.{◌≡◌, [], Contains, Option, IfSome, get_or, true, subst}
use Rattle.version_vector.specs.Front.{is_le}
use Rattle.op_core.specs.Op.{Op}
use Rattle.op_log.proofs.Below.{known_below, known_itself}
use Rattle.op_log.proofs.log.OpLog.is_pair_below.Goals as goal

pub returns-then-has_pair : goal.returns-then-has_pair
returns-then-has_pair c is =
    let front = c.args.front.now in
    let log = c.args.self.now.operations in
    let found = c.has_pair.ensures c.if-has_pair.true in
    let below = subst (λ (o : Option Op). IfSome o (λ op. Contains log op × (is_le op.front front ≡ true))) found.1 c.requires.below in
    known_below log found.0 front (get_or front c.args.at ([], 0)) c.keeps_good.ensures below.0 below.1 found.2

pub returns-else-has_pair : goal.returns-else-has_pair
returns-else-has_pair c is =
    let front = c.args.front.now in
    let log = c.args.self.now.operations in
    let found = c.is_pair.ensures is in
    let below = subst (λ (o : Option Op). IfSome o (λ op. Contains log op × (is_le op.front front ≡ true))) found.1 c.requires.below in
    known_itself log found.0 front (get_or front c.args.at ([], 0)) below.0 below.1 found.2
