use Rattle.std.proofs.Common.{[], get_or, Contains, sym, subst}
use Rattle.std.specs.Prelude.{IfSome}
use Rattle.key_map.specs.KeyOrder.{IsInKeyOrder}
use Rattle.key_map.proofs.Gone.{rising_or_none, hinted, ranked}
use Rattle.key_map.proofs.blocks.block_beside.Goals as goal

pub value_here-requires : goal.value_here-requires
value_here-requires g c =
    subst IsInKeyOrder (sym c.entries_of.ensures) (rising_or_none c.args.blocks.now c.requires.rising c.args.hint.block)

pub returns-then-is_some : goal.returns-then-is_some
returns-then-is_some g c = λ n e.
    hinted c.args.blocks.now c.requires c.args.key.now c.args.hint.block c.value_here.result (sym c.if-is_some.ensures)
    (subst (λ l. IfSome c.value_here.result (λ m. Contains l (c.args.key.now, m))) c.entries_of.ensures c.value_here.ensures.found)
    n e

pub returns : goal.returns
returns g c = λ n e.
    subst (λ m. Contains (get_or c.args.blocks.now m []) (c.args.key.now, n)) (sym c.block_of.ensures.value)
    (ranked c.args.blocks.now c.requires c.args.key.now n e)
