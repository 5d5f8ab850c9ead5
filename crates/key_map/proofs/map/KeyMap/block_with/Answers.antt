use Rattle.std.proofs.Common.{◌≡◌, ◌<◌, [], get_or, Contains, Some, sym, subst}
use Rattle.key_map.specs.Blocks.{joined}
use Rattle.key_map.specs.ByKey.{at_key}
use Rattle.key_map.proofs.Gone.{block_part, block_within, length-but_gone}
use Rattle.small_values.proofs.Made.{seen}
use Rattle.key_map.proofs.map.KeyMap.block_with.Goals as goal

pub returns-clause-has : goal.returns-clause-has
returns-clause-has g c =
    let key = c.args.key.now in
    let at = c.block_beside.result in
    rw (← seen ([], []) c.in-Some.ensures c.self.view_is, ← c.map.view_is)
    (λ n e.
    block_part c.map.inside.gone.items c.map.inside.blocks.items at (key, n)
    (subst (λ l. Contains (get_or l at []) (key, n)) c.as_slice.ensures.value
    (c.block_beside.ensures n (subst (λ l. at_key (joined l) key ≡ Some n) (sym c.as_slice.ensures.value) e))))

pub returns-clause-within : goal.returns-clause-within
returns-clause-within g c =
    let key = c.args.key.now in
    let at = c.block_beside.result in
    rw (← seen ([], []) c.in-Some.ensures c.self.view_is, ← c.map.view_is)
    (λ n e.
    subst (λ m. at < m) (sym (length-but_gone c.map.inside.gone.items c.map.inside.blocks.items))
    (block_within c.map.inside.blocks.items at (key, n)
    (subst (λ l. Contains (get_or l at []) (key, n)) c.as_slice.ensures.value
    (c.block_beside.ensures n (subst (λ l. at_key (joined l) key ≡ Some n) (sym c.as_slice.ensures.value) e)))))
