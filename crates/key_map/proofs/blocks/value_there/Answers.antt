use Rattle.std.proofs.Common.{rules, ◌≡◌, ◌<◌, ◌≤◌, ◌∙◌, [], Contains, sym, ap, subst, length, get_or}
use Rattle.key_map.specs.ByKey.{at_key}
use Rattle.key_map.specs.KeyOrder.{IsInKeyOrder, key_rank}
use Rattle.key_map.proofs.BlockLaws.{rising_at, at_key-there, at_key-past, at_key-block, where_some}
use Rattle.key_map.proofs.blocks.value_there.Goals as goal

pub value_here-requires : goal.value_here-requires
value_here-requires g c =
    let blocks = c.args.blocks.now in
    let at = c.args.hint.block in
    let within : at < length blocks = search rules in
    let is : c.as_slice.result.now ≡ get_or blocks at [] = search rules in
    subst IsInKeyOrder (sym is) (rising_at blocks c.requires.rising at [] within)

pub returns-in-None-clause-sought : goal.returns-in-None-clause-sought
returns-in-None-clause-sought g c = λ block place.
    let blocks = c.args.blocks.now in
    let past : length blocks ≤ c.args.hint.block = search rules in
    sym (at_key-past c.args.key.now blocks c.requires (subst (λ n. length blocks ≤ n) block past))

pub returns-in-Some-clause-found : goal.returns-in-Some-clause-found
returns-in-Some-clause-found g c =
    let blocks = c.args.blocks.now in
    let key = c.args.key.now in
    let at = c.args.hint.block in
    let within : at < length blocks = search rules in
    let is : c.as_slice.result.now ≡ get_or blocks at [] = search rules in
    where_some c.value_here.result (λ value has. at_key-there blocks c.requires at key value within (subst (λ l. Contains l (key, value)) is has)) c.value_here.ensures.found

pub returns-in-Some-clause-sought : goal.returns-in-Some-clause-sought
returns-in-Some-clause-sought g c = λ block place.
    let blocks = c.args.blocks.now in
    let key = c.args.key.now in
    let at = c.args.hint.block in
    let within : at < length blocks = search rules in
    let is : c.as_slice.result.now ≡ get_or blocks at [] = search rules in
    c.value_here.ensures.sought (place ∙ ap (λ l. key_rank l key) (sym is))
    ∙ ap (λ l. at_key l key) (is ∙ ap (λ n. get_or blocks n []) block)
    ∙ sym (at_key-block key blocks c.requires (subst (λ n. n < length blocks) block within))
