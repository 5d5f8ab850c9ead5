use Rattle.std.proofs.Common.{◌≡◌, ◌<◌, ◌≤◌, ◌+◌, [], ◌⊎◌, ◌∙◌, inl, inr, ⊎_elim, sym, ap, subst, length, arith, ◌++◌, ◌∷◌, get_or, set, insert, Contains}
use Rattle.list_laws.proofs.Members.{Contains-insert_old}
use Rattle.key_map.specs.KeyOrder.{key_rank}
use Rattle.key_map.proofs.Gone.{but_gone-kept, more_in, more_behind}
use Rattle.key_map.specs.Blocks.{joined, but_gone, block_rank, AreBlocks}
use Rattle.key_map.proofs.BlockLaws.{block_rank-within, rising_at, joined-open, blocks-open, joined-own, blocks-own, either_way}
use Rattle.std.proofs.lemmas.Result.{on_ok_weaker}
use Rattle.key_map.proofs.blocks.add_entry.Goals as goal

pub open_block-requires : goal.open_block-requires
open_block-requires g c =
    let blocks = c.args.blocks.now.items in
    subst (λ l. c.args.at ≤ length l) (sym c.as_slice.ensures.value) (subst (λ n. n ≤ length blocks) (sym c.requires.at) (block_rank-within c.args.key blocks))

pub put_in-requires-clause-rising : goal.put_in-requires-clause-rising
put_in-requires-clause-rising g c =
    let blocks = c.args.blocks.now.items in
    rising_at blocks c.requires.blocks.rising c.in-Some.open [] (subst (λ l. c.in-Some.open < length l) c.as_slice.ensures.value c.in-Some.ensures.open.0)

pub returns-in-Some-clause-ok : goal.returns-in-Some-clause-ok
returns-in-Some-clause-ok g c =
    let blocks = c.args.blocks.now.items in
    let key = c.args.key in
    let n = c.in-Some.open in
    let within : n < length blocks = subst (λ l. n < length l) c.as_slice.ensures.value c.in-Some.ensures.open.0 in
    let at : c.args.at ≡ block_rank key blocks = c.requires.at in
    let which : (n ≡ block_rank key blocks) ⊎ ((n + 1 ≡ block_rank key blocks) × (block_rank key blocks ≡ length blocks)) =
    ⊎_elim (λ here. inl (here ∙ at)) (λ last. inr (last.0 ∙ at, sym at ∙ last.1 ∙ ap length c.as_slice.ensures.value)) c.in-Some.ensures.open.1 in
    on_ok_weaker c.put_in.result (λ is. ap joined is ∙ joined-open key c.args.value blocks c.requires.blocks n within which) c.put_in.ensures.ok

pub returns-in-Some-clause-blocks : goal.returns-in-Some-clause-blocks
returns-in-Some-clause-blocks g c =
    let blocks = c.args.blocks.now.items in
    let key = c.args.key in
    let n = c.in-Some.open in
    let within : n < length blocks = subst (λ l. n < length l) c.as_slice.ensures.value c.in-Some.ensures.open.0 in
    let at : c.args.at ≡ block_rank key blocks = c.requires.at in
    let which : (n ≡ block_rank key blocks) ⊎ ((n + 1 ≡ block_rank key blocks) × (block_rank key blocks ≡ length blocks)) =
    ⊎_elim (λ here. inl (here ∙ at)) (λ last. inr (last.0 ∙ at, sym at ∙ last.1 ∙ ap length c.as_slice.ensures.value)) c.in-Some.ensures.open.1 in
    either_way c.put_in.result
    (λ is. subst AreBlocks (sym is) (blocks-open key c.args.value blocks c.requires.blocks c.requires.missing n within which))
    (λ is. subst AreBlocks (sym is) c.requires.blocks)
    c.put_in.ensures.ok c.put_in.ensures.err

pub returns-in-None-clause-ok : goal.returns-in-None-clause-ok
returns-in-None-clause-ok g c =
    let blocks = c.args.blocks.now.items in
    let key = c.args.key in
    let past : block_rank key blocks ≡ length blocks =
    sym c.requires.at ∙ c.in-None.ensures.none ∙ ap length c.as_slice.ensures.value in
    on_ok_weaker c.put_behind.result (λ is. ap joined is ∙ joined-own key c.args.value blocks c.requires.blocks (omega (arith, past))) c.put_behind.ensures.ok

pub returns-in-None-clause-blocks : goal.returns-in-None-clause-blocks
returns-in-None-clause-blocks g c =
    let blocks = c.args.blocks.now.items in
    let key = c.args.key in
    let past : block_rank key blocks ≡ length blocks =
    sym c.requires.at ∙ c.in-None.ensures.none ∙ ap length c.as_slice.ensures.value in
    either_way c.put_behind.result
    (λ is. subst AreBlocks (sym is) (blocks-own key c.args.value blocks c.requires.blocks c.requires.missing (omega (arith, past))))
    (λ is. subst AreBlocks (sym is) c.requires.blocks)
    c.put_behind.ensures.ok c.put_behind.ensures.err

pub returns-in-Some-clause-kept : goal.returns-in-Some-clause-kept
returns-in-Some-clause-kept g c = λ gone e.
    let blocks = c.args.blocks.now.items in
    let n = c.in-Some.open in
    let within : n < length blocks = subst (λ l. n < length l) c.as_slice.ensures.value c.in-Some.ensures.open.0 in
    let rank = key_rank (get_or blocks n []) c.args.key in
    either_way c.put_in.result
    (λ is there. subst (λ l. Contains (joined (but_gone gone l)) e) (sym is)
    (but_gone-kept gone gone blocks (set blocks n (insert (get_or blocks n []) rank (c.args.key, c.args.value))) e (λ m x. x)
    (more_in blocks n (insert (get_or blocks n []) rank (c.args.key, c.args.value)) e within
    (Contains-insert_old (get_or blocks n []) rank (c.args.key, c.args.value)))
    there))
    (λ is there. subst (λ l. Contains (joined (but_gone gone l)) e) (sym is) there)
    c.put_in.ensures.ok c.put_in.ensures.err

pub returns-in-None-clause-kept : goal.returns-in-None-clause-kept
returns-in-None-clause-kept g c = λ gone e.
    let blocks = c.args.blocks.now.items in
    either_way c.put_behind.result
    (λ is there. subst (λ l. Contains (joined (but_gone gone l)) e) (sym is)
    (but_gone-kept gone gone blocks (blocks ++ ((c.args.key, c.args.value) ∷ []) ∷ []) e (λ m x. x)
    (more_behind blocks ((c.args.key, c.args.value) ∷ []) e) there))
    (λ is there. subst (λ l. Contains (joined (but_gone gone l)) e) (sym is) there)
    c.put_behind.ensures.ok c.put_behind.ensures.err
