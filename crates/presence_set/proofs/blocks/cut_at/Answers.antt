use Rattle.std.proofs.Common.{◌≡◌, ◌<◌, ◌+◌, ◌∙◌, [], suc, refl, sym, ap, subst, length, take, drop, set, get_or, arith}
use Rattle.std.specs.Prelude.{insert}
use Rattle.std.proofs.lemmas.List.{take-append-drop}
use Rattle.std.proofs.lemmas.Result.{on_ok_weaker}
use Rattle.presence_set.specs.Blocks.{pairs_in, AreNonEmpty, HasSpareRoom, AllHaveRoom}
use Rattle.presence_set.proofs.BlockLaws.{a_block, split-pairs_in, split-filled, split-rooms, split-length, grown-pairs_in, grown-filled, low_has, high_has, get-set, take-short}
use Rattle.presence_set.proofs.blocks.cut_at.Goals as goal

pub returns-clause-same : goal.returns-clause-same
returns-clause-same g c =
    let rest = c.args.rest.now.items in
    let at = c.args.at in
    let block = get_or rest at ([], 0) in
    let cut = c.in_ok-split_at.ensures.ok in
    let one : suc at ≡ at + 1 = omega arith in
    ap pairs_in c.grow_at.ensures.same.1
    ∙ grown-pairs_in c.split_at.new.rest.items (at + 1) ((get_or c.split_at.new.rest.items (at + 1) ([], 0)).0, c.grow_at.ensures.same.0) ([], 0) refl
    ∙ ap pairs_in (cut.3 ∙ ap (λ n. insert (set rest at (take c.args.place block.0, cut.0)) n (drop c.args.place block.0, cut.2)) (sym one))
    ∙ split-pairs_in rest at (take c.args.place block.0, cut.0) (drop c.args.place block.0, cut.2) ([], 0) c.requires.known (take-append-drop c.args.place block.0)

pub returns-clause-filled : goal.returns-clause-filled
returns-clause-filled g c =
    let rest = c.args.rest.now.items in
    let at = c.args.at in
    let block = get_or rest at ([], 0) in
    let cut = c.in_ok-split_at.ensures.ok in
    let one : suc at ≡ at + 1 = omega arith in
    let low = a_block (take c.args.place block.0) cut.0 in
    let high = a_block (drop c.args.place block.0) cut.2 in
    let are : c.split_at.new.rest.items ≡ insert (set rest at low) (suc at) high = cut.3 ∙ ap (λ n. insert (set rest at low) n high) (sym one) in
    let within : at + 1 < length c.split_at.new.rest.items =
    omega (arith, c.requires.known, one, ap length are, split-length rest at low high c.requires.known) in
    let filled = split-filled rest at (take c.args.place block.0, cut.0) (drop c.args.place block.0, cut.2) c.requires.known c.requires.filled
    (low_has c.args.place block.0 c.requires.some c.requires.inside) (high_has c.args.place block.0 c.requires.inside) in
    subst AreNonEmpty (sym c.grow_at.ensures.same.1)
    (grown-filled c.split_at.new.rest.items (at + 1) ((get_or c.split_at.new.rest.items (at + 1) ([], 0)).0, c.grow_at.ensures.same.0) ([], 0) within refl
    (subst AreNonEmpty (sym (cut.3 ∙ ap (λ n. insert (set rest at (take c.args.place block.0, cut.0)) n (drop c.args.place block.0, cut.2)) (sym one))) filled))

pub returns-clause-room : goal.returns-clause-room
returns-clause-room g c =
    let rest = c.args.rest.now.items in
    let at = c.args.at in
    let block = get_or rest at ([], 0) in
    let cut = c.in_ok-split_at.ensures.ok in
    let one : suc at ≡ at + 1 = omega arith in
    let low = a_block (take c.args.place block.0) cut.0 in
    let high = a_block (drop c.args.place block.0) cut.2 in
    let are : c.split_at.new.rest.items ≡ insert (set rest at low) (suc at) high = cut.3 ∙ ap (λ n. insert (set rest at low) n high) (sym one) in
    let within : at + 1 < length c.split_at.new.rest.items =
    omega (arith, c.requires.known, one, ap length are, split-length rest at low high c.requires.known) in
    let new = a_block ((get_or c.split_at.new.rest.items (at + 1) ([], 0)).0) c.grow_at.ensures.same.0 in
    let short : length (take c.args.place block.0) < cut.0 = omega (arith, take-short c.args.place block.0, cut.1) in
    let parts : c.grow_at.new.rest.items ≡ set (insert (set rest at (take c.args.place block.0, cut.0)) (suc at) (drop c.args.place block.0, cut.2)) (suc at) new =
    c.grow_at.ensures.same.1 ∙ ap (λ l. set l (at + 1) new) cut.3
    ∙ ap (λ n. set (insert (set rest at (take c.args.place block.0, cut.0)) n (drop c.args.place block.0, cut.2)) n new) (sym one) in
    let is : get_or c.grow_at.new.rest.items (at + 1) ([], 0) ≡ new =
    ap (λ l. get_or l (at + 1) ([], 0)) c.grow_at.ensures.same.1 ∙ get-set c.split_at.new.rest.items (at + 1) new ([], 0) within in
    on_ok_weaker c.grow_at.result
    (λ room. subst (λ l. AllHaveRoom (drop at l)) (sym parts)
    (split-rooms rest at (take c.args.place block.0, cut.0) (drop c.args.place block.0, cut.2) new c.requires.known
    (subst (λ n. AllHaveRoom (drop n rest)) (sym one) c.requires.later) short (subst HasSpareRoom is room)))
    c.grow_at.ensures.room
