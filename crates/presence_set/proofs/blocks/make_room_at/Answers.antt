use Rattle.std.proofs.Common.{◌≡◌, ◌+◌, ◌∙◌, [], suc, refl, sym, ap, subst, drop, get_or, arith}
use Rattle.std.proofs.lemmas.Result.{on_ok_weaker}
use Rattle.presence_set.specs.Blocks.{pairs_in, AreNonEmpty, HasSpareRoom, AllHaveRoom}
use Rattle.presence_set.proofs.BlockLaws.{a_block, grown-pairs_in, grown-filled, grown-rooms, rooms-on, get-set}
use Rattle.presence_set.proofs.blocks.make_room_at.Goals as goal

pub returns-in-None-clause-same : goal.returns-in-None-clause-same
returns-in-None-clause-same g c =
    let rest = c.args.rest.now.items in
    let at = c.args.at in
    ap pairs_in c.grow_at.ensures.same.1 ∙ grown-pairs_in rest at ((get_or rest at ([], 0)).0, c.grow_at.ensures.same.0) ([], 0) refl

pub returns-in-None-clause-filled : goal.returns-in-None-clause-filled
returns-in-None-clause-filled g c =
    let rest = c.args.rest.now.items in
    let at = c.args.at in
    subst AreNonEmpty (sym c.grow_at.ensures.same.1)
    (grown-filled rest at ((get_or rest at ([], 0)).0, c.grow_at.ensures.same.0) ([], 0) c.requires.known refl c.requires.filled)

pub returns-in-None-clause-room : goal.returns-in-None-clause-room
returns-in-None-clause-room g c =
    let rest = c.args.rest.now.items in
    let at = c.args.at in
    let one : suc at ≡ at + 1 = omega arith in
    let new = a_block ((get_or rest at ([], 0)).0) c.grow_at.ensures.same.0 in
    let is : get_or c.grow_at.new.rest.items at ([], 0) ≡ new = ap (λ l. get_or l at ([], 0)) c.grow_at.ensures.same.1 ∙ get-set rest at new ([], 0) c.requires.known in
    on_ok_weaker c.grow_at.result
    (λ room. subst (λ l. AllHaveRoom (drop at l)) (sym c.grow_at.ensures.same.1)
    (grown-rooms rest at new c.requires.known (subst (λ n. AllHaveRoom (drop n rest)) (sym one) c.requires.later) (subst HasSpareRoom is room)))
    c.grow_at.ensures.room

pub returns-then-has_room-clause-room : goal.returns-then-has_room-clause-room
returns-then-has_room-clause-room g c =
    let rest = c.args.rest.now.items in
    let one : suc c.args.at ≡ c.args.at + 1 = omega arith in
    rooms-on rest c.args.at c.index.result.now c.requires.known (subst HasSpareRoom c.index.ensures (c.if-has_room.ensures.0 refl))
    (subst (λ n. AllHaveRoom (drop n rest)) (sym one) c.requires.later)
