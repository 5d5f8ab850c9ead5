use Rattle.std.proofs.Common.{◌≡◌, ◌++◌, ◌∙◌, sym, ap, subst, map, filter, not}
use Rattle.doc_api.specs.Words.{id_cmp}
use Rattle.version_vector.specs.Front.{covers}
use Rattle.list_laws.proofs.Rising.{rising-filter}
use Rattle.presence_set.specs.ById.{uncovered, IsAscending}
use Rattle.presence_set.specs.Blocks.{pairs_in, has_pair, blocks_in, lack_in, AreNonEmpty, HasSpareRoom, AllHaveRoom, HaveRoomFor}
use Rattle.presence_set.proofs.BlockLaws.{uncovered-append, pairs_in-cleared, filled-filled, room-cleared, rooms-cleared, rooms-settled}
use Rattle.presence_set.proofs.id_blocks.IdBlocks.retain_uncovered.Goals as goal

pub invariant_of-self : goal.invariant_of-self
invariant_of-self g c =
    let front = c.args.front.now in
    let first = c.self.inside.first in
    let rest = blocks_in c.self.inside.later in
    let new = blocks_in c.retain_among.new.later in
    let blocks : new ≡ filter (λ b. has_pair b.0) (map (λ b. (uncovered front b.0, b.1)) rest) = c.retain_among.ensures.blocks in
    let all : c.retain_among.new.first.0 ++ pairs_in new ≡ uncovered front (first.0 ++ pairs_in rest) =
    ap (λ z. z.0 ++ pairs_in new) c.retain_among.ensures.first ∙ ap (λ l. uncovered front first.0 ++ pairs_in l) blocks
    ∙ ap (λ l. uncovered front first.0 ++ l) (pairs_in-cleared front rest) ∙ sym (uncovered-append front first.0 (pairs_in rest)) in
    record {
      rising = subst IsAscending (sym all) (rising-filter id_cmp (λ e. e.0) (λ e. not (covers front e.0)) (first.0 ++ pairs_in rest) c.self.invariant.rising);
      filled = subst AreNonEmpty (sym blocks) (filled-filled (map (λ b. (uncovered front b.0, b.1)) rest));
      room = subst (λ l. HaveRoomFor c.self.inside.has_room l c.retain_among.new.first new) (sym c.retain_among.ensures.lack)
          (rooms-settled c.self.inside.has_room (lack_in c.self.inside.later) first c.retain_among.new.first rest new c.self.invariant.room
          (λ room. subst HasSpareRoom (sym c.retain_among.ensures.first) (room-cleared front first room))
          (λ room. subst AllHaveRoom (sym blocks) (rooms-cleared front rest room)));
    }

pub returns : goal.returns
returns g c =
    let front = c.args.front.now in
    let first = c.self.inside.first in
    let rest = blocks_in c.self.inside.later in
    let new = blocks_in c.retain_among.new.later in
    let blocks : new ≡ filter (λ b. has_pair b.0) (map (λ b. (uncovered front b.0, b.1)) rest) = c.retain_among.ensures.blocks in
    let all : c.retain_among.new.first.0 ++ pairs_in new ≡ uncovered front (first.0 ++ pairs_in rest) =
    ap (λ z. z.0 ++ pairs_in new) c.retain_among.ensures.first ∙ ap (λ l. uncovered front first.0 ++ pairs_in l) blocks
    ∙ ap (λ l. uncovered front first.0 ++ l) (pairs_in-cleared front rest) ∙ sym (uncovered-append front first.0 (pairs_in rest)) in
    rw (← c.self.view_is) (λ i. (all i, c.self.inside.has_room))
