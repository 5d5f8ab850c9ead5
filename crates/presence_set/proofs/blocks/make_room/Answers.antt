use Rattle.std.proofs.Common.{sym, subst}
use Rattle.presence_set.specs.Blocks.{AllHaveRoom}
use Rattle.std.proofs.lemmas.Result.{on_ok_weaker}
use Rattle.presence_set.proofs.BlockLaws.{rooms-whole}
use Rattle.presence_set.proofs.blocks.make_room.Goals as goal

pub returns-in-InRest-clause-room : goal.returns-in-InRest-clause-room
returns-in-InRest-clause-room g c =
    let but = rw c.in-InRest.is at c.requires.room in
    on_ok_weaker c.make_room_at.result
    (λ room. (but.0, rooms-whole c.in-InRest.at c.make_room_at.new.rest.items (subst AllHaveRoom (sym c.make_room_at.ensures.earlier) but.2) room))
    c.make_room_at.ensures.room
