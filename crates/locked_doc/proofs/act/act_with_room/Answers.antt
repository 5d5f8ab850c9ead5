use Rattle.std.proofs.Common.{◌+◌, ◌≤◌, length, vec_capacity, vec_len, arith}
use Rattle.locked_doc.proofs.Growth.{event_grows}
use Rattle.locked_doc.proofs.act.act_with_room.Goals as goal

pub returns-then-makes_room-clause-grows : goal.returns-then-makes_room-clause-grows
returns-then-makes_room-clause-grows c =
    let grown = event_grows c.args.replica.now c.act.new.self c.args.command c.act.result c.requires c.act.ensures.event in
    (grown.longer, grown.within)

pub returns-then-makes_room-clause-seats_room : goal.returns-then-makes_room-clause-seats_room
returns-then-makes_room-clause-seats_room c =
    let grown = event_grows c.args.replica.now c.act.new.self c.args.command c.act.result c.requires c.act.ensures.event in
    let within : length c.act.new.self.log ≤ length c.args.replica.now.log + 257 = grown.within in
    let room : vec_len c.makes_room.new.seats_of + 257 ≤ vec_capacity c.makes_room.new.seats_of = c.makes_room.ensures.seats_room c.if-makes_room.true in
    omega (arith, grown.longer, within, room)

pub returns-then-makes_room-clause-ids_room : goal.returns-then-makes_room-clause-ids_room
returns-then-makes_room-clause-ids_room c =
    let grown = event_grows c.args.replica.now c.act.new.self c.args.command c.act.result c.requires c.act.ensures.event in
    let within : length c.act.new.self.log ≤ length c.args.replica.now.log + 257 = grown.within in
    let room : vec_len c.makes_room.new.ids + 257 ≤ vec_capacity c.makes_room.new.ids = c.makes_room.ensures.ids_room c.if-makes_room.true in
    omega (arith, grown.longer, within, room)
