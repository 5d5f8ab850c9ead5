use Rattle.std.proofs.lemmas.Result.{err_from_is_err_and}
use Rattle.line_proto.proofs.Pieces.{cut-longer}
use Rattle.line_proto.proofs.pending.put.Goals as goal

pub returns-in_err-make_room-clause-cut : goal.returns-in_err-make_room-clause-cut
returns-in_err-make_room-clause-cut g c =
    let exit = err_from_is_err_and c.from_residual.result c.from_residual.ensures.1 in
    rw exit.1 (cut-longer _ _ c.args.piece.now.bytes c.args.text.now c.in_err-make_room.ensures.cut)
