use Rattle.std.proofs.KnownBytes.{Appends-trans}
use Rattle.std.proofs.lemmas.Result.{err_from_is_err_and, on_ok_weaker, on_err_weaker}
use Rattle.line_proto.proofs.Pieces.{cut-longer, cut-behind}
use Rattle.line_proto.proofs.text_line.write_both.Goals as goal

pub returns-in_err-write_all-clause-cut : goal.returns-in_err-write_all-clause-cut
returns-in_err-write_all-clause-cut g c =
    let exit = err_from_is_err_and c.from_residual.result c.from_residual.ensures.1 in
    rw exit.1 (cut-longer _ _ c.args.first.now c.args.second.now c.in_err-write_all.ensures.cut)

pub returns-clause-ok : goal.returns-clause-ok
returns-clause-ok g c =
    on_ok_weaker c.write_all-2.result (λ last. Appends-trans _ _ _ c.args.first.now c.args.second.now c.in_ok-write_all.ensures.ok last) c.write_all-2.ensures.ok

pub returns-clause-cut : goal.returns-clause-cut
returns-clause-cut g c =
    on_err_weaker c.write_all-2.result (λ last. cut-behind _ _ _ c.args.first.now c.args.second.now c.in_ok-write_all.ensures.ok last) c.write_all-2.ensures.cut
