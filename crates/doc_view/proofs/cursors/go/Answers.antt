use Rattle.std.proofs.lemmas.Result.{err_from_is_err_and}
use Rattle.doc_view.proofs.Indexed.{goes_nowhere}
use Rattle.doc_view.proofs.OnWay.{known_in_map}
use Rattle.doc_view.proofs.cursors.go.Goals as goal

pub returns-in_err-may_go_on-clause-goes : goal.returns-in_err-may_go_on-clause-goes
returns-in_err-may_go_on-clause-goes c =
    let exit = err_from_is_err_and c.from_residual.result c.from_residual.ensures.1 in
    rw (exit.1, exit.2) (λ other. goes_nowhere c.args.tree.now c.args.from c.args.step.now c.in_err-may_go_on.field-0.0 c.in_err-may_go_on.ensures)

pub returns-in-Get-clause-known : goal.returns-in-Get-clause-known
returns-in-Get-clause-known c = known_in_map c.args.tree.now c.args.from c.args.known.now c.to_text.result c.to_text.ensures.path c.requires
