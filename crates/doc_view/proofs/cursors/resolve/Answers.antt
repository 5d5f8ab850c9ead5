use Rattle.std.proofs.Common.{Result, Ok, Err, subst, ◌∙◌}
use Rattle.std.proofs.lemmas.Result.{err_from_is_err_and}
use Rattle.doc_api.specs.Words.{Refusal, Cursor}
use Rattle.doc_tree.specs.Nodes.{tree_facts}
use Rattle.doc_rules.specs.Resolve.{Leads}
use Rattle.doc_view.proofs.Leading.{leads_err}
use Rattle.doc_view.proofs.cursors.resolve.Goals as goal

pub returns-in_err-from : goal.returns-in_err-from
returns-in_err-from c =
    let exit = err_from_is_err_and c.from_residual.result c.from_residual.ensures.1 in
    let f = tree_facts c.args.tree.now in
    let e = c.in_err-from.field-0.0 in
    rw (exit.1, exit.2)
    (λ other. subst (λ (from : Result Cursor Refusal). Leads f c.args.steps.now from (Err e)) c.in_err-from.ensures (leads_err f c.args.steps.now e))

pub returns : goal.returns
returns c = λ other.
    subst (λ (from : Result Cursor Refusal). Leads (tree_facts c.args.tree.now) c.args.steps.now from c.follow.result)
    ((λ i. Ok (record { path = c.in_ok-reserve.ensures.same i; key = c.in_ok-from.from.key })) ∙ c.in_ok-from.ensures)
    (c.follow.ensures other)
