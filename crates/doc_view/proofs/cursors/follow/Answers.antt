use Rattle.std.proofs.Common.{◌+◌, List, drop, Ok, Err, refl, subst, sym}
use Rattle.std.proofs.lemmas.List.{drop_all}
use Rattle.std.proofs.lemmas.Result.{err_from_is_err_and}
use Rattle.doc_api.specs.declared.place.Step.{Step}
use Rattle.doc_tree.specs.Nodes.{tree_facts}
use Rattle.doc_rules.specs.Resolve.{Leads}
use Rattle.doc_view.proofs.Leading.{leads_err, leads_step}
use Rattle.doc_view.proofs.cursors.follow.Goals as goal

pub returns-in_err-cursor : goal.returns-in_err-cursor
returns-in_err-cursor c =
    let exit = err_from_is_err_and c.from_residual.result c.from_residual.ensures.1 in
    let f = tree_facts c.args.tree.now in
    let steps = c.args.steps.now in
    let i = c.loop-step.step-index in
    let e = c.in_err-cursor.field-0.0 in
    rw (exit.1, exit.2)
    (λ other. c.loop-step.invariant.0 (Err e)
    (leads_step f steps i c.step-item.result c.loop-step.cursor (Err e) (Err e) c.loop-step-test.true c.step-item.is (c.in_err-cursor.ensures.goes other)
    (leads_err f (drop (i + 1) steps) e)))

pub loop-step-init : goal.loop-step-init
loop-step-init c = (λ r h. h, tt)

pub loop-step-preserved : goal.loop-step-preserved
loop-step-preserved c = (
  λ r h.
      c.loop-step.invariant.0 r
      (leads_step (tree_facts c.args.tree.now) c.args.steps.now c.loop-step.step-index c.step-item.result c.loop-step.cursor (Ok c.in_ok-cursor.cursor) r
      c.loop-step-test.true c.step-item.is (c.in_ok-cursor.ensures.goes (λ e. absurd (cc))) h),
  c.in_ok-cursor.ensures.known,
)

pub returns : goal.returns
returns c = λ other.
    c.loop-step.invariant.0 (Ok c.loop-step.cursor)
    (subst (λ (steps : List Step). Leads (tree_facts c.args.tree.now) steps (Ok c.loop-step.cursor) (Ok c.loop-step.cursor))
    (sym (drop_all c.loop-step.step-index c.args.steps.now c.loop-step-test.false)) refl)
