use Rattle.std.proofs.Common.{rules, ◌≡◌, ◌<◌, ◌+◌, [], ◌∷◌, ◌++◌, length, take, sym, ap, subst, ◌∙◌, refl}
use Rattle.std.proofs.lemmas.Result.{err_from_is_err_and}
use Rattle.crdt_rules.specs.Fits.{Fits}
use Rattle.crdt_rules.specs.Log.{IsGood}
use Rattle.crdt_rules.proofs.Logs.{good_push}
use Rattle.doc_rules.specs.Cause.{misfit_of}
use Rattle.std.proofs.lemmas.List.{take_more}
use Rattle.converge_laws.proofs.Replays.{first_misfit_at}
use Rattle.converge_laws.proofs.replay.log_of.Goals as goal

pub returns-in_err-log_next-clause-misfit : goal.returns-in_err-log_next-clause-misfit
returns-in_err-log_next-clause-misfit c =
    let ops = c.args.ops.now in
    let op = c.index-ops-i.result in
    let within : c.loop-i.i < length ops = search rules in
    let exit = err_from_is_err_and c.from_residual.result c.from_residual.ensures.1 in
    rw (exit.1, exit.2)
    (λ other.
    first_misfit_at ops c.loop-i.i op c.in_err-log_next.field-0.0 within c.index-ops-i.is c.loop-i.invariant.1
    (ap (misfit_of op) (sym c.loop-i.invariant.0) ∙ c.in_err-log_next.ensures.misfit other))

pub loop-i-preserved : goal.loop-i-preserved
loop-i-preserved c =
    let ops = c.args.ops.now in
    let i = c.loop-i.i in
    let op = c.index-ops-i.result in
    let within : i < length ops = search rules in
    let next : take (i + 1) ops ≡ take i ops ++ op ∷ [] = take_more ops i op within ∙ ap (λ o. take i ops ++ o ∷ []) (sym c.index-ops-i.is) in (
      c.in_ok-log_next.ensures.ok ∙ ap (λ l. l ++ op ∷ []) c.loop-i.invariant.0 ∙ sym next,
      subst IsGood (sym next) (good_push (take i ops) op c.loop-i.invariant.1 (subst (Fits op) c.loop-i.invariant.0 (c.in_ok-log_next.ensures.fits refl))),
    )
