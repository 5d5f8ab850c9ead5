use Rattle.std.proofs.Common.{◌≡◌, ◌∙◌, ◌++◌, ◌∷◌, [], Ok, Err, sym, ap}
use Rattle.json_scalar.specs.declared.scalar.Scalar.{Scalar as AScalar}
use Rattle.json_scalar.specs.declared.scalar.Val.TheVariants.{Scalar}
use Rattle.doc_api.specs.Words.{NoMemory}
use Rattle.doc_view.proofs.roles.push_scalar.Goals as goal

pub returns : goal.returns
returns c =
    let scalar = c.args.scalar.now in
    let cloned : c.try_clone.result ≡ Ok scalar =
    c.try_clone.ensures (λ memory. let other : Ok c.in_ok-clone.clone ≡ Err NoMemory = sym c.in_ok-clone.was ∙ memory in cc) in
    let both : Ok c.in_ok-clone.clone ≡ Ok scalar = sym c.in_ok-clone.was ∙ cloned in
    let same : c.in_ok-clone.clone ≡ scalar = cc in
    c.in_ok-push.ensures.items ∙ ap (λ (x : AScalar). c.args.values.now.items ++ (c.args.id.now, Scalar x) ∷ []) same
