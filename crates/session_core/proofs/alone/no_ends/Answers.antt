use Rattle.std.proofs.Common.{◌≡◌, ◌++◌, ◌∷◌, ◌∙◌, [], replicate, None, ap, arith}
use Rattle.session_core.proofs.Ends.{replicate-push}
use Rattle.session_core.proofs.alone.no_ends.Goals as goal

pub loop-preserved : goal.loop-preserved
loop-preserved g c = c.in_ok-push.ensures.items ∙ ap (λ l. l ++ None ∷ []) c.loop.invariant ∙ replicate-push c.loop.counter None

pub returns : goal.returns
returns g c = let all : c.loop.counter ≡ c.args.documents = omega arith in c.loop.invariant ∙ ap (λ n. replicate n None) all
