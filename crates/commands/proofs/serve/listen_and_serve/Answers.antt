use Rattle.std.proofs.Common.{◌≡◌, ◌∙◌, ap, map, sym, subst}
use Rattle.commands.specs.Server.{ServesFrom}
use Rattle.commands.proofs.Closed.{serves_from}
use Rattle.commands.proofs.serve.listen_and_serve.Goals as goal

pub returns-clause-served : goal.returns-clause-served
returns-clause-served g c = λ zero.
    let asked = c.args.asked.now in
    let out_before = g.W.Write.contents c.args.out.now in
    let out_after = g.W.Write.contents c.serve_over-status.new.out in
    let admission = c.new-entrance.result.admission in
    let stays : admission.stays ≡ asked.terms.stays = ap (λ a. a.stays) c.new-entrance.ensures ∙ c.admission_of.ensures.stays in
    rw c.in-Ok.is (subst (λ names. ServesFrom g.L.StoredLog c.in-Ok.stored asked.name.now (map (λ s. s.now) names) asked.terms.sessions asked.terms.stays out_before out_after) c.deref.ensures.value
    (serves_from g.L.StoredLog _ _ asked.terms.stays (λ a. a.entrance.now.admission ≡ admission)
    (λ a b is after. (sym stays ∙ ap (λ a. a.stays) (sym is) ∙ after.0, after.1 ∙ is))
    _ _ _ _ c.in-Ok.stored _ _ _ (g.W.Write.contents c.listen.new.out) out_after
    c.in-Ok-connections.ensures.same c.in-Ok-connections.ensures.count c.in-Some.ensures (c.serve_over-status.ensures.closed zero) (c.serve_over-status.ensures.served zero)))
