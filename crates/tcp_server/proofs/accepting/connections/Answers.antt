use Rattle.std.proofs.Common.{◌≡◌, rules, refl, sym, subst}
use Rattle.std.specs.List.{All}
use Rattle.std.proofs.lemmas.List.Elements.{All-nil, All-push}
use Rattle.tcp_server.proofs.accepting.connections.Goals as goal

pub loop-init : goal.loop-init
loop-init g c =
    record {
      count = search rules;
      same = subst (All (λ a. a.entrance.now.admission ≡ c.args.entrance.now.admission)) (sym c.in_ok-all.ensures.items) (All-nil (λ a. a.entrance.now.admission ≡ c.args.entrance.now.admission));
    }

pub loop-preserved : goal.loop-preserved
loop-preserved g c =
    record {
      count = search rules;
      same = subst (All (λ a. a.entrance.now.admission ≡ c.args.entrance.now.admission)) (sym c.in_ok-push.ensures.items) (All-push (λ a. a.entrance.now.admission ≡ c.args.entrance.now.admission) _ _ c.loop.invariant.same refl);
    }
