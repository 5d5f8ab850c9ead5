use Rattle.std.proofs.Common.{map, sym, ap, ◌∙◌, arith}
use Rattle.served_log.specs.Named.{is_known, replica_name}
use Rattle.served_log.proofs.OwnNames.{is_given_out}
use Rattle.served_log.proofs.replica_name.next_replica_name.Goals as goal

pub returns-then-not-known-clause-raised : goal.returns-then-not-known-clause-raised
returns-then-not-known-clause-raised g c =
    let up = c.in_ok-epoch.ensures.ok in
    let before = c.loop-epoch.invariant.kept in
    let same = up.2 ∙ before.same_docs in
    let names = map (λ s. s.now) c.args.documents.now in record {
      named = c.in_ok-replica.ensures.ok ∙ ap (replica_name c.args.name.now) (sym up.1);
      raised = omega (arith, up.0, up.1, before.no_less);
      given_out = is_given_out c.in_ok-epoch.epoch (g.L.StoredLog.log c.loop-epoch.stored).has_failed (g.L.StoredLog.log c.loop-epoch.stored).epoch
          (g.L.StoredLog.log c.epoch_up.new.self).epoch c.in_ok-epoch.ensures.refused c.in_ok-epoch.ensures.shut (up.1 ∙ up.0);
      unknown = ap (λ docs. is_known c.in_ok-replica.replica docs names) (sym same) ∙ sym c.in_ok-known.ensures.ok ∙ c.if-not-known.true;
      kept = same;
    }
