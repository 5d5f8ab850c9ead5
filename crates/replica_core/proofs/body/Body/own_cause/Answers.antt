use Rattle.std.proofs.Common.{◌≡◌, List, nat_le, not, ◌&&◌, ◌∷◌, length, Result, refl, sym, ap, ◌∙◌}
use Rattle.std.specs.Prelude.{⊤}
use Rattle.json_scalar.specs.Refusal.{and_then}
use Rattle.doc_api.specs.Words.{Refusal, Cursor, Mutation, Op}
use Rattle.op_core.specs.Shape.{is_head, ends_in_list}
use Rattle.crdt_rules.specs.Effect.{is_insertion}
use Rattle.crdt_rules.specs.Fits.{replicas}
use Rattle.op_core.specs.Limits.{most_operations, most_replicas}
use Rattle.doc_rules.specs.Cause.{room_cause}
use Rattle.doc_rules.specs.Events.{expected_by_cause, expected_of_change}
use Rattle.doc_rules.specs.Replica.{Replica, own_op}
use Rattle.replica_core.specs.Outcomes.{first_place_cause}
use Rattle.replica_core.specs.Whole.{replica_with}
use Rattle.replica_core.proofs.Owning.{changed_by_causes}
use Rattle.replica_core.proofs.body.Body.own_cause.Goals as goal

-- the expected outcome of a change, by the causes against its place and its room
by_both_causes : (r : Replica) (c : Cursor) (m : Mutation) (place : Result ⊤ Refusal)
    → place ≡ first_place_cause (is_insertion m && not (ends_in_list c.path)) (not (is_insertion m) && is_head c.key)
    → expected_of_change r c m ≡ expected_by_cause (and_then place (λ _. room_cause (own_op r c m) r.log)) (own_op r c m)
by_both_causes r c m place is =
    let op = own_op r c m in
    changed_by_causes (is_insertion m && not (ends_in_list c.path)) (not (is_insertion m) && is_head c.key) (nat_le (length (op ∷ r.log)) most_operations)
    (nat_le (length (replicas (op ∷ r.log))) most_replicas) op
    ∙ ap (λ (a : Result ⊤ Refusal). expected_by_cause (and_then a (λ _. room_cause op r.log)) op) (sym is)

pub returns-in-Ok : goal.returns-in-Ok
returns-in-Ok c =
    let r = replica_with c.args.name.now c.args.self.now in
    let op = own_op r c.args.cursor.now c.args.mutation.now in
    by_both_causes r c.args.cursor.now c.args.mutation.now _ c.in-Ok.ensures
    ∙ ap (λ (a : Result ⊤ Refusal). expected_by_cause a op) (ap (λ (l : List Op). room_cause op l) (sym c.log.ensures.log) ∙ sym (c.check_room.ensures op refl))

pub returns-in-Err : goal.returns-in-Err
returns-in-Err c =
    by_both_causes (replica_with c.args.name.now c.args.self.now) c.args.cursor.now c.args.mutation.now _ c.in-Err.ensures
