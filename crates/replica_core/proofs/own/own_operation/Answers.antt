use Rattle.std.proofs.Common.{◌≡◌, ◌+◌, ◌≤◌, true, Ok, Err, [], ◌∷◌, List, length, sym, ap, subst, ◌∙◌, arith}
use Rattle.std.proofs.lemmas.Result.{err_from_is_err_and}
use Rattle.version_vector.specs.Front.{max_counter}
use Rattle.op_core.specs.Op.{Op}
use Rattle.op_core.specs.Shape.{is_shaped}
use Rattle.crdt_rules.specs.Pull.{front_of}
use Rattle.doc_rules.specs.Replica.{own_op}
use Rattle.doc_rules.proofs.WholeFront.{max_counter_below}
use Rattle.replica_core.specs.Whole.{replica_of}
use Rattle.hold_buffer.proofs.Waiting.{other_is_memory}
use Rattle.replica_core.proofs.Lacking.{answered}
use Rattle.replica_core.proofs.own.own_operation.Goals as goal

pub returns-in_err-front : goal.returns-in_err-front
returns-in_err-front c =
    let exit = err_from_is_err_and c.from_residual.result c.from_residual.ensures.1 in
    rw (exit.1, exit.2)
    (λ other.
    absurd (other_is_memory c.front.result c.in_err-front.field-0.0 (front_of c.args.log.now.operations) c.front.ensures c.in_err-front.was
    (λ memory. other (ap Err memory))))

few_more : (op : Op) (log : List Op) → length (op ∷ log) ≤ 100000 → length log + 1 ≤ 100000
few_more op log h = omega arith

pub next_id-id-requires : goal.next_id-id-requires
next_id-id-requires c =
    let front : c.in_ok-front.front ≡ front_of c.args.log.now.operations = answered c.in_ok-front.ensures in
    let few : length c.args.log.now.operations + 1 ≤ 100000 = few_more (own_op (replica_of c.args.name c.args.log.now.operations []) c.args.cursor c.args.mutation) c.args.log.now.operations c.requires.room.operations in
    omega (arith, ap max_counter front, max_counter_below c.args.log.now.operations c.keeps_good.ensures, few)

pub new-requires : goal.new-requires
new-requires c =
    let front : c.in_ok-front.front ≡ front_of c.args.log.now.operations = answered c.in_ok-front.ensures in
    let counter = c.next_id-id.ensures.0 ∙ ap (λ f. max_counter f + 1) front in
    let made : Op = record { id = c.next_id-id.result; front = c.in_ok-front.front; cursor = c.args.cursor; mutation = c.args.mutation } in
    let same : made ≡ own_op (replica_of c.args.name c.args.log.now.operations []) c.args.cursor c.args.mutation =
    λ i. record { id = record { counter = counter i; replica = c.next_id-id.ensures.1 i }; front = front i; cursor = c.args.cursor; mutation = c.args.mutation } in
    record { shaped = subst (λ (o : Op). is_shaped o ≡ true) (sym same) c.requires.shape }

pub returns : goal.returns
returns c other =
    let front : c.in_ok-front.front ≡ front_of c.args.log.now.operations = answered c.in_ok-front.ensures in
    let counter = c.next_id-id.ensures.0 ∙ ap (λ f. max_counter f + 1) front in
    c.new.ensures.parts other ∙ ap Ok
    (λ i. record { id = record { counter = counter i; replica = c.next_id-id.ensures.1 i }; front = front i; cursor = c.args.cursor; mutation = c.args.mutation })
