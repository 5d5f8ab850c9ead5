use Rattle.std.proofs.Common.{◌≡◌, ◌≤◌, suc, length, Some, sym, subst, ◌∙◌, arith, le-leb}
use Rattle.version_vector.specs.Front.{id_of, is_le}
use Rattle.crdt_rules.proofs.GoodLogs.{ids_once}
use Rattle.crdt_rules.proofs.Room.{good_room}
use Rattle.doc_rules.specs.Replica.{find_id}
use Rattle.op_core.specs.Op.{Op}
use Rattle.op_log.proofs.Ids.{any-find_id, any-find_id_none}
use Rattle.op_log.proofs.Indexes.{read_at}
use Rattle.op_log.proofs.Below.{known_covered}
use Rattle.op_log.proofs.log.OpLog.knows_entry.Goals as goal

pub offset_bounds-as_slice-at : goal.offset_bounds-as_slice-at
offset_bounds-as_slice-at c =
    let few : length c.args.self.now.operations ≤ 100000 = (good_room c.args.self.now.operations c.position_of.ensures.good).operations in
    omega (arith, c.in-Some.ensures.within, few)

pub bounds-as_slice-at : goal.bounds-as_slice-at
bounds-as_slice-at c = rw c.as_slice.ensures c.in-Some.ensures.within

pub returns-then-at-covered : goal.returns-then-at-covered
returns-then-at-covered c =
    let log = c.args.self.now.operations in
    let (op, there, found) = rw c.id_of.ensures at c.in-Some.ensures.found in
    le-leb (suc c.in-Some.at) c.args.covered (omega (arith, c.if-at-covered.true))
    ∙ sym (known_covered log c.position_of.ensures.good c.args.front.now c.args.covered c.requires.covered c.in-Some.at op there c.if-at-covered.true c.args.entry found)

pub returns-else-at-covered : goal.returns-else-at-covered
returns-else-at-covered c =
    let log = c.args.self.now.operations in
    let (op, there, found) = rw c.id_of.ensures at c.in-Some.ensures.found in
    let same = read_at log c.in-Some.at op c.index-as_slice-at.result there (rw c.as_slice.ensures at c.index-as_slice-at.is) in
    c.is_front_at_most.ensures
    ∙ sym (any-find_id (λ o. is_le o.front c.args.front.now) log (id_of c.args.entry) c.index-as_slice-at.result (ids_once log c.position_of.ensures.good)
    (subst (λ (o : Op). find_id log (id_of c.args.entry) ≡ Some o) (sym same) found))

pub returns-in-None : goal.returns-in-None
returns-in-None c =
    let found = rw c.id_of.ensures at c.in-None.ensures.found in
    sym (any-find_id_none (λ o. is_le o.front c.args.front.now) c.args.self.now.operations (id_of c.args.entry) found)
