use Rattle.std.proofs.Common.{◌≡◌, [], Err, Option, ℕ, true, not, unwrap_or, sym, ap, subst, ◌∙◌}
use Rattle.json_scalar.specs.declared.refusal.Refusal.TheVariants.{Forked}
use Rattle.doc_api.specs.Words.{Id}
use Rattle.version_vector.specs.Front.{is_ascending}
use Rattle.crdt_rules.specs.Dependencies.{entry_of}
use Rattle.crdt_rules.specs.Fits.{knows_front, knows_cursor, last_counter}
use Rattle.op_log.proofs.Comparing.{shaped_ascending}
use Rattle.op_log.proofs.Deciding.{follows_told, cause_of_front, cause_of_chain, cause_of_cursor, cause_of_room}
use Rattle.op_log.proofs.log.OpLog.first_fit_cause.Goals as goal

pub knows_front-requires : goal.knows_front-requires
knows_front-requires c = subst (λ f. is_ascending f ≡ true) (sym c.front.ensures) (shaped_ascending c.args.op.now c.id-replica.ensures.shaped)

pub counter_in-requires : goal.counter_in-requires
counter_in-requires c = subst (λ f. is_ascending f ≡ true) (sym c.front-2.ensures) (shaped_ascending c.args.op.now c.id-replica.ensures.shaped)

pub returns-then-not-knows_front-clause-cause : goal.returns-then-not-knows_front-clause-cause
returns-then-not-knows_front-clause-cause c =
    let log = c.args.self.now.operations in
    cause_of_front c.args.op.now log (sym (c.knows_front.ensures ∙ ap (λ f. knows_front f log) c.front.ensures) ∙ c.if-not-knows_front.true)

pub returns-then-ne-clause-cause : goal.returns-then-ne-clause-cause
returns-then-ne-clause-cause c =
    let op = c.args.op.now in
    let log = c.args.self.now.operations in
    let known = sym (c.knows_front.ensures ∙ ap (λ f. knows_front f log) c.front.ensures) ∙ c.if-not-knows_front.false in
    let counter : c.counter_in.result ≡ entry_of op.front op.id.replica = c.counter_in.ensures ∙ (λ i. entry_of (c.front-2.ensures i) (c.id.ensures.value i).replica) in
    let last : c.last_counter-last.result ≡ last_counter log op.id.replica = c.last_counter-last.ensures ∙ ap (λ (i : Id). last_counter log i.replica) c.id-replica.ensures.value in
    ap (λ (n : ℕ). Err (Forked n)) (c.unwrap_or.ensures ∙ ap (λ (l : Option ℕ). unwrap_or l 0) last)
    ∙ cause_of_chain op log known (follows_told op log c.counter_in.result c.last_counter-last.result c.ne.result counter last c.ne.ensures ∙ ap not c.if-ne.true)

pub returns-then-not-knows_cursor-clause-cause : goal.returns-then-not-knows_cursor-clause-cause
returns-then-not-knows_cursor-clause-cause c =
    let op = c.args.op.now in
    let log = c.args.self.now.operations in
    let known = sym (c.knows_front.ensures ∙ ap (λ f. knows_front f log) c.front.ensures) ∙ c.if-not-knows_front.false in
    let counter : c.counter_in.result ≡ entry_of op.front op.id.replica = c.counter_in.ensures ∙ (λ i. entry_of (c.front-2.ensures i) (c.id.ensures.value i).replica) in
    let last : c.last_counter-last.result ≡ last_counter log op.id.replica = c.last_counter-last.ensures ∙ ap (λ (i : Id). last_counter log i.replica) c.id-replica.ensures.value in
    let cursor = c.knows_cursor.ensures ∙ (λ i. knows_cursor (c.front-3.ensures i) log [] (c.cursor.ensures i).path (c.cursor.ensures i).key) in
    cause_of_cursor op log known (follows_told op log c.counter_in.result c.last_counter-last.result c.ne.result counter last c.ne.ensures ∙ ap not c.if-ne.false)
    (sym cursor ∙ c.if-not-knows_cursor.true)

pub returns-clause-cause : goal.returns-clause-cause
returns-clause-cause c =
    let op = c.args.op.now in
    let log = c.args.self.now.operations in
    let known = sym (c.knows_front.ensures ∙ ap (λ f. knows_front f log) c.front.ensures) ∙ c.if-not-knows_front.false in
    let counter : c.counter_in.result ≡ entry_of op.front op.id.replica = c.counter_in.ensures ∙ (λ i. entry_of (c.front-2.ensures i) (c.id.ensures.value i).replica) in
    let last : c.last_counter-last.result ≡ last_counter log op.id.replica = c.last_counter-last.ensures ∙ ap (λ (i : Id). last_counter log i.replica) c.id-replica.ensures.value in
    let cursor = c.knows_cursor.ensures ∙ (λ i. knows_cursor (c.front-3.ensures i) log [] (c.cursor.ensures i).path (c.cursor.ensures i).key) in
    c.room_for.ensures op (sym last)
    ∙ cause_of_room op log known (follows_told op log c.counter_in.result c.last_counter-last.result c.ne.result counter last c.ne.ensures ∙ ap not c.if-ne.false)
    (sym cursor ∙ c.if-not-knows_cursor.false)

pub returns-then-not-knows_front-clause-shaped : goal.returns-then-not-knows_front-clause-shaped
returns-then-not-knows_front-clause-shaped c = c.id-replica.ensures.shaped

pub returns-then-ne-clause-shaped : goal.returns-then-ne-clause-shaped
returns-then-ne-clause-shaped c = c.id-replica.ensures.shaped

pub returns-then-not-knows_cursor-clause-shaped : goal.returns-then-not-knows_cursor-clause-shaped
returns-then-not-knows_cursor-clause-shaped c = c.id-replica.ensures.shaped

pub returns-clause-shaped : goal.returns-clause-shaped
returns-clause-shaped c = c.id-replica.ensures.shaped
