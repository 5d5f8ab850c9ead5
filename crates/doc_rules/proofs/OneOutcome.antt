-- Where memory is at hand, a command has one outcome.
use Rattle.std.proofs.Common.{◌≡◌, ℕ, suc, Option, Some, None, refl, sym, ap, subst, ◌∙◌}
use Rattle.doc_api.specs.Words.{Id, Op}
use Rattle.doc_api.specs.declared.ask.Command.{Command}
use Rattle.doc_api.specs.declared.ask.Command.TheVariants.{Change, Deliver, Forget}
use Rattle.doc_api.specs.declared.reply.Reply.{Reply}
use Rattle.doc_api.specs.declared.reply.Reply.TheVariants.{Applied}
use Rattle.crdt_rules.specs.Fits.{Fits}
use Rattle.crdt_rules.proofs.Tests.{some_same, some≢none}
use Rattle.doc_rules.specs.Events.{Expected, replied, held, logged, Settles, expected_at_place, expected_of_delivery, Forgets}
use Rattle.doc_rules.specs.Memory.{DropsMisfits, SettlesAll, DoesFully}
use Rattle.doc_rules.specs.Replica.{Replica, Drains, replica_facts, find_id, append, without_held}
use Rattle.doc_rules.specs.Replica.Drains.{done, logs, drops}
use Rattle.doc_rules.proofs.OneAnswer.{one_place}

-- how a drain ends: how many it logged and dropped, and the replica then
pub record IsSameEnd (n m d e : ℕ) (s t : Replica) : Type 0 where
  pub logged : n ≡ m
  pub dropped : d ≡ e
  pub after : s ≡ t

one_drain : {r s t : Replica} {n m d e : ℕ} (a : Drains r n d s) (b : Drains r m e t) → DropsMisfits a → DropsMisfits b → IsSameEnd n m d e s t
one_drain (done none) (done none') p q = record { logged = refl; dropped = refl; after = refl }
one_drain (done none) (logs next fits rest) p q = absurd (some≢none (sym next ∙ none))
one_drain (done none) (drops next rest) p q = absurd (some≢none (sym next ∙ none))
one_drain (logs next fits rest) (done none) p q = absurd (some≢none (sym next ∙ none))
one_drain (drops next rest) (done none) p q = absurd (some≢none (sym next ∙ none))
one_drain (logs {r} {s} {n} {d} {op} next fits rest) (logs {s = t} {n = m} {d = e} {op = o} next' fits' rest') p q =
    let is : o ≡ op = some_same (sym next' ∙ next) in
    let other : (b : Drains (append op (without_held op.id r)) m e t) × DropsMisfits b =
    subst (λ z. (b : Drains (append z (without_held z.id r)) m e t) × DropsMisfits b) is (rest', q) in
    let same = one_drain rest other.0 p other.1 in
    record { logged = ap suc same.logged; dropped = same.dropped; after = same.after }
one_drain (logs {r} {op = op} next fits rest) (drops {op = o} next' rest') p q =
    absurd (q.0 (subst (λ z. Fits z r.log) (some_same (sym next ∙ next')) fits))
one_drain (drops {r} {op = op} next rest) (logs {op = o} next' fits rest') p q =
    absurd (p.0 (subst (λ z. Fits z r.log) (some_same (sym next' ∙ next)) fits))
one_drain (drops {r} {s} {n} {d} {op} next rest) (drops {s = t} {n = m} {d = e} {op = o} next' rest') p q =
    let is : o ≡ op = some_same (sym next' ∙ next) in
    let other : (b : Drains (without_held op.id r) m e t) × DropsMisfits b =
    subst (λ z. (b : Drains (without_held z.id r) m e t) × DropsMisfits b) is (rest', q.1) in
    let same = one_drain rest other.0 p.1 other.1 in
    record { logged = same.logged; dropped = ap suc same.dropped; after = same.after }

one_settling : (r s t : Replica) (due : Expected) (x y : Reply) (a : Settles r due x s) (b : Settles r due y t) → SettlesAll r due x s a → SettlesAll r due y t b
    → (x ≡ y) × (s ≡ t)
one_settling r s t (replied answer) x y a b p q = (a.0 ∙ sym b.0, a.1 ∙ sym b.1)
one_settling r s t (held op) x y a b p q = (a.0 ∙ sym b.0, a.1 ∙ sym b.1)
one_settling r s t (logged op) x y a b p q =
    let same = one_drain a.drains b.drains p q in
    (a.reply_is ∙ (λ i. Applied (suc (same.logged i)) (same.dropped i) op.id) ∙ sym b.reply_is, same.after)

one_forgetting : (r s t : Replica) (i : Id) (found : Option Op) (x y : Reply) → Forgets r i found x s → Forgets r i found y t → (x ≡ y) × (s ≡ t)
one_forgetting r s t i (Some o) x y a b = (a.0 ∙ sym b.0, a.1 ∙ sym b.1)
one_forgetting r s t i None x y a b = (a.0 ∙ sym b.0, a.1 ∙ sym b.1)

pub one_outcome : (r s t : Replica) (command : Command) (x y : Reply) → DoesFully r command x s → DoesFully r command y t → (x ≡ y) × (s ≡ t)
one_outcome r s t (Change place m) x y (a, p) (b, q) =
    let same = one_place (replica_facts r) place.start place.steps b.0 a.0 b.1 a.1 in
    let other : (h : Settles r (expected_at_place r a.0 m) y t) × SettlesAll r (expected_at_place r a.0 m) y t h =
    subst (λ c. (h : Settles r (expected_at_place r c m) y t) × SettlesAll r (expected_at_place r c m) y t h) same (b.2, q) in
    one_settling r s t (expected_at_place r a.0 m) x y a.2 other.0 p other.1
one_outcome r s t (Deliver op) x y (a, p) (b, q) = one_settling r s t (expected_of_delivery r op) x y a b p q
one_outcome r s t (Forget i) x y (a, p) (b, q) = one_forgetting r s t i (find_id r.held i) x y a b
