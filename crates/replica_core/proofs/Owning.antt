-- One's own changes.
use Rattle.crdt_rules.specs.Same.{id_eq}
use Rattle.crdt_rules.proofs.Tests.{some≢none}
use Rattle.replica_core.specs.Whole.{Contents, replica_with, with_removed}
use Rattle.std.proofs.Common.{[], ◌∷◌, Bool, false, not, filter, if◌then◌else◌, ◌≡◌, ◌≢◌, inl, inr, ℕ, List, Option, Some, None, Result, Ok, Err, true, refl, sym, ap, subst, ◌∙◌}
use Rattle.std.specs.Prelude.{⊤}
use Rattle.json_scalar.specs.Refusal.{and_then}
use Rattle.doc_api.specs.Words.{Refusal, NoMemory, Id, Cursor, Mutation, Op}
use Rattle.json_scalar.specs.declared.refusal.Refusal.TheVariants.{NotHeld, NotInList, AtHead, LogFull, TooManyReplicas}
use Rattle.doc_api.specs.declared.reply.Reply.{Reply}
use Rattle.doc_api.specs.declared.ask.Command.TheVariants as command
use Rattle.doc_api.specs.declared.place.Place.{Place}
use Rattle.doc_rules.specs.Cause.{first_fit_cause}
use Rattle.doc_rules.specs.Events.{logged, no, first_row, expected_by_cause, expected_at_place, Does, Event, Forgets}
use Rattle.doc_rules.specs.Resolve.{Resolves}
use Rattle.replica_core.specs.Outcomes.{Meets, first_place_cause, reply_of_forgotten}
use Rattle.doc_rules.specs.Replica.{Replica, replica_facts, find_id}

-- the first cause against a change, by the place and then by the room
pub changed_by_causes : (listed at_head operations replicas : Bool) (op : Op)
    → first_row ((listed, no NotInList) ∷ (at_head, no AtHead) ∷ (not operations, no LogFull) ∷ (not replicas, no TooManyReplicas) ∷ []) (logged op)
    ≡ expected_by_cause (and_then (first_place_cause listed at_head) (λ _. first_fit_cause true true true operations replicas 0)) op
changed_by_causes true at_head operations replicas op = refl
changed_by_causes false true operations replicas op = refl
changed_by_causes false false false replicas op = refl
changed_by_causes false false true false op = refl
changed_by_causes false false true true op = refl

-- ---- held operations that are dropped

-- nothing is dropped for an id that is not held
kept_all : (ops : List Op) (i : Id) → find_id ops i ≡ None → filter (λ o. not (id_eq o.id i)) ops ≡ ops
kept_all [] i h = refl
kept_all (o ∷ ops) i h = by (id_eq o.id i) h (λ h. kept_all ops i h)
  where
    by : (b : Bool) → ◌≡◌ {A = Option Op} (if b then Some o else find_id ops i) None → (find_id ops i ≡ None → filter (λ z. not (id_eq z.id i)) ops ≡ ops)
        → (if not b then o ∷ filter (λ z. not (id_eq z.id i)) ops else filter (λ z. not (id_eq z.id i)) ops) ≡ o ∷ ops
    by true h ih = absurd (some≢none h)
    by false h ih = ap (λ l. o ∷ l) (ih h)

-- the one of its id is dropped
pub forgets_held : (name : List ℕ) (b c : Contents) (i : Id) (op : Op) (answer : Result ⊤ Refusal) → answer ≡ Ok tt → Some op ≡ find_id b.held i → c ≡ with_removed i b
    → Does (replica_with name b) (command.Forget i) (reply_of_forgotten answer) (replica_with name c)
forgets_held name b c i op answer answered is same =
    subst (λ (o : Option Op). Forgets (replica_with name b) i o (reply_of_forgotten answer) (replica_with name c)) is
    (ap reply_of_forgotten answered, ap (replica_with name) same)

-- and where there is none, nothing changes
pub forgets_none : (name : List ℕ) (b c : Contents) (i : Id) (answer : Result ⊤ Refusal) → answer ≡ Err NotHeld → None ≡ find_id b.held i → c ≡ with_removed i b
    → Does (replica_with name b) (command.Forget i) (reply_of_forgotten answer) (replica_with name c)
forgets_none name b c i answer answered is same =
    subst (λ (o : Option Op). Forgets (replica_with name b) i o (reply_of_forgotten answer) (replica_with name c)) is
    (ap reply_of_forgotten answered, ap (replica_with name) same ∙ (λ j. record { name = name; log = b.log; held = kept_all b.held i (sym is) j }))

-- ---- a change at a place

pub event_change : (r s : Replica) (place : Place) (m : Mutation) (answer : Reply) (c : Result Cursor Refusal)
    → (c ≢ Err NoMemory → Resolves (replica_facts r) place.start place.steps c) → Meets r (expected_at_place r c m) answer s → Event r (command.Change place m) answer s
event_change r s place m answer (Ok c) h met =
    elim met [ inl does ↦ inl (Ok c, h (λ e. cc), does) | inr lacks ↦ inr lacks.1 ]
event_change r s place m answer (Err NoMemory) h met = elim met [ inl does ↦ inr does | inr lacks ↦ inr lacks.1 ]
event_change r s place m answer (Err e) h met =
    elim met [ inl does ↦ inl (Err e, h (λ f. cc), does) | inr lacks ↦ inr lacks.1 ]
