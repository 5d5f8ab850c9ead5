-- Where a replica is out of memory.
use Rattle.std.proofs.Common.{◌≡◌, ◌≢◌, inl, inr, Bool, true, false, Option, Some, None, Result, Ok, Err, refl, sym, ap, subst, ◌∙◌}
use Rattle.std.specs.Prelude.{⊤}
use Rattle.doc_api.specs.Words.{UnlessMemory, NoMemory, Op, Id, Refusal}
use Rattle.doc_api.specs.declared.ask.Command.{Command}
use Rattle.doc_api.specs.declared.ask.Command.TheVariants as command
use Rattle.doc_api.specs.declared.reply.Reply.{Reply}
use Rattle.doc_api.specs.declared.reply.Reply.TheVariants as reply
use Rattle.doc_rules.specs.Cause.{cause_of, first_fit_cause}
use Rattle.doc_rules.specs.Events.{Expected, replied, held, logged, Settles, Forgets, Event, expected_by_cause, delivered_rows, expected_of_delivery}
use Rattle.doc_rules.specs.Replica.{Replica, find_id}
use Rattle.doc_rules.proofs.Resolved.{ok_same, ok≢err}
use Rattle.doc_rules.proofs.Tables.{by_rows}
use Rattle.replica_core.specs.Memory.{NeedsMemory, MayLack, MayLog}
use Rattle.replica_core.specs.Outcomes.{Meets}

-- what is answered was expected
pub answered : {X : Type 0} {x y : X} → UnlessMemory {A = X} (Ok x) (Ok y) → x ≡ y
answered h = ok_same (h (λ e. ok≢err (sym e)))

pub event_from : (r : Replica) (op : Op) (answer : Reply) (s : Replica) → Meets r (expected_of_delivery r op) answer s → Event r (command.Deliver op) answer s
event_from r op answer s (inl does) = inl does
event_from r op answer s (inr lacks) = inr lacks.1

-- out of memory is never expected
never_memory_by_cause : (knows chain cursor operations replicas : Bool) (last : _) (op : Op)
    → expected_by_cause (first_fit_cause knows chain cursor operations replicas last) op ≢ replied (reply.Refused NoMemory)
never_memory_by_cause false chain cursor operations replicas last op e = absurd (cc)
never_memory_by_cause true false cursor operations replicas last op e = absurd (cc)
never_memory_by_cause true true false operations replicas last op e = absurd (cc)
never_memory_by_cause true true true false replicas last op e = absurd (cc)
never_memory_by_cause true true true true false last op e = absurd (cc)
never_memory_by_cause true true true true true last op e = absurd (cc)

never_memory : (r : Replica) (op : Op) → expected_of_delivery r op ≢ replied (reply.Refused NoMemory)
never_memory r op =
    by_rows (λ due. due ≢ replied (reply.Refused NoMemory)) (delivered_rows r op) (expected_by_cause (cause_of op r.log) op) (
      (λ is e. absurd (cc)),
      λ other. (
        (λ is e. absurd (cc)),
        λ other. (
          (λ is e. absurd (cc)),
          λ other. (
            (λ is e. absurd (cc)),
            λ other. (
              (λ is e. absurd (cc)),
              λ other. (
                (λ is e. absurd (cc)),
                λ other. (
                  (λ is e. absurd (cc)),
                  λ other.
                      never_memory_by_cause _ _ _ _ _ _ op,
                ),
              ),
            ),
          ),
        ),
      ),
    )

-- so where it is the answer, something grows
meets_grows : (r : Replica) (due : Expected) (answer : Reply) (s : Replica) → due ≢ replied (reply.Refused NoMemory) → answer ≡ reply.Refused NoMemory → Meets r due answer s → NeedsMemory due
meets_grows r due answer s other lacks (inr grows) = grows.0
meets_grows r (replied x) answer s other lacks (inl does) = absurd (other (λ i. replied ((sym does.0 ∙ lacks) i)))
meets_grows r (held op) answer s other lacks (inl does) = tt
meets_grows r (logged op) answer s other lacks (inl does) = tt

pub deliver_lacks : (r : Replica) (op : Op) (answer : Reply) (s : Replica) → answer ≡ reply.Refused NoMemory
    → Meets r (expected_of_delivery r op) answer s → MayLack r (command.Deliver op)
deliver_lacks r op answer s lacks met = meets_grows r (expected_of_delivery r op) answer s (never_memory r op) lacks met

-- ---- what may be logged

-- it may be out of memory
pub may_lack : (r : Replica) (command : Command) → MayLog r command → MayLack r command
may_lack r (command.Change place m) logs = tt
may_lack r (command.Deliver op) logs = subst NeedsMemory (sym logs) tt
may_lack r (command.Forget i) logs = logs

kept_by_cause : (r : Replica) (op : Op) (cause : Result ⊤ Refusal) (answer : Reply) (s : Replica) → expected_by_cause cause op ≢ logged op
    → Settles r (expected_by_cause cause op) answer s → s.log ≡ r.log
kept_by_cause r op (Ok x) answer s other does = absurd (other refl)
kept_by_cause r op (Err e) answer s other does = ap (λ (x : Replica). x.log) does.1

kept_by_delivery : (r : Replica) (op : Op) (answer : Reply) (s : Replica) → expected_of_delivery r op ≢ logged op
    → Settles r (expected_of_delivery r op) answer s → s.log ≡ r.log
kept_by_delivery r op answer s =
    by_rows (λ due. due ≢ logged op → Settles r due answer s → s.log ≡ r.log) (delivered_rows r op) (expected_by_cause (cause_of op r.log) op) (
      (λ is unlike does. ap (λ (x : Replica). x.log) does.1),
      λ other. (
        (λ is unlike does. ap (λ (x : Replica). x.log) does.1),
        λ other. (
          (λ is unlike does. ap (λ (x : Replica). x.log) does.1),
          λ other. (
            (λ is unlike does. ap (λ (x : Replica). x.log) does.1),
            λ other. (
              (λ is unlike does. ap (λ (x : Replica). x.log) does.1),
              λ other. (
                (λ is unlike does. ap (λ (x : Replica). x.log) does.1),
                λ other. (
                  (λ is unlike does. ap (λ (x : Replica). x.log) does.1),
                  λ other.
                      kept_by_cause r op (cause_of op r.log) answer s,
                ),
              ),
            ),
          ),
        ),
      ),
    )

kept_by_forgetting : (r : Replica) (i : Id) (o : Option Op) (answer : Reply) (s : Replica) → Forgets r i o answer s → s.log ≡ r.log
kept_by_forgetting r i (Some o) answer s does = ap (λ (x : Replica). x.log) does.1
kept_by_forgetting r i None answer s does = ap (λ (x : Replica). x.log) does.1

-- a command that may log nothing leaves the log as it was
pub log_kept : (r : Replica) (command : Command) (answer : Reply) (s : Replica) → (MayLog r command → ⊥) → Event r command answer s → s.log ≡ r.log
log_kept r command answer s silent (inr lacks) = ap (λ (x : Replica). x.log) lacks.1
log_kept r (command.Change place m) answer s silent (inl does) = absurd (silent tt)
log_kept r (command.Deliver op) answer s silent (inl does) = kept_by_delivery r op answer s silent does
log_kept r (command.Forget i) answer s silent (inl does) = kept_by_forgetting r i (find_id r.held i) answer s does
