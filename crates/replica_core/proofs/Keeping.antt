-- A replica keeps what it keeps.
use Rattle.std.proofs.Common.{◌≡◌, ℕ, List, [], true, sym, subst, arith}
use Rattle.lamport_id.specs.Name.{is_name}
use Rattle.list_laws.proofs.Members.{Contains-nil}
use Rattle.doc_api.specs.declared.ask.Command.{Command}
use Rattle.doc_api.specs.declared.reply.Reply.{Reply}
use Rattle.doc_rules.specs.Events.{Event, IsWellMade}
use Rattle.doc_rules.specs.Replica.{IsValidReplica}
use Rattle.doc_rules.proofs.Kept.{event_keeps}
use Rattle.crdt_rules.specs.Log.{IsGood}
use Rattle.replica_core.specs.Whole.{Contents, IsWhole, replica_of, replica_with}

-- with a good log, and nothing held
pub whole_log : (name : List ℕ) (b : Contents) → is_name name ≡ true → IsGood b.log → b.held ≡ [] → IsWhole name b
whole_log name b named good none = record {
  named = named;
  kept = subst (λ h. IsValidReplica (replica_of name b.log h)) (sym none)
      (record {
        good = good;
        in_order = tt;
        few = omega arith;
        unlogged = λ op c. absurd (Contains-nil c);
        foreign = λ op c. absurd (Contains-nil c);
        waits = λ op c. absurd (Contains-nil c);
      });
}

pub whole_empty : (name : List ℕ) (b : Contents) → is_name name ≡ true → b.log ≡ [] → b.held ≡ [] → IsWhole name b
whole_empty name b named empty none = whole_log name b named (subst IsGood (sym empty) tt) none

-- and after an event
pub whole_next : (name : List ℕ) (b c : Contents) (command : Command) (answer : Reply) → IsWhole name b → IsWellMade command
    → Event (replica_with name b) command answer (replica_with name c) → IsWhole name c
whole_next name b c command answer whole made event = record {
  named = whole.named;
  kept = event_keeps (replica_with name b) (replica_with name c) command answer whole.named made whole.kept event;
}
