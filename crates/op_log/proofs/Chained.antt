-- The next operation of a chain, by what a search among those of its replica finds.
use Rattle.std.proofs.Common.{◌≡◌, inl, inr, ℕ, ◌<◌, ◌≤◌, ◌+◌, List, length, drop, get_or, bytes_eq, nat_lt, nat_le, ◌&&◌, true, false, Some, if◌then◌else◌, sym, ap, subst, ◌∙◌, arith}
use Rattle.std.specs.List.{slice_get}
use Rattle.std.proofs.lemmas.Bool.{cases_lt}
use Rattle.std.proofs.lemmas.Option.{slice_get_within}
use Rattle.doc_api.specs.Words.{Op}
use Rattle.crdt_rules.specs.Log.{IsGood}
use Rattle.crdt_rules.proofs.Tests.{some_same}
use Rattle.crdt_rules.specs.Dependencies.{entry_of}
use Rattle.list_laws.proofs.Reading.{drop_read}
use Rattle.doc_rules.proofs.Chained.{above_none, beyond_none, chain_first, chain_nothing}
use Rattle.op_log.specs.Index.{HasOpAt, IsLast, IsFirstFrom}
use Rattle.op_log.specs.Chained.{LeadsChain, IsNextOfChain}
use Rattle.op_log.proofs.Indexes.{chain_rises, rises_up_to, stands-within}

module _ (name : List ℕ) (above last : ℕ) (log : List Op) where
  -- the number of operations stands for none
  no_next : ((k : ℕ) (at : HasOpAt log name k) → (nat_lt above at.op.id.counter && nat_le at.op.id.counter last) ≡ false) → IsNextOfChain name above last log (length log)
  no_next none = record {
    within = omega arith;
    none = λ _. chain_nothing name above last log (λ k op there made. none k (record { op = op; there = there; made = made }));
    next = λ op there. let within : length log < length log = slice_get_within log (length log) op there in absurd (omega arith);
  }

  pub none_made : ((k : ℕ) → ¬ (HasOpAt log name k)) → IsNextOfChain name above last log (length log)
  none_made none = no_next (λ k at. absurd (none k at))

  module _ (good : IsGood log) where
    -- the replica's last operation is not above
    pub none_above : (end : ℕ) → IsLast log name end → ((op : Op) → slice_get log end ≡ Some op → op.id.counter ≤ above) → IsNextOfChain name above last log (length log)
    none_above end is low =
        no_next
        (λ k at.
        let up_to : at.op.id.counter ≤ (is.here).op.id.counter = rises_up_to log good name k end at is.here (is.last k at) in
        let least : (is.here).op.id.counter ≤ above = low (is.here).op (is.here).there in
        above_none above last at.op.id.counter (omega arith))

    -- the first above is beyond the last
    pub none_up_to : (k : ℕ) → IsFirstFrom log name 0 (above + 1) k → ((op : Op) → slice_get log k ≡ Some op → last < op.id.counter) → IsNextOfChain name above last log (length log)
    none_up_to k first beyond = no_next each
      where
        each : (j : ℕ) (at : HasOpAt log name j) → (nat_lt above at.op.id.counter && nat_le at.op.id.counter last) ≡ false
        each j at =
            elim (cases_lt j k) [
              | inl before ↦
                  let less : at.op.id.counter < above + 1 = first.first j at (omega arith) before in
                  above_none above last at.op.id.counter (omega arith)
              | inr behind ↦
                  let high : last < (first.here).op.id.counter = beyond (first.here).op (first.here).there in
                  let up_to : (first.here).op.id.counter ≤ at.op.id.counter = rises_up_to log good name k j first.here at behind in
                  beyond_none above last at.op.id.counter (omega arith)
            ]

    -- the first above is the next
    pub next_above : (k : ℕ) → IsFirstFrom log name 0 (above + 1) k → ((op : Op) → slice_get log k ≡ Some op → op.id.counter ≤ last) → IsNextOfChain name above last log k
    next_above k first low = record {
      within = let within : k < length log = stands-within first.here in omega arith;
      none = λ end. let within : k < length log = stands-within first.here in absurd (omega arith);
      next = next;
    }
      where
        next : (op : Op) → slice_get log k ≡ Some op → LeadsChain name above last log op
        next op there =
            let same : (first.here).op ≡ op = some_same (sym (first.here).there ∙ there) in
            let made : op.id.replica ≡ name = ap (λ (o : Op). o.id.replica) (sym same) ∙ (first.here).made in
            let reaches : above + 1 ≤ op.id.counter = subst (λ (o : Op). above + 1 ≤ o.id.counter) same first.reaches in
            let higher : above < op.id.counter = omega arith in
            let up_to : op.id.counter ≤ last = low op there in
            record {
              higher = higher;
              up_to = up_to;
              chain = chain_first name above last log k op there made higher up_to
                  (λ j y at is below. let less : y.id.counter < above + 1 = first.first j (record { op = y; there = at; made = is }) (omega arith) below in omega arith)
                  (λ j y at is beyond. chain_rises log good name k j (record { op = op; there = there; made = made }) (record { op = y; there = at; made = is }) beyond);
            }

-- ---- a replica's counter in a front of any order

module _ (front : List (List ℕ × ℕ)) (at : ℕ) (e : List ℕ × ℕ) (name : List ℕ) (within : at < length front) (read : e ≡ get_or front at e) where
  pub entry_here : bytes_eq e.0 name ≡ true → entry_of (drop at front) name ≡ Some e.1
  entry_here is =
      ap (λ (l : List (List ℕ × ℕ)). entry_of l name) (drop_read front at e within read)
      ∙ ap (λ b. if b then Some e.1 else entry_of (drop (at + 1) front) name) is

  pub entry_behind : bytes_eq e.0 name ≡ false → entry_of (drop (at + 1) front) name ≡ entry_of (drop at front) name
  entry_behind other =
      sym
      (ap (λ (l : List (List ℕ × ℕ)). entry_of l name) (drop_read front at e within read)
      ∙ ap (λ b. if b then Some e.1 else entry_of (drop (at + 1) front) name) other)
