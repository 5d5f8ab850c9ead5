-- What a part of a draining makes of the rest.
use Rattle.std.proofs.Common.{◌≡◌, ℕ, ◌+◌, suc, List, [], ◌∷◌, ◌≤◌, length, Bool, Option, Some, None, find, refl, sym, ap, subst, ◌∙◌, arith}
use Rattle.std.specs.Option.{option_map}
use Rattle.doc_api.specs.Words.{Id, Op}
use Rattle.crdt_rules.specs.Dependencies.{is_ready}
use Rattle.crdt_rules.specs.Fits.{Fits}
use Rattle.crdt_rules.proofs.Tests.{some≢none}
use Rattle.op_log.proofs.Ids.{find_id-Some}
use Rattle.doc_rules.specs.Replica.{Replica, Drains, find_id}
use Rattle.replica_core.specs.Whole.{Contents, replica_with, with_logged, with_removed}
use Rattle.doc_rules.specs.Replica.Drains.{done, logs, drops}

-- what the rest drains, the whole drains with the counts so far
pub record HasDrained (first now : Contents) (logged dropped round : ℕ) : Type 0 where
  pub rest : (name : List ℕ) (s : Replica) (n d : ℕ) → Drains (replica_with name now) n d s → Drains (replica_with name first) (logged + n) (dropped + d) s
  pub counted : logged + dropped ≡ round
  pub left : length now.held + round ≡ length first.held

counts_as : {r s : Replica} {n d n' d' : ℕ} → n ≡ n' → d ≡ d' → Drains r n d s → Drains r n' d' s
counts_as {r} {s} {n} {d} {n'} {d'} e f h = subst (λ m. Drains r m d' s) e (subst (λ m. Drains r n m s) f h)

pub starts : (b : Contents) → HasDrained b b 0 0 0
starts b = record {
  rest = λ name s n d h. counts_as (omega arith) (omega arith) h;
  counted = refl;
  left = omega arith;
}

module _ {first b : Contents} {logged dropped round : ℕ} (so_far : HasDrained first b logged dropped round) where
  pub logs_one : (op : Op) → find (λ o. is_ready o b.log) b.held ≡ Some op → Fits op b.log → length (with_removed op.id b).held + 1 ≡ length b.held
      → HasDrained first (with_logged op (with_removed op.id b)) (logged + 1) dropped (round + 1)
  logs_one op found fits fewer =
      let left : length b.held + round ≡ length first.held = so_far.left in
      let counted : logged + dropped ≡ round = so_far.counted in
      record {
        rest = λ name s n d h.
            counts_as {n = logged + suc n} {d = dropped + d} (omega arith) refl
            (so_far.rest name s (suc n) d (logs {r = replica_with name b} {op = op} found fits h));
        counted = omega arith;
        left = omega arith;
      }

  pub drops_one : (op : Op) → find (λ o. is_ready o b.log) b.held ≡ Some op → length (with_removed op.id b).held + 1 ≡ length b.held
      → HasDrained first (with_removed op.id b) logged (dropped + 1) (round + 1)
  drops_one op found fewer =
      let left : length b.held + round ≡ length first.held = so_far.left in
      let counted : logged + dropped ≡ round = so_far.counted in
      record {
        rest = λ name s n d h.
            counts_as {n = logged + n} {d = dropped + suc d} refl (omega arith)
            (so_far.rest name s n (suc d) (drops {r = replica_with name b} {op = op} found h));
        counted = omega arith;
        left = omega arith;
      }

  pub stops : find (λ o. is_ready o b.log) b.held ≡ None → (name : List ℕ) → Drains (replica_with name first) logged dropped (replica_with name b)
  stops none name =
      counts_as {n = logged + 0} {d = dropped + 0} (omega arith) (omega arith)
      (so_far.rest name (replica_with name b) 0 0 (done {r = replica_with name b} none))

pub none_found : (p : Op → Bool) (held : List Op) → None ≡ option_map (λ o. o.id) (find p held) → find p held ≡ None
none_found p held h = by (find p held) h
  where
    by : (o : Option Op) → None ≡ option_map (λ (x : Op). x.id) o → o ≡ None
    by None e = refl
    by (Some x) e = absurd (cc)

pub nothing_left : (p : Op → Bool) (held : List Op) → length held ≤ 0 → find p held ≡ None
nothing_left p [] few = refl
nothing_left p (x ∷ held) few = absurd (omega arith)

pub found_id : (held : List Op) (i : Id) (op : Op) → Some op ≡ find_id held i → op.id ≡ i
found_id held i op found = (find_id-Some held i op (sym found)).1

pub not_found : (p : Op → Bool) (held : List Op) (i : Id) → Some i ≡ option_map (λ o. o.id) (find p held) → find p held ≡ None → ⊥
not_found p held i least none = some≢none (least ∙ ap (option_map (λ (o : Op). o.id)) none)
