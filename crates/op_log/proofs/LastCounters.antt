-- The last counters of the replicas of a log, and the front that has them.
use Rattle.std.proofs.Common.{◌≡◌, ℕ, ◌+◌, ◌≤◌, max, List, [], ◌∷◌, ◌++◌, length, map, Bool, true, false, bytes_eq, Option, Some, None, unwrap_or, if◌then◌else◌, ◌||◌, nat_lt, nat_le, le-leb, Contains, refl, sym, ap, subst, ◌∙◌, arith}
use Rattle.std.specs.Prelude.{is_some}
use Rattle.std.specs.List.{list_any}
use Rattle.std.proofs.lemmas.List.{length-map}
use lib.Pointwise.{bytes_decides}
use Rattle.version_vector.specs.Front.{max_counter}
use Rattle.op_core.specs.Op.{Op}
use Rattle.crdt_rules.specs.Dependencies.{entry_of}
use Rattle.op_log.specs.Front.{PutsEntry, IsFrontOf}
use Rattle.crdt_rules.specs.Fits.{last_counter}
use Rattle.crdt_rules.specs.Fits.{Fits, replicas}
use Rattle.list_laws.proofs.Members.{Contains-map, map-from}
use Rattle.crdt_rules.proofs.Tests.{any_at, any_none}
use Rattle.crdt_rules.proofs.Fronts.{entry-max_counter, shaped_counter, entry_of-Contains}
use Rattle.crdt_rules.proofs.LastCounter.{below_last, last_from}
use Rattle.crdt_rules.proofs.Tests.{some≢none}
use Rattle.list_laws.specs.Sorted.{get_by}
use Rattle.list_laws.proofs.Bisection.{get-own, get-Contains}
use Rattle.op_log.proofs.Fronts.{names_ordered}
use Rattle.doc_rules.proofs.OneAnswer.{name_order}
use Rattle.list_laws.proofs.Rising.{keys_once}
use Rattle.crdt_rules.proofs.Room.{length-among, replicas-at, replicas-from, replicas-once}

-- after one more operation
pub last_counter-push : (log : List Op) (op : Op) (name : List ℕ)
    → last_counter (log ++ op ∷ []) name
    ≡ (if bytes_eq op.id.replica name then Some (max op.id.counter (unwrap_or (last_counter log name) 0)) else last_counter log name)
last_counter-push [] op name = refl
last_counter-push (o ∷ log) op name =
    ap (λ l. if bytes_eq o.id.replica name then Some (max o.id.counter (unwrap_or l 0)) else l) (last_counter-push log op name)
    ∙ swapped (bytes_eq o.id.replica name) (bytes_eq op.id.replica name) o.id.counter op.id.counter (last_counter log name)
  where
    swapped : (a b : Bool) (x y : ℕ) (l : Option ℕ)
        → (if a then Some (max x (unwrap_or (if b then Some (max y (unwrap_or l 0)) else l) 0)) else (if b then Some (max y (unwrap_or l 0)) else l))
        ≡ (if b then Some (max y (unwrap_or (if a then Some (max x (unwrap_or l 0)) else l) 0)) else (if a then Some (max x (unwrap_or l 0)) else l))
    swapped true true x y l = ap (λ (n : ℕ). Some n) (omega arith)
    swapped true false x y l = refl
    swapped false true x y l = refl
    swapped false false x y l = refl

-- an operation that fits is the last of its replica
last_below : (op : Op) (log : List Op) → Fits op log → unwrap_or (last_counter log op.id.replica) 0 ≤ max_counter op.front
last_below op log fits = by (last_counter log op.id.replica) fits.chain
  where
    by : (l : Option ℕ) → entry_of op.front op.id.replica ≡ l → unwrap_or l 0 ≤ max_counter op.front
    by None h = omega arith
    by (Some c) h = entry-max_counter op.front (entry_of-Contains op.front op.id.replica c h)

pub last_counter-fits : (op : Op) (log : List Op) (name : List ℕ) → Fits op log
    → last_counter (log ++ op ∷ []) name ≡ (if bytes_eq op.id.replica name then Some op.id.counter else last_counter log name)
last_counter-fits op log name fits = last_counter-push log op name ∙ by (bytes_eq op.id.replica name) refl
  where
    by : (b : Bool) → bytes_eq op.id.replica name ≡ b
        → (if b then Some (max op.id.counter (unwrap_or (last_counter log name) 0)) else last_counter log name) ≡ (if b then Some op.id.counter else last_counter log name)
    by true same =
        let below : unwrap_or (last_counter log name) 0 ≤ max_counter op.front =
        subst (λ n. unwrap_or (last_counter log n) 0 ≤ max_counter op.front) ((bytes_decides op.id.replica name).0 same) (last_below op log fits) in
        let next : op.id.counter ≡ max_counter op.front + 1 = shaped_counter op fits.shape in
        ap (λ (n : ℕ). Some n) (omega arith)
    by false other = refl

-- the front with the new counter is that of the log with the operation
pub IsFrontOf-push : (op : Op) (log : List Op) (old new : List (List ℕ × ℕ)) → Fits op log → IsFrontOf log old → PutsEntry old new op.id.replica op.id.counter
    → ((name : List ℕ) → get_by bytes_eq new name ≡ last_counter (log ++ op ∷ []) name)
IsFrontOf-push op log old new fits front puts name =
    puts name ∙ ap (λ l. if bytes_eq op.id.replica name then Some op.id.counter else l) (front.last name) ∙ sym (last_counter-fits op log name fits)

pub length-front : (log : List Op) (front : List (List ℕ × ℕ)) → IsFrontOf log front → length front ≡ length (replicas log)
length-front log front is =
    let names = map (λ (e : List ℕ × ℕ). e.0) front in
    let few : length names ≤ length (replicas log) = length-among names (replicas log) (keys_once name_order (λ (e : List ℕ × ℕ). e.0) front is.rising) (λ n c. in_log n c) in
    let many : length (replicas log) ≤ length names = length-among (replicas log) names (replicas-once log) (λ n c. in_front n c) in
    let same : length names ≡ length front = length-map front (λ e. e.0) in
    omega arith
  where
    in_log : (n : List ℕ) → Contains (map (λ e. e.0) front) n → Contains (replicas log) n
    in_log n c =
        let f = map-from (λ (e : List ℕ × ℕ). e.0) front c in
        let found : last_counter log n ≡ Some (f.0).1 = sym (is.last n) ∙ subst (λ m. get_by bytes_eq front m ≡ Some (f.0).1) f.2 (get-own names_ordered front is.rising f.0 f.1) in
        let o = last_from log n (f.0).1 found in
        subst (Contains (replicas log)) o.2 (replicas-at log o.1)

    in_front : (n : List ℕ) → Contains (replicas log) n → Contains (map (λ e. e.0) front) n
    in_front n c =
        let o = replicas-from log c in
        let l = below_last log o.0 n o.1 o.2 in
        Contains-map (λ (e : List ℕ × ℕ). e.0) front (get-Contains names_ordered front n l.0 (is.last n ∙ l.1))

-- a replica has a last counter where it is one of the log's
pub is_replica : (log : List Op) (name : List ℕ) → list_any (bytes_eq name) (replicas log) ≡ is_some (last_counter log name)
is_replica log name = by (last_counter log name) refl
  where
    by : (l : Option ℕ) → last_counter log name ≡ l → list_any (bytes_eq name) (replicas log) ≡ is_some l
    by None h =
        any_none (bytes_eq name) (replicas log)
        (λ n c. other n c (bytes_eq name n) refl)
      where
        other : (n : List ℕ) → Contains (replicas log) n → (b : Bool) → bytes_eq name n ≡ b → b ≡ false
        other n c false e = refl
        other n c true e =
            let o = replicas-from log c in
            let l = below_last log o.0 name o.1 (o.2 ∙ sym ((bytes_decides name n).0 e)) in
            absurd (some≢none (sym l.1 ∙ h))
    by (Some c) h =
        let o = last_from log name c h in
        any_at (bytes_eq name) (replicas log) (replicas-at log o.1) ((bytes_decides name (o.0).id.replica).1 (sym o.2))

-- whether a log takes one more operation of a replica
pub length-replicas-next : (op : Op) (log : List Op) (n : ℕ) → n ≡ length (replicas log) → n ≤ 256
    → (is_some (last_counter log op.id.replica) || nat_lt n 256) ≡ nat_le (length (replicas (op ∷ log))) 256
length-replicas-next op log n is few = by (list_any (bytes_eq op.id.replica) (replicas log)) (is_replica log op.id.replica)
  where
    by : (b : Bool) → b ≡ is_some (last_counter log op.id.replica)
        → (is_some (last_counter log op.id.replica) || nat_lt n 256) ≡ nat_le (length (if b then replicas log else op.id.replica ∷ replicas log)) 256
    by true known =
        subst (λ k. (k || nat_lt n 256) ≡ nat_le (length (replicas log)) 256) known (sym (le-leb (length (replicas log)) 256 (subst (λ m. m ≤ 256) is few)))
    by false unknown =
        subst (λ k. (k || nat_lt n 256) ≡ nat_le (length (op.id.replica ∷ replicas log)) 256) unknown (ap (λ m. nat_lt m 256) is)
