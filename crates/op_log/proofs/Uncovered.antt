-- What a front covers of a log, by the chains of its replicas.
use Rattle.std.proofs.Common.{◌≡◌, ℕ, ◌<◌, ◌≤◌, inl, inr, zero, suc, List, [], ◌∷◌, length, take, drop, get_or, ◌+◌, ◌++◌, take_all, length-drop, bytes_eq, Bool, true, false, not, rules, Option, Some, None, Contains, if◌then◌else◌, refl, sym, ap, subst, ◌∙◌, arith}
use Rattle.std.specs.List.{slice_get}
use Rattle.std.proofs.lemmas.List.{drop_all}
use Rattle.std.proofs.lemmas.Option.{slice_get_read}
use Rattle.std.proofs.lemmas.List.Elements.{Contains-push_cases}
use Rattle.version_vector.specs.Front.{covers}
use Rattle.op_core.specs.Op.{Op}
use Rattle.crdt_rules.specs.Log.{IsGood}
use Rattle.crdt_rules.proofs.Fronts.{covers_at, covers_from}
use Rattle.crdt_rules.proofs.Tests.{some_same}
use Rattle.doc_rules.specs.Answers.{since}
use Rattle.op_log.specs.Index.{HasOpAt, AreLasts, IsLast, CoversChain, CoversBetween, IsUncovered}
use Rattle.list_laws.proofs.Reading.{take_at, drop_read}
use Rattle.list_laws.specs.Sorted.{get_by}
use Rattle.list_laws.proofs.Bisection.{get-own, get-Contains}
use Rattle.op_log.proofs.Fronts.{names_ordered}
use Rattle.op_log.proofs.Indexes.{rises_up_to}

-- a replica has no operation behind its last
pub chain_ended : (front : List (List ℕ × ℕ)) (log : List Op) (name : List ℕ) (last from n : ℕ) → IsLast log name last → last < from → CoversChain front log name from n
chain_ended front log name last from n is ended k at behind below = let up_to : k ≤ last = is.last k at in absurd (omega arith)

-- all up to the last
pub up_to_last : (log : List Op) → IsGood log → (name : List ℕ) (last counter : ℕ) → IsLast log name last
    → ((op : Op) → slice_get log last ≡ Some op → op.id.counter ≤ counter) → (k : ℕ) (at : HasOpAt log name k) → at.op.id.counter ≤ counter
up_to_last log good name last counter is enough k at =
    let rises : at.op.id.counter ≤ (is.here).op.id.counter = rises_up_to log good name k last at is.here (is.last k at) in
    let least : (is.here).op.id.counter ≤ counter = enough (is.here).op (is.here).there in
    omega arith

-- the chain of an entry of the index
pub last_of_entry : {log : List Op} {lasts : List (List ℕ × ℕ)} → AreLasts log lasts → (e : List ℕ × ℕ) → Contains lasts e → IsLast log e.0 e.1
last_of_entry {lasts = lasts} are e c = are.each e.0 e.1 (get-own names_ordered lasts are.rising e c)

-- the chains looked at, with one more
pub chains_next : (front : List (List ℕ × ℕ)) (log : List Op) (lasts : List (List ℕ × ℕ)) (i : ℕ) (e : List ℕ × ℕ) (from least n m : ℕ) → m ≤ least → m ≤ n
    → i < length lasts → e ≡ get_or lasts i e
    → ((f : List ℕ × ℕ) → Contains (take i lasts) f → CoversChain front log f.0 from least) → CoversChain front log e.0 from n
    → (f : List ℕ × ℕ) → Contains (take (suc i) lasts) f → CoversChain front log f.0 from m
chains_next front log lasts i e from least n m low high within read before here f c k at behind below =
    elim (Contains-push_cases (take i lasts) e f (subst (λ (l : List (List ℕ × ℕ)). Contains l f) (take_at lasts i e within read) c)) [
      | inl old ↦ before f old k at behind (omega arith)
      | inr new ↦ subst (λ (g : List ℕ × ℕ). CoversChain front log g.0 from n) new here k at behind (omega arith)
    ]

-- all chains are all operations
pub chains_all : (front : List (List ℕ × ℕ)) (log : List Op) (lasts : List (List ℕ × ℕ)) (from n : ℕ) → AreLasts log lasts
    → ((f : List ℕ × ℕ) → Contains lasts f → CoversChain front log f.0 from n) → CoversBetween front log from n
chains_all front log lasts from n are each k op there behind below = by (get_by bytes_eq lasts op.id.replica) refl
  where
    here : HasOpAt log op.id.replica k
    here = record { op = op; there = there; made = refl }

    by : (o : Option ℕ) → get_by bytes_eq lasts op.id.replica ≡ o → covers front op.id ≡ true
    by None is = absurd (are.none op.id.replica is k here)
    by (Some p) is = each (op.id.replica, p) (get-Contains names_ordered lasts op.id.replica p is) k here behind below

-- ---- from one place on and before another

pub covers_none : (front : List (List ℕ × ℕ)) (log : List Op) (from : ℕ) → CoversBetween front log from from
covers_none front log from k op there behind below = absurd (omega arith)

-- behind an operation that the front doesn't cover, it covers none of the replica
pub uncovered_behind : (front : List (List ℕ × ℕ)) (log : List Op) → IsGood log → (name : List ℕ) (k n : ℕ) → HasOpAt log name k → HasOpAt log name n → k ≤ n
    → IsUncovered front log k → IsUncovered front log n
uncovered_behind front log good name k n before here le uncovered op there = by (covers front op.id) refl
  where
    by : (b : Bool) → covers front op.id ≡ b → covers front op.id ≡ false
    by false is = is
    by true is =
        let e = covers_from front op.id is in
        let same : op ≡ here.op = some_same (sym there ∙ here.there) in
        let rises : before.op.id.counter ≤ here.op.id.counter = rises_up_to log good name k n before here le in
        let reached : op.id.counter ≤ (e.0).1 = e.3 in
        let up_to : before.op.id.counter ≤ (e.0).1 = omega (arith, rises, reached, ap (λ (o : Op). o.id.counter) same) in
        let one_name : (e.0).0 ≡ before.op.id.replica = e.2 ∙ ap (λ (o : Op). o.id.replica) same ∙ here.made ∙ sym before.made in
        absurd (search (rules, sym (uncovered before.op before.there) ∙ covers_at front e.0 before.op.id e.1 one_name up_to))

-- what is covered needs no look
pub since-between : (front : List (List ℕ × ℕ)) (log : List Op) (from n : ℕ) → from ≤ n → CoversBetween front log from n → since front (drop n log) ≡ since front (drop from log)
since-between front log zero zero le covered = refl
since-between front [] zero (suc n) le covered = refl
since-between front (op ∷ log) zero (suc n) le covered =
    since-between front log zero n (omega arith) (λ k o there behind below. covered (suc k) o there (omega arith) (omega arith))
    ∙ ap (λ b. if not b then op ∷ since front log else since front log) (sym (covered 0 op refl (omega arith) (omega arith)))
since-between front log (suc from) zero le covered = absurd (omega arith)
since-between front [] (suc from) (suc n) le covered = refl
since-between front (op ∷ log) (suc from) (suc n) le covered =
    since-between front log from n (omega arith) (λ k o there behind below. covered (suc k) o there (omega arith) (omega arith))

-- an operation that isn't covered is the next one
pub since-next : (front : List (List ℕ × ℕ)) (log : List Op) (at : ℕ) (op : Op) → at < length log → op ≡ get_or log at op → covers front op.id ≡ false
    → since front (drop at log) ≡ op ∷ since front (drop (at + 1) log)
since-next front log at op within read is = ap (since front) (drop_read log at op within read) ∙ ap (λ b. if not b then op ∷ since front (drop (at + 1) log) else since front (drop (at + 1) log)) is

-- ---- told one after another

module _ {X : Type 0} where
  pub told_next : (all : List X) (i : ℕ) (x : X) (rest : List X) → drop i all ≡ x ∷ rest → (take (suc i) all ≡ take i all ++ x ∷ []) × (drop (suc i) all ≡ rest)
  told_next [] zero x rest is = absurd cc
  told_next [] (suc i) x rest is = absurd cc
  told_next (y ∷ all) zero x rest is = search (rules, is)
  told_next (y ∷ all) (suc i) x rest is = let later = told_next all i x rest is in (ap (λ l. y ∷ l) later.0, later.1)

  pub told_all : (all : List X) (i limit : ℕ) → drop i all ≡ [] → i ≤ limit → take limit all ≡ take i all
  told_all all i limit is le =
      let few : length all ≤ i = omega (arith, length-drop i all, ap length is) in
      take_all limit all (omega arith) ∙ sym (take_all i all few)

-- the first of what the front doesn't cover were told, and the search goes on at one place and has found another
module _ (front : List (List ℕ × ℕ)) (log : List Op) (from at i : ℕ) (so_far : since front (drop from log) ≡ drop i (since front log))
    (passed : since front (drop at log) ≡ since front (drop from log)) where
  pub next_told : (op : Op) → at < length log → op ≡ get_or log at op → IsUncovered front log at
      → (take (i + 1) (since front log) ≡ take i (since front log) ++ op ∷ []) × (since front (drop (at + 1) log) ≡ drop (i + 1) (since front log))
  next_told op within read uncovered =
      let is = uncovered op (slice_get_read log (length log) at op refl within read) in
      let one : i + 1 ≡ suc i = omega arith in
      let told = told_next (since front log) i op (since front (drop (at + 1) log)) (sym so_far ∙ sym passed ∙ since-next front log at op within read is) in
      rw one (told.0, sym told.1)

  pub all_told : (limit : ℕ) → length log ≤ at → i ≤ limit → take limit (since front log) ≡ take i (since front log)
  all_told limit end le = told_all (since front log) i limit (sym so_far ∙ sym passed ∙ ap (since front) (drop_all at log end)) le
