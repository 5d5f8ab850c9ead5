-- The operations of one replica in a log, and what a search among them finds.
use Rattle.std.proofs.Common.{◌≡◌, ◌≢◌, ℕ, ◌<◌, ◌≤◌, ◌⊎◌, inl, inr, zero, suc, List, [], ◌∷◌, ◌++◌, length, get_or, Option, Some, None, Contains, Bor, refl, sym, ap, subst, ◌∙◌, arith}
use Rattle.std.specs.Prelude.{is_some}
use Rattle.std.specs.List.{slice_get}
use Rattle.std.specs.Option.{option_copied}
use Rattle.std.proofs.lemmas.Bool.{cases_lt}
use Rattle.std.proofs.lemmas.Option.{slice_get_within, get_or_from_slice_get, slice_get-get_or}
use Rattle.list_laws.proofs.Scanning.{Contains-from_slice_get}
use Rattle.doc_api.specs.Words.{Id, Op}
use Rattle.crdt_rules.specs.Dependencies.{is_logged}
use Rattle.crdt_rules.specs.Fits.{Fits}
use Rattle.crdt_rules.specs.Log.{IsGood}
use Rattle.crdt_rules.proofs.Chain.{chain_covers, covered_less}
use Rattle.crdt_rules.proofs.Logs.{by_fits}
use Rattle.crdt_rules.proofs.Tests.{some_same, some≢none}
use Rattle.doc_rules.specs.Replica.{find_id}
use Rattle.crdt_rules.proofs.GoodLogs.{ids_once}
use Rattle.op_log.proofs.Ids.{find_id-Contains, find_id-none, is_logged-find_id}
use Rattle.op_log.specs.Index.{HasOpAt, IsLink, IsLast, IsFirstFrom}
use Rattle.op_log.specs.declared.index.Link.{Link}

module _ {X : Type 0} where
  pub slice_get-Contains : (xs : List X) {x : X} → Contains xs x → (k : ℕ) × (slice_get xs k ≡ Some x)
  slice_get-Contains xs {x} c = (c.0, slice_get-get_or xs c.0 x c.1 ∙ ap (λ (y : X). Some y) c.2)

  -- the elements of a list with one more
  pub slice_get-push_old : (xs : List X) (y : X) (k : ℕ) {x : X} → slice_get xs k ≡ Some x → slice_get (xs ++ y ∷ []) k ≡ Some x
  slice_get-push_old [] y k h = absurd (some≢none (sym h))
  slice_get-push_old (z ∷ xs) y zero h = h
  slice_get-push_old (z ∷ xs) y (suc k) h = slice_get-push_old xs y k h

  pub slice_get-push_new : (xs : List X) (y : X) → slice_get (xs ++ y ∷ []) (length xs) ≡ Some y
  slice_get-push_new [] y = refl
  slice_get-push_new (z ∷ xs) y = slice_get-push_new xs y

  pub slice_get-push_cases : (xs : List X) (y : X) (k : ℕ) {x : X} → slice_get (xs ++ y ∷ []) k ≡ Some x → (slice_get xs k ≡ Some x) ⊎ ((k ≡ length xs) × (y ≡ x))
  slice_get-push_cases [] y zero h = inr (refl, some_same h)
  slice_get-push_cases [] y (suc k) h = absurd (some≢none (sym h))
  slice_get-push_cases (z ∷ xs) y zero h = inl h
  slice_get-push_cases (z ∷ xs) y (suc k) h =
      elim (slice_get-push_cases xs y k h) [ inl old ↦ inl old | inr new ↦ inr (ap (λ n. suc n) new.0, new.1) ]

-- what is read at a place
pub read_at : (log : List Op) (k : ℕ) (op x : Op) → slice_get log k ≡ Some op → x ≡ get_or log k x → x ≡ op
read_at log k op x there read = read ∙ get_or_from_slice_get log k op x there

pub stands-within : {log : List Op} {name : List ℕ} {k : ℕ} → HasOpAt log name k → k < length log
stands-within {log} {k = k} at = slice_get_within log k at.op at.there

-- ---- the counters of a replica's operations rise

pub chain_rises : (log : List Op) → IsGood log → (name : List ℕ) (j k : ℕ) (a : HasOpAt log name j) (b : HasOpAt log name k) → j < k → a.op.id.counter < b.op.id.counter
chain_rises =
    by_fits (λ log. (name : List ℕ) (j k : ℕ) (a : HasOpAt log name j) (b : HasOpAt log name k) → j < k → a.op.id.counter < b.op.id.counter)
    (λ name j k a b below. absurd (some≢none (sym a.there)))
    push
  where
    push : (log : List Op) (op : Op) → IsGood log → Fits op log
        → ((name : List ℕ) (j k : ℕ) (a : HasOpAt log name j) (b : HasOpAt log name k) → j < k → a.op.id.counter < b.op.id.counter)
        → (name : List ℕ) (j k : ℕ) (a : HasOpAt (log ++ op ∷ []) name j) (b : HasOpAt (log ++ op ∷ []) name k) → j < k → a.op.id.counter < b.op.id.counter
    push log op good fits ih name j k a b below =
        elim (slice_get-push_cases log op j a.there) [
          | inl old ↦ elim (slice_get-push_cases log op k b.there) [
            | inl later ↦ ih name j k (record { op = a.op; there = old; made = a.made }) (record { op = b.op; there = later; made = b.made }) below
            | inr new ↦
                let same : a.op.id.replica ≡ op.id.replica = a.made ∙ sym (ap (λ (o : Op). o.id.replica) new.1 ∙ b.made) in
                subst (λ (o : Op). a.op.id.counter < o.id.counter) new.1
                (covered_less fits a.op.id (chain_covers fits a.op (Contains-from_slice_get log j _ old) same))
          ]
          | inr last ↦ absurd (beyond (slice_get-push_cases log op k b.there) last.0)
        ]
      where
        beyond : (slice_get log k ≡ Some b.op) ⊎ ((k ≡ length log) × (op ≡ b.op)) → j ≡ length log → ⊥
        beyond (inl old) end = let within : k < length log = slice_get_within log k b.op old in omega arith
        beyond (inr new) end = let e : k ≡ length log = new.0 in omega arith

pub rises_up_to : (log : List Op) → IsGood log → (name : List ℕ) (j k : ℕ) (a : HasOpAt log name j) (b : HasOpAt log name k) → j ≤ k → a.op.id.counter ≤ b.op.id.counter
rises_up_to log good name j k a b up_to =
    elim (cases_lt j k) [
      | inl before ↦ let rises : a.op.id.counter < b.op.id.counter = chain_rises log good name j k a b before in omega arith
      | inr behind ↦
          let same : j ≡ k = omega arith in
          let one : a.op ≡ b.op = some_same (sym a.there ∙ ap (slice_get log) same ∙ b.there) in
          let equal : a.op.id.counter ≡ b.op.id.counter = ap (λ (o : Op). o.id.counter) one in
          omega arith
    ]

-- ---- what a search finds

-- an operation has its place
pub placed : (log : List Op) (i : Id) {o : Op} → Contains log o → o.id ≡ i → (k : ℕ) × (at : HasOpAt log i.replica k) × (at.op.id.counter ≡ i.counter)
placed log i {o} c is =
    let at = slice_get-Contains log c in
    (at.0, record { op = o; there = at.1; made = ap (λ (x : Id). x.replica) is }, ap (λ (x : Id). x.counter) is)

module _ (log : List Op) (good : IsGood log) (i : Id) where
  -- an id behind the last of its replica is not logged
  pub none_behind : (last : ℕ) → IsLast log i.replica last → ((op : Op) → slice_get log last ≡ Some op → op.id.counter < i.counter) → find_id log i ≡ None
  none_behind last is beyond =
      find_id-none log i
      (λ o c e.
      let at = placed log i c e in
      let up_to : (at.1).op.id.counter ≤ (is.here).op.id.counter = rises_up_to log good i.replica at.0 last at.1 is.here (is.last at.0 at.1) in
      let less : (is.here).op.id.counter < i.counter = beyond (is.here).op (is.here).there in
      let equal : (at.1).op.id.counter ≡ i.counter = at.2 in
      omega arith)

  -- the first from its counter on is it, if it has the counter
  pub first_found : (k : ℕ) → IsFirstFrom log i.replica 0 i.counter k → (op : Op) → slice_get log k ≡ Some op → op.id.counter ≡ i.counter → find_id log i ≡ Some op
  first_found k first op there equal =
      let at = first.here in
      let same : at.op ≡ op = some_same (sym at.there ∙ there) in
      let made : op.id.replica ≡ i.replica = ap (λ (o : Op). o.id.replica) (sym same) ∙ at.made in
      let is : op.id ≡ i = λ j. record { counter = equal j; replica = made j } in
      find_id-Contains log i (ids_once log good) (Contains-from_slice_get log k _ there) is

  pub first_other : (k : ℕ) → IsFirstFrom log i.replica 0 i.counter k → ((op : Op) → slice_get log k ≡ Some op → op.id.counter ≢ i.counter) → find_id log i ≡ None
  first_other k first other =
      find_id-none log i
      (λ o c e.
      let at = placed log i c e in
      let equal : (at.1).op.id.counter ≡ i.counter = at.2 in
      elim (cases_lt at.0 k) [
        | inl before ↦ let less : (at.1).op.id.counter < i.counter = first.first at.0 at.1 (omega arith) before in omega arith
        | inr behind ↦
            let reaches : i.counter ≤ (first.here).op.id.counter = first.reaches in
            let up_to : (first.here).op.id.counter ≤ (at.1).op.id.counter = rises_up_to log good i.replica k at.0 first.here at.1 behind in
            let same : (first.here).op.id.counter ≡ i.counter = omega arith in
            absurd (other (first.here).op (first.here).there same)
      ])

-- where the one before it does not reach the counter, an operation is the first that does
pub first_here : (log : List Op) → IsGood log → (name : List ℕ) (from counter k : ℕ) (link : Link) → IsLink log name k link → (here : HasOpAt log name k) → counter ≤ here.op.id.counter
    → (link.before < k → from ≤ link.before → (op : Op) → slice_get log link.before ≡ Some op → op.id.counter < counter) → IsFirstFrom log name from counter k
first_here log good name from counter k link is here reaches short = record {
  here = here;
  reaches = reaches;
  first = λ j at behind below.
      let next = is.next j at below in
      let up_to : at.op.id.counter ≤ (is.before).op.id.counter = rises_up_to log good name j link.before at is.before next.0 in
      let less : (is.before).op.id.counter < counter = short next.1 (omega (arith, behind, next.0)) (is.before).op (is.before).there in
      omega arith;
}

-- what is found by an id or not tells whether it is logged
pub found_logged : (log : List Op) (i : Id) (r : Option (Bor Op)) → option_copied r ≡ find_id log i → is_some r ≡ is_logged log i
found_logged log i r found = copied r ∙ ap (λ (o : Option Op). is_some o) found ∙ sym (is_logged-find_id log i)
  where
    copied : (o : Option (Bor Op)) → is_some o ≡ is_some (option_copied o)
    copied None = refl
    copied (Some x) = refl
