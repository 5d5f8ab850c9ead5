-- What stands in a register or a counter, and what was put at a place, is from an operation that ends there.
use Rattle.std.proofs.Common.{◌≡◌, ℕ, ℤ, List, [], ◌∷◌, Bool, true, false, not, Option, Some, None, if◌then◌else◌, Contains, refl, sym, ap, ◌∙◌, map, filter}
use Rattle.std.specs.List.{list_all}
use Rattle.std.proofs.lemmas.Bool.{and_from, both_ways}
use Rattle.doc_api.specs.Words.{Id, Scalar, Op, Key, Tagged}
use Rattle.version_vector.specs.Front.{id_of}
use Rattle.crdt_rules.specs.Dependencies.{is_logged, is_ready, missing}
use Rattle.crdt_rules.specs.Effect.{number_added, scalar_put}
use Rattle.crdt_rules.specs.Facts.{facts, ends_here}
use Rattle.crdt_rules.specs.Free.{is_cleared}
use Rattle.crdt_rules.specs.Free as free
use Rattle.crdt_rules.specs.Log.{IsGood, replay}
use Rattle.crdt_rules.proofs.ReplayFacts.{value_at-from, replay_register, replay_counter}
use Rattle.crdt_rules.proofs.Tests.{some≢none}

-- an operation of the log ends at the place
pub record IsFrom (log : List Op) (p : List Tagged) (k : Key) (i : Id) (o : Op) : Type 0 where
  pub logged : Contains log o
  pub here : ends_here o p k i ≡ true

pub register_from : (log : List Op) (p : List Tagged) (k : Key) (i : Id) (s : Scalar) → IsGood log → (facts (replay log)).register p k i ≡ Some s
    → (o : Op) × IsFrom log p k i o × (scalar_put o.mutation ≡ Some s)
register_from log p k i s good h = by (is_cleared log p k i) (ap (λ f. f p k i) (sym (replay_register log good)) ∙ h)
  where
    by : (b : Bool) → ◌≡◌ {A = Option Scalar} (if b then None else free.value_at scalar_put log p k i) (Some s) → (o : Op) × IsFrom log p k i o × (scalar_put o.mutation ≡ Some s)
    by true h = absurd (some≢none (sym h))
    by false h = let r = value_at-from scalar_put log p k i s h in (r.0, record { logged = r.1; here = r.2 }, r.3)

pub counter_from : (log : List Op) (p : List Tagged) (k : Key) (i : Id) (n : ℤ) → IsGood log → (facts (replay log)).counter p k i ≡ Some n
    → (o : Op) × IsFrom log p k i o × (number_added o.mutation ≡ Some n)
counter_from log p k i n good h = by (is_cleared log p k i) (ap (λ f. f p k i) (sym (replay_counter log good)) ∙ h)
  where
    by : (b : Bool) → ◌≡◌ {A = Option ℤ} (if b then None else free.value_at number_added log p k i) (Some n)
        → (o : Op) × IsFrom log p k i o × (number_added o.mutation ≡ Some n)
    by true h = absurd (some≢none (sym h))
    by false h = let r = value_at-from number_added log p k i n h in (r.0, record { logged = r.1; here = r.2 }, r.3)

-- an operation that isn't ready lacks something
pub lacks_something : (op : Op) (log : List Op) → is_ready op log ≡ false → ¬ (missing op log ≡ [])
lacks_something op log h none = both_ways (is_ready op log) h (all op.front none)
  where
    all : (front : List (List ℕ × ℕ)) → filter (λ i. not (is_logged log i)) (map id_of front) ≡ [] → list_all (λ e. is_logged log (id_of e)) front ≡ true
    all [] none = refl
    all (e ∷ front) none = by (is_logged log (id_of e)) refl none (λ none. all front none)
      where
        by : (b : Bool) → is_logged log (id_of e) ≡ b
            → (if not b then id_of e ∷ filter (λ i. not (is_logged log i)) (map id_of front) else filter (λ i. not (is_logged log i)) (map id_of front)) ≡ []
            → (filter (λ i. not (is_logged log i)) (map id_of front) ≡ [] → list_all (λ e. is_logged log (id_of e)) front ≡ true)
            → list_all (λ e. is_logged log (id_of e)) (e ∷ front) ≡ true
        by true e none ih = and_from _ _ e (ih none)
        by false e none ih = absurd (let h = none in cc)
