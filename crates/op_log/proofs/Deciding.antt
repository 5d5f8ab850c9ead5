-- What the first cause against an operation tells.
use Rattle.std.proofs.Common.{◌≡◌, ℕ, suc, ◌<◌, ◌≤◌, List, [], ◌∷◌, length, Bool, true, false, not, nat_eq, nat_le, unwrap_or, Option, Result, Ok, Err, refl, sym, ap, subst, ◌∙◌, arith, leb-true, le-leb}
use Rattle.std.specs.Prelude.{⊤, IsOk, ◌↔◌}
use Rattle.std.specs.Option.{option_eq}
use Rattle.doc_api.specs.Words.{Refusal, Op}
use Rattle.json_scalar.specs.declared.refusal.Refusal.TheVariants.{BadFront, Forked, BadCursor, LogFull, TooManyReplicas}
use Rattle.op_core.specs.Shape.{is_shaped}
use Rattle.crdt_rules.specs.Dependencies.{entry_of}
use Rattle.crdt_rules.specs.Fits.{Fits, knows_front, knows_cursor, last_counter, replicas}
use Rattle.doc_rules.specs.Cause.{follows_last, first_fit_cause, cause_of, room_cause}
use Rattle.doc_rules.proofs.Causes.{fits_from, cause_none}

ok_alone : (r : Result ⊤ Refusal) → IsOk r → r ≡ Ok tt
ok_alone (Ok tt) h = refl
ok_alone (Err e) h = absurd (cc)

-- an operation fits just where there is none
pub decides : (op : Op) (log : List Op) (answer : Result ⊤ Refusal) → is_shaped op ≡ true → answer ≡ cause_of op log → IsOk answer ↔ Fits op log
decides op log answer shaped is = (
  (λ ok. fits_from op log shaped (sym is ∙ ok_alone answer ok)),
  (λ fits. subst (λ (r : Result ⊤ Refusal). IsOk r) (sym (is ∙ cause_none op log fits)) refl),
)

-- where only the room is in question, the last counter is not told
room_alone : (a b : Bool) (last other : ℕ) → first_fit_cause true true true a b last ≡ first_fit_cause true true true a b other
room_alone false b last other = refl
room_alone true false last other = refl
room_alone true true last other = refl

pub room_full : (log : List Op) (op : Op) → 100000 ≤ length log → Err LogFull ≡ room_cause op log
room_full log op h = by (nat_le (length (op ∷ log)) 100000) refl
  where
    full : (n : ℕ) → 100000 ≤ n → nat_le (suc n) 100000 ≡ true → ⊥
    full n h e = let few : suc n ≤ 100000 = leb-true (suc n) 100000 e in omega arith

    by : (b : Bool) → nat_le (length (op ∷ log)) 100000 ≡ b → Err LogFull ≡ first_fit_cause true true true b (nat_le (length (replicas (op ∷ log))) 256) 0
    by true e = absurd (full (length log) h e)
    by false e = refl

few_enough : (n : ℕ) → n < 100000 → nat_le (suc n) 100000 ≡ true
few_enough n h = le-leb (suc n) 100000 (omega arith)

pub room_replicas : (log : List Op) (op : Op) → length log < 100000 → false ≡ nat_le (length (replicas (op ∷ log))) 256 → Err TooManyReplicas ≡ room_cause op log
room_replicas log op h none =
    (λ i. first_fit_cause true true true (sym (few_enough (length log) h) i) (none i) 0)

pub room_left : (log : List Op) (op : Op) → length log < 100000 → true ≡ nat_le (length (replicas (op ∷ log))) 256 → Ok tt ≡ room_cause op log
room_left log op h some =
    (λ i. first_fit_cause true true true (sym (few_enough (length log) h) i) (some i) 0)

-- whether an operation follows the last of its replica, by the counters that are compared
pub follows_told : (op : Op) (log : List Op) (counter last : Option ℕ) (differ : Bool) → counter ≡ entry_of op.front op.id.replica → last ≡ last_counter log op.id.replica
    → differ ≡ not (option_eq nat_eq counter last) → follows_last op log ≡ not differ
follows_told op log counter last differ counter_is last_is is =
    (λ i. option_eq nat_eq (sym counter_is i) (sym last_is i)) ∙ twice (option_eq nat_eq counter last) ∙ ap not (sym is)
  where
    twice : (b : Bool) → b ≡ not (not b)
    twice true = refl
    twice false = refl

-- what is told by the first test that fails
module _ (op : Op) (log : List Op) where
  abbrev by_tests : Bool → Bool → Bool → Result ⊤ Refusal
  by_tests front chain cursor =
      first_fit_cause front chain cursor (nat_le (length (op ∷ log)) 100000) (nat_le (length (replicas (op ∷ log))) 256) (unwrap_or (last_counter log op.id.replica) 0)

  module _ (front : knows_front op.front log ≡ true) where
    module _ (chain : follows_last op log ≡ true) where
      pub cause_of_cursor : knows_cursor op.front log [] op.cursor.path op.cursor.key ≡ false → Err BadCursor ≡ cause_of op log
      cause_of_cursor cursor = (λ i. by_tests (sym front i) (sym chain i) (sym cursor i))

      pub cause_of_room : knows_cursor op.front log [] op.cursor.path op.cursor.key ≡ true → room_cause op log ≡ cause_of op log
      cause_of_room cursor =
          room_alone (nat_le (length (op ∷ log)) 100000) (nat_le (length (replicas (op ∷ log))) 256) 0 (unwrap_or (last_counter log op.id.replica) 0)
          ∙ (λ i. by_tests (sym front i) (sym chain i) (sym cursor i))

    pub cause_of_chain : follows_last op log ≡ false → Err (Forked (unwrap_or (last_counter log op.id.replica) 0)) ≡ cause_of op log
    cause_of_chain chain = (λ i. by_tests (sym front i) (sym chain i) (knows_cursor op.front log [] op.cursor.path op.cursor.key))

  pub cause_of_front : knows_front op.front log ≡ false → Err BadFront ≡ cause_of op log
  cause_of_front front = (λ i. by_tests (sym front i) (follows_last op log) (knows_cursor op.front log [] op.cursor.path op.cursor.key))
