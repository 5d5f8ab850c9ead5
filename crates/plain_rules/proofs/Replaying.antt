-- A plain replay, operation by operation.
use Rattle.std.proofs.Common.{◌≡◌, ℕ, suc, ◌+◌, ◌<◌, ◌≤◌, List, [], ◌∷◌, ◌++◌, length, take, drop, get_or, map, filter, Bool, true, false, ◌&&◌, ◌||◌, if◌then◌else◌, refl, sym, ap, ◌∙◌, append-nil, arith}
use Rattle.std.proofs.Math.Seq.{drop-cons}
use Rattle.std.proofs.lemmas.List.{drop_all, map-append, take_more}
use Rattle.std.proofs.lemmas.List.Elements.{filter-append}
use lib.Seq.{take-suc}
use Rattle.lamport_id.specs.declared.id.Id.{Id}
use Rattle.op_core.specs.declared.cursor.Tagged.{Tagged}
use Rattle.op_core.specs.Op.{Op}
use Rattle.version_vector.specs.Front.{covers}
use Rattle.crdt_rules.specs.Same.{id_eq}
use Rattle.crdt_rules.specs.Dependencies.{dependencies, is_logged}
use Rattle.crdt_rules.specs.Context.{Context, empty, present, register, counter, order, step}
use Rattle.crdt_rules.specs.Facts.{facts, context_at}
use Rattle.crdt_rules.specs.Log.{replay, replay_after}
use Rattle.std.proofs.Math.Bool.{and-false}
use Rattle.crdt_rules.proofs.SameLaws.{id_decides}
use Rattle.plain_rules.specs.Plain.{is_in, blank_context}
use Rattle.plain_rules.proofs.Descending.{descend-made}

-- the ids of the first operations that pass a test, with one more operation
module _ (p : Id → Bool) (ops : List Op) (i : ℕ) (x : Op) (within : i < length ops) (is : x ≡ get_or ops i x) where
  one_more_id : filter p (map (λ o. o.id) (take (i + 1) ops)) ≡ filter p (map (λ o. o.id) (take i ops)) ++ filter p (x.id ∷ [])
  one_more_id =
      ap (λ (l : List Op). filter p (map (λ o. o.id) l)) (take_more ops i x within ∙ ap (λ y. take i ops ++ y ∷ []) (sym is))
      ∙ ap (filter p) (map-append (λ (o : Op). o.id) (take i ops) (x ∷ []))
      ∙ filter-append p (map (λ o. o.id) (take i ops)) (x.id ∷ [])

  pub ids-more : p x.id ≡ true → filter p (map (λ o. o.id) (take (i + 1) ops)) ≡ filter p (map (λ o. o.id) (take i ops)) ++ x.id ∷ []
  ids-more passes = one_more_id ∙ ap (λ l. filter p (map (λ o. o.id) (take i ops)) ++ l) (rw passes refl)

  pub ids-passed : p x.id ≡ false → filter p (map (λ o. o.id) (take (i + 1) ops)) ≡ filter p (map (λ o. o.id) (take i ops))
  ids-passed fails =
      one_more_id ∙ ap (λ l. filter p (map (λ o. o.id) (take i ops)) ++ l) (rw fails refl) ∙ append-nil (filter p (map (λ o. o.id) (take i ops)))

-- the ids of earlier operations that a front covers are the dependencies
pub is_in-covered : (op : Op) (log : List Op) (i : Id) → is_in (filter (covers op.front) (map (λ o. o.id) log)) i ≡ dependencies op log i
is_in-covered op [] i = sym (and-false (covers op.front i))
is_in-covered op (o ∷ log) i =
    by (covers op.front o.id) (id_eq o.id i) refl (λ h. ap (covers op.front) (id_decides.same o.id i h)) (is_in-covered op log i)
  where
    by : (c here : Bool) → id_eq o.id i ≡ here → (here ≡ true → c ≡ covers op.front i)
        → is_in (filter (covers op.front) (map (λ o. o.id) log)) i ≡ (covers op.front i && is_logged log i)
        → is_in (if c then o.id ∷ filter (covers op.front) (map (λ o. o.id) log) else filter (covers op.front) (map (λ o. o.id) log)) i
        ≡ (covers op.front i && (here || is_logged log i))
    by true true h same ih = rw h (rw (sym (same refl)) refl)
    by true false h same ih = rw h ih
    by false true h same ih = ih ∙ rw (sym (same refl)) refl
    by false false h same ih = ih

-- one step of the loop
pub replay_next : (ops : List Op) (j : ℕ) (op : Op) (ctx changed : Context) (deps : List Id) → j < length ops → op ≡ get_or ops j op
    → deps ≡ filter (covers op.front) (map (λ o. o.id) (take j ops)) → changed ≡ step ctx op (is_in deps)
    → replay_after (take (j + 1) ops) (drop (j + 1) ops) changed ≡ replay_after (take j ops) (drop j ops) ctx
replay_next ops j op ctx changed deps within is known change =
    let one : j + 1 ≡ suc j = omega arith in
    let later : drop j ops ≡ op ∷ drop (suc j) ops = drop-cons ops j op within ∙ ap (λ o. o ∷ drop (suc j) ops) (sym is) in
    let before : take (suc j) ops ≡ take j ops ++ op ∷ [] = take-suc ops j op within ∙ ap (λ o. take j ops ++ o ∷ []) (sym is) in
    let same : is_in deps ≡ dependencies op (take j ops) = ap is_in known ∙ (λ x i. is_in-covered op (take j ops) i x) in
    ap (λ n. replay_after (take n ops) (drop n ops) changed) one
    ∙ ap (λ b. replay_after b (drop (suc j) ops) changed) before
    ∙ ap (replay_after (take j ops ++ op ∷ []) (drop (suc j) ops)) (change ∙ ap (step ctx op) same)
    ∙ ap (λ l. replay_after (take j ops) l ctx) (sym later)

facts-blank : facts blank_context ≡ facts empty
facts-blank = λ x.
    record {
      present = λ p. by_present p x;
      register = λ p. by_register p x;
      counter = λ p. by_counter p x;
      order = λ p. by_order p x;
    }
  where
    by_present : (p : List Tagged) → present (context_at blank_context p) ≡ present (context_at empty p)
    by_present [] = refl
    by_present (t ∷ p) = refl

    by_register : (p : List Tagged) → register (context_at blank_context p) ≡ register (context_at empty p)
    by_register [] = refl
    by_register (t ∷ p) = refl

    by_counter : (p : List Tagged) → counter (context_at blank_context p) ≡ counter (context_at empty p)
    by_counter [] = refl
    by_counter (t ∷ p) = refl

    by_order : (p : List Tagged) → order (context_at blank_context p) ≡ order (context_at empty p)
    by_order [] = refl
    by_order (t ∷ p) = refl

-- a replay that starts with a context that was made has the facts of one that starts with none
replay-blank : (ops : List Op) → facts (replay_after [] ops blank_context) ≡ facts (replay ops)
replay-blank [] = facts-blank
replay-blank (op ∷ ops) =
    ap (λ ctx. facts (replay_after (op ∷ []) ops ctx)) (descend-made (dependencies op []) op op.cursor.path empty)

pub replay_end : (ops : List Op) (j : ℕ) (ctx : Context) → length ops ≤ j
    → replay_after (take j ops) (drop j ops) ctx ≡ replay_after [] ops blank_context → facts ctx ≡ facts (replay ops)
replay_end ops j ctx all same =
    ap facts (ap (λ l. replay_after (take j ops) l ctx) (sym (drop_all j ops all)) ∙ same) ∙ replay-blank ops
