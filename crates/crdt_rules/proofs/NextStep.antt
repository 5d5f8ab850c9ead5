-- One more operation of a good log: the step that it takes on the facts, told by its front alone, and what an insertion
-- finds in its list.
use Rattle.std.proofs.Common.{◌≡◌, List, [], ◌∷◌, ◌++◌, Bool, true, false, ◌&&◌, ◌||◌, not, Option, Some, None, if◌then◌else◌, Contains, refl, sym, ap, subst, ◌∙◌}
use Rattle.std.proofs.lemmas.Bool.{and_parts, and_from}
use Rattle.std.specs.Option.{ForSome}
use Rattle.lamport_id.specs.declared.id.Id.{Id}
use Rattle.op_core.specs.declared.cursor.Key.{Key}
use Rattle.op_core.specs.declared.cursor.Tagged.{Tagged}
use Rattle.op_core.specs.declared.mutation.Mutation.{Mutation}
use Rattle.op_core.specs.Op.{Op}
use Rattle.version_vector.specs.Front.{covers}
use Rattle.lamport_id.specs.Order.{id_cmp}
use Rattle.list_laws.specs.Order.{IsKnown, order_of}
use Rattle.list_laws.proofs.Histories.{order_of_history}
use Rattle.crdt_rules.specs.Same.{id_eq, path_eq}
use Rattle.crdt_rules.specs.Effect.{clears, marks, is_insertion, scalar_put, number_added, path_of}
use Rattle.crdt_rules.specs.Context.{reference, entered}
use Rattle.crdt_rules.specs.Dependencies.{is_logged, dependencies}
use Rattle.crdt_rules.specs.Facts.{facts, step_facts, ends_here, inserts}
use Rattle.crdt_rules.specs.Fits.{Fits}
use Rattle.crdt_rules.specs.Free.{is_cleared, free_present, value_at, free_values, insertions}
use Rattle.crdt_rules.specs.Log.{IsGood, replay}
use Rattle.crdt_rules.proofs.SameLaws.{id_decides, path_decides}
use Rattle.crdt_rules.proofs.Tests.{any_from, some_same, some≢none}
use Rattle.crdt_rules.proofs.Readings.{here_from, logged_at}
use Rattle.crdt_rules.proofs.StepFacts.{facts_step, none_either}
use Rattle.crdt_rules.proofs.Logs.{replay-push}
use Rattle.crdt_rules.proofs.ReplayFacts.{replay_present, replay_register, replay_counter, value_at-from}
use Rattle.crdt_rules.proofs.ReplayOrder.{replay_order, history_fits, insertions_formed}
use Rattle.crdt_rules.proofs.WalkLaws.{id_order}

-- what a set says of an id, it says of one of its operations
marked_logged : (set : List Op) (p : List Tagged) (k : Key) (i : Id) → free_present set p k i ≡ true → is_logged set i ≡ true
marked_logged set p k i h =
    let r = any_from (λ o. id_eq o.id i && marks o p k) set (and_parts _ (not (is_cleared set p k i)) h).0 in
    logged_at set r.0 i r.1 (id_decides.same (r.0).id i (and_parts (id_eq (r.0).id i) (marks r.0 p k) r.2).0)

entered_logged : {X : Type 0} (put : Mutation → Option X) (set : List Op) (p : List Tagged) (k : Key) (i : Id) (x : X) → free_values put set p k i ≡ Some x
    → is_logged set i ≡ true
entered_logged {X} put set p k i x h = by (is_cleared set p k i) h
  where
    by : (b : Bool) → ◌≡◌ {A = Option X} (if b then None else value_at put set p k i) (Some x) → is_logged set i ≡ true
    by true e = absurd (cc)
    by false e = let r = value_at-from put set p k i x e in logged_at set r.0 i r.1 (here_from r.0 p k i r.2).id

-- that an id is logged need not be asked where it is known
kept_mark : (was cut covered logged : Bool) → (was ≡ true → logged ≡ true) → (was && not (cut && (covered && logged))) ≡ (was && not (cut && covered))
kept_mark false cut covered logged f = refl
kept_mark true cut covered logged f = rw (f refl) (asked cut covered)
  where
    asked : (a b : Bool) → not (a && (b && true)) ≡ not (a && b)
    asked true true = refl
    asked true false = refl
    asked false b = refl

kept_value : {X : Type 0} (cut covered logged : Bool) (v : Option X) → ((x : X) → v ≡ Some x → logged ≡ true)
    → ◌≡◌ {A = Option X} (if cut && (covered && logged) then None else v) (if cut && covered then None else v)
kept_value cut covered logged None f = none_either (cut && (covered && logged)) ∙ sym (none_either (cut && covered))
kept_value {X} cut covered logged (Some x) f = rw (f x refl) (asked cut covered)
  where
    asked : (a b : Bool) → ◌≡◌ {A = Option X} (if a && (b && true) then None else Some x) (if a && b then None else Some x)
    asked true true = refl
    asked true false = refl
    asked false b = refl

module _ (log : List Op) (good : IsGood log) (op : Op) where
  -- a step asks of the facts of a log only what the front covers
  step_by_front : step_facts (facts (replay log)) op (dependencies op log) ≡ step_facts (facts (replay log)) op (covers op.front)
  step_by_front = λ x.
      record {
        present = λ p k i.
            kept_mark ((facts (replay log)).present p k i) (clears op p k) (covers op.front i) (is_logged log i)
            (λ h. marked_logged log p k i (sym (ap (λ f. f p k i) (replay_present log good)) ∙ h)) x
            || (marks op p k && id_eq op.id i);
        register = λ p k i.
            entered (ends_here op p k i) (scalar_put op.mutation)
            (kept_value (clears op p k) (covers op.front i) (is_logged log i) ((facts (replay log)).register p k i)
            (λ s h. entered_logged scalar_put log p k i s (sym (ap (λ f. f p k i) (replay_register log good)) ∙ h)) x);
        counter = λ p k i.
            entered (ends_here op p k i) (number_added op.mutation)
            (kept_value (clears op p k) (covers op.front i) (is_logged log i) ((facts (replay log)).counter p k i)
            (λ n h. entered_logged number_added log p k i n (sym (ap (λ f. f p k i) (replay_counter log good)) ∙ h)) x);
        order = (step_facts (facts (replay log)) op (covers op.front)).order;
      }

  -- The facts after one more operation.
  pub facts_push : facts (replay (log ++ op ∷ [])) ≡ step_facts (facts (replay log)) op (covers op.front)
  facts_push = ap facts (replay-push log op) ∙ facts_step (replay log) op (dependencies op log) ∙ step_by_front

  module _ (fits : Fits op log) (insertion : is_insertion op.mutation ≡ true) where
    abbrev list : List Tagged
    list = path_of op

    here : inserts op list ≡ true
    here = and_from (is_insertion op.mutation) (path_eq list list) insertion (path_decides.itself list)

    order_is : (facts (replay log)).order list ≡ order_of id_cmp (insertions log list)
    order_is = replay_order list log good

    -- what it comes after stands in its list
    pub reference_stands : ForSome (reference op.cursor.key) (Contains ((facts (replay log)).order list))
    reference_stands = by (reference op.cursor.key) (history_fits fits list here).known
      where
        by : (r : Option Id) → IsKnown (insertions log list) r → ForSome r (Contains ((facts (replay log)).order list))
        by None known = λ x e. absurd (some≢none (sym e))
        by (Some prev) known = λ x e.
            subst (Contains ((facts (replay log)).order list)) (some_same e)
            (subst (λ l. Contains l prev) (sym order_is)
            (((order_of_history id_order (insertions log list) (insertions_formed list log good)).members prev).1 known))

    -- and it does not
    pub id_is_new : ¬ (Contains ((facts (replay log)).order list) op.id)
    id_is_new c =
        (history_fits fits list here).new
        (((order_of_history id_order (insertions log list) (insertions_formed list log good)).members op.id).0 (subst (λ l. Contains l op.id) order_is c))
