-- What is read at a place, and what a tree says, is the same for all causal orders of a log, and for its set.
use Rattle.std.proofs.Common.{◌≡◌, ◌⊎◌, inl, inr, ℕ, List, [], ◌∷◌, Bool, true, false, Option, Some, None, if◌then◌else◌, Contains, refl, sym, ap, subst, ◌∙◌, true≢false}
use mathlib.Core.Path.{fun_ext}
use Rattle.doc_api.specs.Words.{Id, Key, Tagged, Op}
use Rattle.doc_api.specs.declared.ask.Counts.{Counts}
use Rattle.doc_api.specs.declared.ask.Query.{Query}
use Rattle.doc_api.specs.declared.ask.Query.TheVariants as query
use Rattle.doc_api.specs.declared.reply.Reply.{Reply}
use Rattle.doc_api.specs.declared.role.Role.{Role}
use Rattle.list_laws.specs.Walk.{SameMembers}
use Rattle.list_laws.proofs.Members.{Contains-nil, Contains-here, Contains-there, Contains-cases}
use Rattle.crdt_rules.specs.Effect.{value_put}
use Rattle.crdt_rules.specs.Facts.{Facts, ends_here}
use Rattle.crdt_rules.specs.Log.{IsGood, IsCausalOrder}
use Rattle.crdt_rules.proofs.Readings.{here_from}
use Rattle.crdt_rules.proofs.Orders as Laws
use Rattle.crdt_rules.proofs.SameSet.{HasOneEach, good_one_each, replay_free, facts_of_one_set}
use Rattle.doc_rules.specs.Answers.{MayAnswer}
use Rattle.doc_rules.specs.Replica.{Replica, replica_facts}
use Rattle.doc_rules.specs.Role.{AreOf, value_put_at}
use Rattle.doc_rules.proofs.SameOperations.{role_at-same}
use Rattle.locked_doc.specs.Places.{IsReadOf, IsReadInEachOrder, IsReadOfSet}

-- ---- the values that a set of operations puts

-- what an operation puts here is what its set puts here
put_by : (set : List Op) → HasOneEach set → (p : List Tagged) (k : Key) (i : Id) (o : Op) → Contains set o → ends_here o p k i ≡ true
    → value_put_at set p k i ≡ value_put o.mutation
put_by [] one p k i o c h = absurd (Contains-nil c)
put_by (z ∷ set) one p k i o c h =
    by (ends_here z p k i) refl (Contains-cases z set c)
    (λ c. put_by set (λ a b x y. one a b (Contains-there z set x) (Contains-there z set y)) p k i o c h)
  where
    by : (b : Bool) → ends_here z p k i ≡ b → (z ≡ o) ⊎ Contains set o → (Contains set o → value_put_at set p k i ≡ value_put o.mutation)
        → (if b then value_put z.mutation else value_put_at set p k i) ≡ value_put o.mutation
    by true e place ih =
        ap (λ x. value_put x.mutation) (one z o (Contains-here set refl) c ((here_from z p k i e).id ∙ sym (here_from o p k i h).id))
    by false e (inl here) ih = absurd (true≢false (sym h ∙ ap (λ y. ends_here y p k i) (sym here) ∙ e))
    by false e (inr there) ih = ih there

-- and where none ends here, nothing
put_by_none : (set : List Op) (p : List Tagged) (k : Key) (i : Id) → ((o : Op) → Contains set o → ends_here o p k i ≡ false) → value_put_at set p k i ≡ None
put_by_none [] p k i none = refl
put_by_none (z ∷ set) p k i none =
    rw (none z (Contains-here set refl)) (put_by_none set p k i (λ o c. none o (Contains-there z set c)))

-- one ends here, or none
ends : (set : List Op) (p : List Tagged) (k : Key) (i : Id)
    → ((o : Op) × Contains set o × (ends_here o p k i ≡ true)) ⊎ ((o : Op) → Contains set o → ends_here o p k i ≡ false)
ends [] p k i = inr (λ o c. absurd (Contains-nil c))
ends (z ∷ set) p k i = by (ends_here z p k i) refl (ends set p k i)
  where
    by : (b : Bool) → ends_here z p k i ≡ b
        → ((o : Op) × Contains set o × (ends_here o p k i ≡ true)) ⊎ ((o : Op) → Contains set o → ends_here o p k i ≡ false)
        → ((o : Op) × Contains (z ∷ set) o × (ends_here o p k i ≡ true)) ⊎ ((o : Op) → Contains (z ∷ set) o → ends_here o p k i ≡ false)
    by true e rest = inl (z, Contains-here set refl, e)
    by false e (inl found) = inl (found.0, Contains-there z set found.1, found.2)
    by false e (inr none) = inr (λ o c. at o (Contains-cases z set c))
      where
        at : (o : Op) → (z ≡ o) ⊎ Contains set o → ends_here o p k i ≡ false
        at o (inl here) = ap (λ y. ends_here y p k i) (sym here) ∙ e
        at o (inr there) = none o there

value_at-same : (set set' : List Op) → HasOneEach set → HasOneEach set' → SameMembers set set' → value_put_at set ≡ value_put_at set'
value_at-same set set' one one' same = fun_ext (λ p. fun_ext (λ k. fun_ext (λ i. at p k i (ends set p k i))))
  where
    at : (p : List Tagged) (k : Key) (i : Id) → ((o : Op) × Contains set o × (ends_here o p k i ≡ true)) ⊎ ((o : Op) → Contains set o → ends_here o p k i ≡ false)
        → value_put_at set p k i ≡ value_put_at set' p k i
    at p k i (inl found) =
        put_by set one p k i found.0 found.1 found.2 ∙ sym (put_by set' one' p k i found.0 ((same found.0).0 found.1) found.2)
    at p k i (inr none) = put_by_none set p k i none ∙ sym (put_by_none set' p k i (λ o c. none o ((same o).1 c)))

-- ---- what is read

read_of : (r : Replica) (mine : Counts) (q : Query) (answer : Reply) → MayAnswer r mine q answer → IsReadOf (replica_facts r) (value_put_at r.log) q answer
read_of r mine (query.Resolve place) answer h = h
read_of r mine (query.Index place) answer h = h
read_of r mine (query.Look look place) answer h = h
read_of r mine asked answer h = tt

pub in_each_order : (r : Replica) (mine : Counts) (q : Query) (answer : Reply) → IsGood r.log → MayAnswer r mine q answer → IsReadInEachOrder r.log q answer
in_each_order r mine q answer good h = λ order causal.
    let other = Laws.all_orders r.log good order causal in
    let values : value_put_at r.log ≡ value_put_at order = value_at-same r.log order (good_one_each r.log good) (good_one_each order other.0) causal.same in
    subst (λ f. IsReadOf f (value_put_at order) q answer) (sym other.1) (subst (λ v. IsReadOf (replica_facts r) v q answer) values (read_of r mine q answer h))

pub of_the_set : (r : Replica) (mine : Counts) (q : Query) (answer : Reply) → IsGood r.log → MayAnswer r mine q answer → IsReadOfSet r.log q answer
of_the_set r mine q answer good h = λ f free.
    let one : replica_facts r ≡ f = facts_of_one_set r.log r.log (replica_facts r) f (λ o. ((λ c. c), (λ c. c))) (good_one_each r.log good) (replay_free r.log good) free in
    subst (λ f. IsReadOf f (value_put_at r.log) q answer) one (read_of r mine q answer h)

-- ---- what a tree says

-- what agrees with a good log agrees with each causal order of it
pub agrees_in_each_order : (log : List Op) (f : Facts) (roles : List Tagged → Key → Id → Option Role) → IsGood log → AreOf log f roles
    → (order : List Op) → IsCausalOrder log order → AreOf order f roles
agrees_in_each_order log f roles good are order causal =
    let other = Laws.all_orders log good order causal in
    record {
      facts_are = are.facts_are ∙ sym other.1;
      roles_are = λ p k i. are.roles_are p k i ∙ ap (λ r. if◌then◌else◌ {A = Option Role} (f.present p k i) (Some r) None) (role_at-same log order good other.0 causal.same p k i);
    }
