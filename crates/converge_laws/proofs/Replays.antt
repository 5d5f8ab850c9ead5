-- Trees that grow with a log.
use Rattle.std.proofs.Common.{◌≡◌, ℕ, suc, ◌<◌, List, [], ◌∷◌, ◌++◌, length, take, drop, get_or, Option, Result, Ok, Err, sym, ap, subst, ◌∙◌, refl}
use Rattle.std.specs.Prelude.{IfOk}
use Rattle.std.proofs.Math.Seq.{drop-cons}
use Rattle.std.proofs.lemmas.List.{take-append-drop}
use Rattle.doc_api.specs.Words.{Refusal, Id, Key, Tagged, Op}
use Rattle.doc_api.specs.declared.role.Role.{Role}
use Rattle.crdt_rules.specs.Facts.{Facts, facts}
use Rattle.crdt_rules.specs.Fits.{Fits}
use Rattle.crdt_rules.specs.Free.{AreFactsOf}
use Rattle.crdt_rules.specs.Log.{IsGoodAfter, IsGood, replay}
use Rattle.crdt_rules.proofs.Logs.{good_split}
use Rattle.crdt_rules.proofs.Orders.{all_orders}
use Rattle.crdt_rules.proofs.SameSet.{replay_free}
use Rattle.doc_rules.specs.Cause.{misfit_of, IsFirstMisfit}
use Rattle.doc_rules.specs.Role.{roles_of, AreOf}
use Rattle.doc_rules.proofs.SameOperations.{roles_of-same}
use Rattle.converge_laws.specs.Replayed.{AreFactsOfEach, AreRolesOfEach}

pub facts_of_each : (ops : List Op) (f : Facts) → IsGood ops → f ≡ facts (replay ops) → AreFactsOfEach ops f
facts_of_each ops f good is =
    record {
      good = good;
      set = subst (λ g. AreFactsOf ops g) (sym is) (replay_free ops good);
      orders = λ order causal. is ∙ sym (all_orders ops good order causal).1;
    }

-- each operation of a good list fits those before it, which are good
pub fits_at : (ops : List Op) (i : ℕ) (d : Op) → IsGood ops → i < length ops → IsGood (take i ops) × Fits (get_or ops i d) (take i ops)
fits_at ops i d good h =
    let split = good_split [] (take i ops) (drop i ops) (subst IsGood (sym (take-append-drop i ops)) good) in
    (split.0, (subst (IsGoodAfter (take i ops)) (drop-cons ops i d h) split.1).0)

-- a list goes on behind its first operations
pub split_at : (ops : List Op) (i : ℕ) (d : Op) → i < length ops → ops ≡ take i ops ++ get_or ops i d ∷ drop (suc i) ops
split_at ops i d h = sym (take-append-drop i ops) ∙ ap (λ l. take i ops ++ l) (drop-cons ops i d h)

-- the first misfit of a list whose first operations are good
pub first_misfit_at : (ops : List Op) (i : ℕ) (op : Op) (cause : Refusal) → i < length ops → op ≡ get_or ops i op → IsGood (take i ops)
    → misfit_of op (take i ops) ≡ Err cause → (place : ℕ) × IsFirstMisfit ops place cause
first_misfit_at ops i op cause h is good e = (
  length (take i ops),
  record {
    before = take i ops;
    op = op;
    later = drop (suc i) ops;
    is = split_at ops i op h ∙ ap (λ o. take i ops ++ o ∷ drop (suc i) ops) (sym is);
    good = good;
    place_is = refl;
    cause_is = e;
  },
)

pub each_from : {A : Type 0} (f : A → Facts) (roles : A → List Tagged → Key → Id → Option Role) (ops : List Op) → IsGood ops → (r : Result A Refusal)
    → IfOk r (λ t. AreOf ops (f t) (roles t)) → IfOk r (λ t. AreFactsOfEach ops (f t))
each_from f roles ops good (Ok t) h = facts_of_each ops (f t) good h.facts_are
each_from f roles ops good (Err e) h = tt

-- the roles of a good list are those of each causal order
pub roles_from : {A : Type 0} (f : A → Facts) (roles : A → List Tagged → Key → Id → Option Role) (ops : List Op) → IsGood ops → (r : Result A Refusal)
    → IfOk r (λ t. AreOf ops (f t) (roles t)) → IfOk r (λ t. AreRolesOfEach ops (roles t))
roles_from f roles ops good (Ok t) h = λ order causal p k i.
    h.roles_are p k i
    ∙ ap (λ g. roles_of g ops p k i) h.facts_are
    ∙ roles_of-same ops order good (all_orders ops good order causal).0 causal.same p k i
roles_from f roles ops good (Err e) h = tt
