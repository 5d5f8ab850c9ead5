-- Sets of operations, compared by their ids.
use Rattle.std.proofs.Common.{◌≡◌, ◌↔◌, ◌≤◌, inl, inr, List, ◌∷◌, length, arith, true≢false, Bool, true, false, Option, Some, None, Result, Ok, Err, Contains, refl, sym, ap, subst, ◌∙◌}
use Rattle.std.specs.List.{list_all}
use Rattle.std.specs.Prelude.{IfOk, IsOk, IsTrue, MatchOption}
use Rattle.doc_api.specs.Words.{Refusal, Op}
use Rattle.op_core.proofs.Equality.{operation_eq-Decides}
use Rattle.list_laws.specs.Order.{EachOnce}
use Rattle.crdt_rules.specs.Facts.{facts}
use Rattle.crdt_rules.specs.Log.{IsGood, replay}
use Rattle.list_laws.proofs.Members.{Contains-cases}
use Rattle.crdt_rules.proofs.GoodLogs.{ids_once}
use Rattle.crdt_rules.proofs.Orders.{good_causal}
use Rattle.crdt_rules.proofs.Room.{length-among}
use Rattle.crdt_rules.proofs.SameSet.{same_set_same_facts}
use Rattle.crdt_rules.proofs.Tests.{all_at, all_from, some≢none}
use Rattle.doc_rules.specs.Replica.{find_id}
use Rattle.op_log.specs.Log.{Log}
use Rattle.op_log.proofs.Ids as Ids
use Rattle.converge_laws.specs.Replayed.{Agree, is_it, holds}

-- a good list holds an operation just where it stands there
pub holds-Contains : (ops : List Op) → IsGood ops → (op : Op) → holds ops op ≡ true → Contains ops op
holds-Contains ops good op h = by (find_id ops op.id) refl h
  where
    by : (found : Option Op) → find_id ops op.id ≡ found → is_it op found ≡ true → Contains ops op
    by None e f = absurd (true≢false (sym f))
    by (Some x) e f = subst (Contains ops) ((operation_eq-Decides x op).0 f) (Ids.find_id-Some ops op.id x e).0

pub Contains-holds : (ops : List Op) → IsGood ops → (op : Op) → Contains ops op → holds ops op ≡ true
Contains-holds ops good op c =
    ap (is_it op) (Ids.find_id-Contains ops op.id (ids_once ops good) c refl) ∙ (operation_eq-Decides op op).1 refl

module _ (ops others : List Op) (good : IsGood ops) (other_good : IsGood others) where
  -- as many operations, each of which is in the other list, are the same
  pub agree_from : length ops ≡ length others → list_all (holds others) ops ≡ true → Agree ops others
  agree_from many all = record { good = good; other_good = other_good; same = λ op. (there op, back op) }
    where
      there : (op : Op) → Contains ops op → Contains others op
      there op c = holds-Contains others other_good op (all_at (holds others) ops all c)

      within : (op : Op) → Contains others op → (x : Op) → Contains (op ∷ ops) x → Contains others x
      within op c x d =
          elim (Contains-cases op ops d) [
            | inl here ↦ subst (Contains others) here c
            | inr old ↦ there x old
          ]

      back : (op : Op) → Contains others op → Contains ops op
      back op c = by (holds ops op) refl
        where
          by : (b : Bool) → holds ops op ≡ b → Contains ops op
          by true e = holds-Contains ops good op e
          by false e =
              let once : EachOnce (op ∷ ops) = ((λ d. true≢false (sym (Contains-holds ops good op d) ∙ e)), (good_causal ops good).once) in
              let more : length (op ∷ ops) ≤ length others = length-among (op ∷ ops) others once (within op c) in
              absurd (omega (arith, many))

pub agree_all : (ops others : List Op) → Agree ops others → list_all (holds others) ops ≡ true
agree_all ops others agree = all_from (holds others) ops (λ op c. Contains-holds others agree.other_good op ((agree.same op).0 c))

pub agree_many : (ops others : List Op) → Agree ops others → length ops ≡ length others
agree_many ops others agree =
    let up : length ops ≤ length others = length-among ops others (good_causal ops agree.good).once (λ op c. (agree.same op).0 c) in
    let down : length others ≤ length ops = length-among others ops (good_causal others agree.other_good).once (λ op c. (agree.same op).1 c) in
    omega arith

pub agree_facts : (ops others : List Op) (r : Result Bool Refusal) → IfOk r (λ b. IsTrue b ↔ Agree ops others)
    → IfOk r (λ b. IsTrue b → facts (replay ops) ≡ facts (replay others))
agree_facts ops others (Ok b) h = λ yes. let agree = h.0 yes in same_set_same_facts ops others agree.good agree.other_good agree.same
agree_facts ops others (Err e) h = tt

-- no log of a list that is not good
pub no_good : (ops : List Op) (r : Result (Option Log) Refusal) → IfOk r (λ found. found ≡ None) → (IsOk r → ¬ (IsGood ops))
    → IfOk r (λ found. MatchOption found (¬ (IsGood ops)) (λ log. log.operations ≡ ops))
no_good ops (Ok None) none bad = bad refl
no_good ops (Ok (Some log)) none bad = absurd (some≢none none)
no_good ops (Err e) none bad = tt
