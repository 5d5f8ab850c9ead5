-- What a front lacks of the replicas of a log.
use Rattle.std.proofs.Common.{◌≡◌, ℕ, ◌<◌, ◌≤◌, ◌⊎◌, ◌+◌, inl, inr, suc, List, [], ◌∷◌, ◌++◌, length, take, get_or, Bool, true, false, bytes_eq, Option, Some, None, Result, Ok, Err, Contains, min, refl, sym, ap, subst, ◌∙◌, arith}
use Rattle.std.specs.Prelude.{⊤, MatchOption, IfOk}
use Rattle.std.specs.List.{slice_get}
use Rattle.std.proofs.lemmas.Bool.{both_ways, cases_lt}
use Rattle.std.proofs.lemmas.Option.{slice_get_within}
use Rattle.list_laws.proofs.Members.{Contains-nil}
use Rattle.std.proofs.lemmas.List.Elements.{Contains-append_left, Contains-push, Contains-push_cases}
use Rattle.doc_api.specs.Words.{Id, Op}
use Rattle.version_vector.specs.Front.{covers, is_ascending}
use Rattle.crdt_rules.specs.Dependencies.{entry_of}
use Rattle.crdt_rules.specs.Log.{IsGood}
use Rattle.crdt_rules.proofs.Fronts.{covers_at, covers_from, entry_of-Contains}
use Rattle.crdt_rules.proofs.Tests.{some_same, some≢none}
use Rattle.doc_rules.proofs.WholeFront.{entry_of-at, rising_from_ascending}
use Rattle.list_laws.proofs.Reading.{take_at}
use Rattle.list_laws.specs.Sorted.{get_by}
use Rattle.list_laws.proofs.Bisection.{get-Contains}
use Rattle.op_log.specs.Index.{HasOpAt, AreLasts, IsLast, IsFirstFrom, CoversChain, CoversBetween, IsUncovered}
use Rattle.op_log.specs.Lacks.{IsLack, AreLacks, CoversReplica, IsNextUncovered, IsNextOfSince}
use Rattle.op_log.specs.declared.index.Lack.{Lack}
use Rattle.op_log.proofs.Fronts.{names_ordered}
use Rattle.op_log.proofs.Uncovered.{up_to_last, since-between}

-- a front whose pairs ascend covers of a replica no more than its pair reaches
uncovered_above : (front : List (List ℕ × ℕ)) → is_ascending front ≡ true → (i : Id) (o : Option ℕ) → o ≡ entry_of front i.replica → MatchOption o ⊤ (λ c. c < i.counter)
    → covers front i ≡ false
uncovered_above front ascends i o is above = by (covers front i) refl
  where
    beyond : (o : Option ℕ) (d : ℕ) → o ≡ Some d → i.counter ≤ d → MatchOption o ⊤ (λ c. c < i.counter) → ⊥
    beyond None d same le above = some≢none (sym same)
    beyond (Some c) d same le above = let equal : c ≡ d = some_same same in let less : c < i.counter = above in omega arith

    by : (b : Bool) → covers front i ≡ b → covers front i ≡ false
    by false e = e
    by true e =
        let c = covers_from front i e in
        let entry : entry_of front i.replica ≡ Some (c.0).1 =
        subst (λ (n : List ℕ). entry_of front n ≡ Some (c.0).1) c.2 (entry_of-at front c.0 (rising_from_ascending front ascends) c.1) in
        absurd (beyond o (c.0).1 (is ∙ entry) c.3 above)

-- a replica with what a front has of it
module _ (front : List (List ℕ × ℕ)) (log : List Op) (name : List ℕ) (covered : Option ℕ) (entry : covered ≡ entry_of front name) (last : ℕ) (is : IsLast log name last) where
  -- the front reaches its last
  all_covered : IsGood log → (c : ℕ) → covered ≡ Some c → (is.here).op.id.counter ≤ c → CoversReplica front log name
  all_covered good c some reaches k at =
      covers_at front (name, c) at.op.id (entry_of-Contains front name c (sym entry ∙ some)) (sym at.made)
      (up_to_last log good name last c is (λ op there. subst (λ (o : Op). o.id.counter ≤ c) (some_same (sym (is.here).there ∙ there)) reaches) k at)

  -- it does not
  some_lacking : is_ascending front ≡ true → (lack : Lack) → lack.last ≡ last → lack.counter ≤ (is.here).op.id.counter
      → MatchOption covered (lack.counter ≡ 0) (λ c. lack.counter ≡ c + 1) → IsLack front log name lack
  some_lacking ascends lack at reaches from = record {
    last = subst (IsLast log name) (sym at) is;
    reaches = λ op there. subst (λ (o : Op). lack.counter ≤ o.id.counter) (some_same (sym (is.here).there ∙ sym (ap (slice_get log) at) ∙ there)) reaches;
    covered = λ k here below. low covered entry from k here below;
    uncovered = λ k here le. uncovered_above front ascends here.op.id covered (entry ∙ ap (entry_of front) (sym here.made)) (high covered from here.op.id.counter le);
  }
    where
      low : (o : Option ℕ) → o ≡ entry_of front name → MatchOption o (lack.counter ≡ 0) (λ c. lack.counter ≡ c + 1) → (k : ℕ) (here : HasOpAt log name k)
          → here.op.id.counter < lack.counter → covers front here.op.id ≡ true
      low None e from k here below = let none : lack.counter ≡ 0 = from in absurd (omega (arith, none, below))
      low (Some c) e from k here below =
          let next : lack.counter ≡ c + 1 = from in
          covers_at front (name, c) here.op.id (entry_of-Contains front name c (sym e)) (sym here.made) (omega (arith, next, below))

      high : (o : Option ℕ) → MatchOption o (lack.counter ≡ 0) (λ c. lack.counter ≡ c + 1) → (n : ℕ) → lack.counter ≤ n → MatchOption o ⊤ (λ c. c < n)
      high None from n le = tt
      high (Some c) from n le = let next : lack.counter ≡ c + 1 = from in omega (arith, next, le)

  -- either
  pub lack_is : IsGood log → is_ascending front ≡ true → (found : Option Lack)
      → MatchOption found ((c : ℕ) × (covered ≡ Some c) × ((is.here).op.id.counter ≤ c)) (λ lack. (lack.last ≡ last) × (lack.counter ≤ (is.here).op.id.counter)
      × MatchOption covered (lack.counter ≡ 0) (λ c. lack.counter ≡ c + 1))
      → MatchOption found (CoversReplica front log name) (IsLack front log name)
  lack_is good ascends None h = all_covered good h.0 h.1 h.2
  lack_is good ascends (Some lack) h = some_lacking ascends lack h.0 h.1 h.2

-- what is lacking of these replicas, so far
pub record AreLacksOf (front : List (List ℕ × ℕ)) (log : List Op) (lasts : List (List ℕ × ℕ)) (found : List Lack) : Type 0 where
  pub each : (lack : Lack) → Contains found lack → (name : List ℕ) × IsLack front log name lack
  pub all : (f : List ℕ × ℕ) → Contains lasts f → (k : ℕ) (at : HasOpAt log f.0 k) → covers front at.op.id ≡ false
      → (lack : Lack) × Contains found lack × IsLack front log f.0 lack

pub lacks_start : (front : List (List ℕ × ℕ)) (log : List Op) → AreLacksOf front log [] []
lacks_start front log = record { each = λ lack c. absurd (Contains-nil c); all = λ f c. absurd (Contains-nil c) }

module _ (front : List (List ℕ × ℕ)) (log : List Op) (lasts : List (List ℕ × ℕ)) (i : ℕ) (e : List ℕ × ℕ) (within : i < length lasts) (read : e ≡ get_or lasts i e)
    (found : List Lack) (are : AreLacksOf front log (take i lasts) found) where
  next_cases : (f : List ℕ × ℕ) → Contains (take (suc i) lasts) f → Contains (take i lasts) f ⊎ (e ≡ f)
  next_cases f c = Contains-push_cases (take i lasts) e f (subst (λ (l : List (List ℕ × ℕ)). Contains l f) (take_at lasts i e within read) c)

  -- one more replica of which nothing is lacking
  pub lacks_none : CoversReplica front log e.0 → AreLacksOf front log (take (suc i) lasts) found
  lacks_none covered = record {
    each = are.each;
    all = λ f c.
        elim (next_cases f c) [
          | inl old ↦ are.all f old
          | inr new ↦ subst (λ (g : List ℕ × ℕ). (k : ℕ) (at : HasOpAt log g.0 k) → covers front at.op.id ≡ false → (lack : Lack) × Contains found lack × IsLack front log g.0 lack) new
              (λ k at uncovered. absurd (both_ways (covers front at.op.id) uncovered (covered k at)))
        ];
  }

  -- and one of which something is
  pub lacks_one : (lack : Lack) → IsLack front log e.0 lack → AreLacksOf front log (take (suc i) lasts) (found ++ lack ∷ [])
  lacks_one lack is = record {
    each = λ l c.
        elim (Contains-push_cases found lack l c) [
          | inl old ↦ are.each l old
          | inr new ↦ (e.0, subst (IsLack front log e.0) new is)
        ];
    all = λ f c.
        elim (next_cases f c) [
          | inl old ↦ λ k at uncovered. let l = are.all f old k at uncovered in (l.0, Contains-append_left found (lack ∷ []) l.0 l.1, l.2)
          | inr new ↦ λ k at uncovered. (lack, Contains-push found lack, subst (λ (g : List ℕ × ℕ). IsLack front log g.0 lack) new is)
        ];
  }

-- all replicas
pub lacks_all : (front : List (List ℕ × ℕ)) (log : List Op) (lasts : List (List ℕ × ℕ)) (found : List Lack) → AreLasts log lasts → AreLacksOf front log lasts found → AreLacks front log found
lacks_all front log lasts found lasts_are are = record {
  each = are.each;
  all = λ k op there uncovered. by k (record { op = op; there = there; made = refl }) uncovered (get_by bytes_eq lasts op.id.replica) refl;
}
  where
    by : {name : List ℕ} (k : ℕ) (here : HasOpAt log name k) → covers front here.op.id ≡ false → (o : Option ℕ) → get_by bytes_eq lasts name ≡ o
        → (lack : Lack) × Contains found lack × IsLack front log name lack
    by {name} k here uncovered None is = absurd (lasts_are.none name is k here)
    by {name} k here uncovered (Some p) is = are.all (name, p) (get-Contains names_ordered lasts name p is) k here uncovered

-- ---- the first of what is lacking

-- of one replica, from a position on
pub chain_to_first : (front : List (List ℕ × ℕ)) (log : List Op) (name : List ℕ) (lack : Lack) (from n : ℕ) → IsLack front log name lack → IsFirstFrom log name from lack.counter n
    → CoversChain front log name from n
chain_to_first front log name lack from n is first k at behind below = is.covered k at (first.first k at behind below)

pub first_uncovered : (front : List (List ℕ × ℕ)) (log : List Op) (name : List ℕ) (lack : Lack) (from n : ℕ) → IsLack front log name lack → IsFirstFrom log name from lack.counter n
    → IsUncovered front log n
first_uncovered front log name lack from n is first op there =
    subst (λ (o : Op). covers front o.id ≡ false) (some_same (sym (first.here).there ∙ there)) (is.uncovered n first.here first.reaches)

pub none_at_end : (front : List (List ℕ × ℕ)) (log : List Op) → IsUncovered front log (length log)
none_at_end front log op there = let within : length log < length log = slice_get_within log (length log) op there in absurd (omega arith)

-- the replicas looked at, with one more
pub firsts_next : (front : List (List ℕ × ℕ)) (log : List Op) (lacks : List Lack) (i : ℕ) (e : Lack) (from least n m : ℕ) → m ≤ least → m ≤ n → i < length lacks → e ≡ get_or lacks i e
    → ((l : Lack) → Contains (take i lacks) l → (name : List ℕ) → IsLack front log name l → CoversChain front log name from least)
    → ((name : List ℕ) → IsLack front log name e → CoversChain front log name from n)
    → (l : Lack) → Contains (take (suc i) lacks) l → (name : List ℕ) → IsLack front log name l → CoversChain front log name from m
firsts_next front log lacks i e from least n m low high within read before here l c name is k at behind below =
    elim (Contains-push_cases (take i lacks) e l (subst (λ (ls : List Lack). Contains ls l) (take_at lacks i e within read) c)) [
      | inl old ↦ before l old name is k at behind (omega arith)
      | inr new ↦ here name (subst (IsLack front log name) (sym new) is) k at behind (omega arith)
    ]

-- all that is lacking is behind the least of the firsts
pub firsts_all : (front : List (List ℕ × ℕ)) (log : List Op) (lacks : List Lack) (from n : ℕ) → AreLacks front log lacks
    → ((l : Lack) → Contains lacks l → (name : List ℕ) → IsLack front log name l → CoversChain front log name from n) → CoversBetween front log from n
firsts_all front log lacks from n are each k op there behind below = by (covers front op.id) refl
  where
    by : (b : Bool) → covers front op.id ≡ b → covers front op.id ≡ true
    by true is = is
    by false is =
        let l = are.all k op there is in
        each l.0 l.1 op.id.replica l.2 k (record { op = op; there = there; made = refl }) behind below

-- the lesser of two such positions
pub uncovered_least : (front : List (List ℕ × ℕ)) (log : List Op) (a b m : ℕ) → m ≡ min a b → IsUncovered front log a → IsUncovered front log b → IsUncovered front log m
uncovered_least front log a b m is first second =
    elim (cases_lt a b) [
      | inl less ↦ subst (IsUncovered front log) (omega (arith, is, less)) first
      | inr more ↦ subst (IsUncovered front log) (omega (arith, is, more)) second
    ]

-- what is found is the next of what the front doesn't cover
pub next_of_since : {E : Type 0} (front : List (List ℕ × ℕ)) (log : List Op) (from : ℕ) (r : Result ℕ E) → IfOk r (IsNextUncovered front log from) → IfOk r (IsNextOfSince front log from)
next_of_since front log from (Ok k) is = record { within = is.within; passed = since-between front log from k is.later is.covered; uncovered = is.uncovered }
next_of_since front log from (Err e) is = tt

-- nothing is lacking
pub lack_none : (front : List (List ℕ × ℕ)) (log : List Op) (name : List ℕ) (found : Option Lack) → ((lack : Lack) → found ≡ Some lack → ⊥)
    → MatchOption found (CoversReplica front log name) (IsLack front log name) → CoversReplica front log name
lack_none front log name None none is = is
lack_none front log name (Some lack) none is = absurd (none lack refl)
