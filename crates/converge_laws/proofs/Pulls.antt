-- Pulls each way.
use Rattle.std.proofs.Common.{◌≡◌, inl, inr, List, [], ◌∷◌, ◌++◌, Bool, true, false, not, filter, if◌then◌else◌, Contains, refl, arith}
use Rattle.std.proofs.lemmas.Bool.{both_ways, not-true}
use Rattle.op_core.specs.Op.{Op}
use Rattle.version_vector.specs.Front.{covers}
use Rattle.list_laws.specs.Order.{EachOnce}
use Rattle.list_laws.proofs.Members.{Contains-here, Contains-there}
use Rattle.crdt_rules.specs.Log.{IsGood}
use Rattle.crdt_rules.specs.Pull.{front_of, pulled}
use Rattle.list_laws.proofs.Filters.{filter-Contains}
use Rattle.crdt_rules.proofs.FrontOf.{front_of-covers}
use Rattle.crdt_rules.proofs.Orders.{good_once}
use Rattle.crdt_rules.proofs.Pulling.{pulled_holds, pulled_only, turned}
use Rattle.crdt_rules.proofs.Room.{length-among, room_among}
use Rattle.std.proofs.lemmas.List.Elements.{Contains-append_cases}
use Rattle.converge_laws.specs.Replayed.{MayPull}

once-filter : {X : Type 0} (test : X → Bool) (xs : List X) → EachOnce xs → EachOnce (filter test xs)
once-filter test [] once = tt
once-filter {X} test (x ∷ xs) once = by (test x) (once-filter test xs once.1)
  where
    by : (b : Bool) → EachOnce (filter test xs) → EachOnce (if b then x ∷ filter test xs else filter test xs)
    by true ih = ((λ c. once.0 (filter-Contains test xs c).0), ih)
    by false ih = ih

once-append : {X : Type 0} (xs ys : List X) → EachOnce xs → EachOnce ys → ((x : X) → Contains xs x → ¬ (Contains ys x)) → EachOnce (xs ++ ys)
once-append [] ys once others apart = others
once-append {X} (x ∷ xs) ys once others apart = (
  λ c. elim (Contains-append_cases xs ys x c) [
    | inl left ↦ once.0 left
    | inr right ↦ apart x (Contains-here xs refl) right
  ],
  once-append xs ys once.1 others (λ z c. apart z (Contains-there x xs c)),
)

-- an operation that is logged is covered by the front of its log
covered_itself : (log : List Op) (o : Op) → Contains log o → covers (front_of log) o.id ≡ true
covered_itself log o c = front_of-covers log o o.id c refl (omega arith)

once_pulled : (log other : List Op) → IsGood log → IsGood other → EachOnce (pulled log other)
once_pulled log other good other_good =
    once-append log (filter (λ o. not (covers (front_of log) o.id)) other) (good_once log good)
    (once-filter (λ o. not (covers (front_of log) o.id)) other (good_once other other_good))
    (λ o mine theirs.
    both_ways (covers (front_of log) o.id) (not-true (covers (front_of log) o.id) (filter-Contains (λ o. not (covers (front_of log) o.id)) other theirs).1) (covered_itself log o mine))

-- each way it is the same
pub may_pull_back : (log other : List Op) → MayPull log other → MayPull other log
may_pull_back log other may =
    record {
      good = may.other_good;
      other_good = may.good;
      holds = may.other_holds;
      other_holds = may.holds;
      room = room_among (pulled other log) (pulled log other) may.room (length-among (pulled other log) (pulled log other) (once_pulled other log may.other_good may.good) among) among;
    }
  where
    among : (o : Op) → Contains (pulled other log) o → Contains (pulled log other) o
    among o c = pulled_holds log other may.holds o (turned (pulled_only other log o c))
