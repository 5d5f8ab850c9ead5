-- Fronts that ascend, compared entry by entry.
use Rattle.std.proofs.Common.{◌≡◌, ◌≢◌, ℕ, ◌<◌, ◌≤◌, zero, suc, inl, inr, List, [], ◌∷◌, true, false, ◌&&◌, ◌||◌, ◌==◌, ◌+◌, nat_le, Contains, length, drop, get_or, Bool, leb-true, leb-false, le-leb, arith, refl, sym, ap, subst, ◌∙◌, Less, Equal, Greater}
use Rattle.std.proofs.lemmas.Bool.{and_parts, lt-leb}
use Rattle.std.specs.List.{zip}
use Rattle.std.proofs.lemmas.List.{drop_all, get_or_default}
use Rattle.std.proofs.Math.Bool.{or-false}
use Rattle.version_vector.specs.Front.{max_counter}
use lib.Pointwise.{bytes_decides}
use Rattle.doc_api.specs.Words.{name_cmp, Op}
use Rattle.version_vector.specs.Front.{covers, id_of, is_ascending, is_le, reaches}
use Rattle.op_core.specs.Shape.{is_shaped, is_shallow, has_form, has_front}
use Rattle.version_vector.proofs.Fronts.{ascending-rest}
use Rattle.list_laws.proofs.Members.{Contains-here, Contains-there, Contains-cases}
use Rattle.crdt_rules.proofs.Tests.{any_none}
use Rattle.op_log.proofs.Pairs.{drop_pair}
use Rattle.version_vector.proofs.FrontPairs.{length-pairs}
use Rattle.doc_rules.proofs.WholeFront.{rising_from_ascending}
use Rattle.op_log.proofs.Fronts.{NamesRise, names_differ}
use Rattle.doc_rules.proofs.OneAnswer.{name_order}
use Rattle.list_laws.proofs.Keys.{less≢equal, less_back}

-- an entry whose name is less than all of a front
pub below_all : (e : List ℕ × ℕ) (n : List ℕ × ℕ) (others : List (List ℕ × ℕ)) → NamesRise (n ∷ others) → name_cmp e.0 n.0 ≡ Less
    → (m : List ℕ × ℕ) → Contains (n ∷ others) m → name_cmp e.0 m.0 ≡ Less
below_all e n others rise less m c =
    elim (Contains-cases n others c) [
      | inl is ↦ subst (λ (z : List ℕ × ℕ). name_cmp e.0 z.0 ≡ Less) is less
      | inr behind ↦ (name_order.total).trans e.0 n.0 m.0 less (rise.0 m behind)
    ]

-- is not covered by it
below_uncovered : (e : List ℕ × ℕ) (front : List (List ℕ × ℕ)) → ((m : List ℕ × ℕ) → Contains front m → name_cmp e.0 m.0 ≡ Less) → covers front (id_of e) ≡ false
below_uncovered e front below =
    any_none (reaches (id_of e)) front
    (λ m c. (λ i. (names_differ m.0 e.0 (λ same. less≢equal name_order e.0 m.0 (below m c) (sym same)) i && nat_le e.1 m.1)))

-- entries of other names do not need the first of a front
skip : (front : List (List ℕ × ℕ)) (n : List ℕ × ℕ) (others : List (List ℕ × ℕ)) → ((e : List ℕ × ℕ) → Contains front e → n.0 ≢ e.0)
    → is_le front (n ∷ others) ≡ is_le front others
skip [] n others other = refl
skip (e ∷ front) n others other =
    (λ i. (((names_differ n.0 e.0 (other e (Contains-here front refl)) i && nat_le e.1 n.1) || covers others (id_of e)) && is_le front (n ∷ others)))
    ∙ ap (λ b. covers others (id_of e) && b) (skip front n others (λ f c. other f (Contains-there e front c)))

pub le_less : (e : List ℕ × ℕ) (rest : List (List ℕ × ℕ)) (n : List ℕ × ℕ) (others : List (List ℕ × ℕ)) → is_ascending (n ∷ others) ≡ true → name_cmp e.0 n.0 ≡ Less
    → is_le (e ∷ rest) (n ∷ others) ≡ false
le_less e rest n others ascends less =
    ap (λ b. b && is_le rest (n ∷ others)) (below_uncovered e (n ∷ others) (below_all e n others (rising_from_ascending (n ∷ others) ascends) less))

pub le_equal : (e : List ℕ × ℕ) (rest : List (List ℕ × ℕ)) (n : List ℕ × ℕ) (others : List (List ℕ × ℕ)) → is_ascending (e ∷ rest) ≡ true → is_ascending (n ∷ others) ≡ true
    → name_cmp e.0 n.0 ≡ Equal → is_le (e ∷ rest) (n ∷ others) ≡ (nat_le e.1 n.1 && is_le rest others)
le_equal e rest n others ascends other_ascends equal =
    let same : e.0 ≡ n.0 = name_order.exact e.0 n.0 equal in
    let rise = rising_from_ascending (e ∷ rest) ascends in
    let other_rise = rising_from_ascending (n ∷ others) other_ascends in
    let apart : covers others (id_of e) ≡ false =
    below_uncovered e others (λ m c. subst (λ (z : List ℕ). name_cmp z m.0 ≡ Less) (sym same) (other_rise.0 m c)) in
    (λ i. (((bytes_decides n.0 e.0).1 (sym same) i && nat_le e.1 n.1) || apart i) && skip rest n others
    (λ f c. subst (λ (z : List ℕ). z ≢ f.0) same (less≢equal name_order e.0 f.0 (rise.0 f c))) i)
    ∙ ap (λ b. b && is_le rest others) (or-false (nat_le e.1 n.1))

pub le_greater : (e : List ℕ × ℕ) (rest : List (List ℕ × ℕ)) (n : List ℕ × ℕ) (others : List (List ℕ × ℕ)) → is_ascending (e ∷ rest) ≡ true → name_cmp e.0 n.0 ≡ Greater
    → is_le (e ∷ rest) (n ∷ others) ≡ is_le (e ∷ rest) others
le_greater e rest n others ascends greater =
    let less : name_cmp n.0 e.0 ≡ Less = less_back name_order e.0 n.0 greater in
    let rise = rising_from_ascending (e ∷ rest) ascends in
    skip (e ∷ rest) n others (λ f c. less≢equal name_order n.0 f.0 (below_all n e rest rise less f c))

pub ascending-drop : (front : List (List ℕ × ℕ)) (i : ℕ) → is_ascending front ≡ true → is_ascending (drop i front) ≡ true
ascending-drop front zero h = h
ascending-drop [] (suc i) h = refl
ascending-drop (e ∷ rest) (suc i) h = ascending-drop rest i (ascending-rest e rest h)

-- two fronts, of which the one is left from place k on and the other from place j on, and the names that stand there
module _ (names others : List (List ℕ)) (counters reached : List ℕ) (len : length names ≡ length counters) (other_len : length others ≡ length reached)
    (ascends : is_ascending (zip names counters) ≡ true) (other_ascends : is_ascending (zip others reached) ≡ true) (k j : ℕ) (within : k < length names)
    (there : j < length others) (name other : List ℕ) (named : name ≡ get_or names k name) (met : other ≡ get_or others j other) where
  left : drop k (zip names counters) ≡ (name, get_or counters k 0) ∷ drop (suc k) (zip names counters)
  left = drop_pair names counters len k name within named

  right : drop j (zip others reached) ≡ (other, get_or reached j 0) ∷ drop (suc j) (zip others reached)
  right = drop_pair others reached other_len j other there met

  left_ascends : is_ascending ((name, get_or counters k 0) ∷ drop (suc k) (zip names counters)) ≡ true
  left_ascends = subst (λ f. is_ascending f ≡ true) left (ascending-drop (zip names counters) k ascends)

  right_ascends : is_ascending ((other, get_or reached j 0) ∷ drop (suc j) (zip others reached)) ≡ true
  right_ascends = subst (λ f. is_ascending f ≡ true) right (ascending-drop (zip others reached) j other_ascends)

  pub turn_less : name_cmp name other ≡ Less → is_le (drop k (zip names counters)) (drop j (zip others reached)) ≡ false
  turn_less less =
      (λ i. is_le (left i) (right i))
      ∙ le_less (name, get_or counters k 0) (drop (suc k) (zip names counters)) (other, get_or reached j 0) (drop (suc j) (zip others reached)) right_ascends less

  pub turn_equal : name_cmp name other ≡ Equal
      → is_le (drop k (zip names counters)) (drop j (zip others reached))
      ≡ (nat_le (get_or counters k 0) (get_or reached j 0) && is_le (drop (suc k) (zip names counters)) (drop (suc j) (zip others reached)))
  turn_equal equal =
      (λ i. is_le (left i) (right i))
      ∙ le_equal (name, get_or counters k 0) (drop (suc k) (zip names counters)) (other, get_or reached j 0) (drop (suc j) (zip others reached)) left_ascends right_ascends equal

  pub turn_greater : name_cmp name other ≡ Greater
      → is_le (drop k (zip names counters)) (drop j (zip others reached)) ≡ is_le (drop k (zip names counters)) (drop (suc j) (zip others reached))
  turn_greater greater =
      (λ i. is_le (left i) (right i))
      ∙ le_greater (name, get_or counters k 0) (drop (suc k) (zip names counters)) (other, get_or reached j 0) (drop (suc j) (zip others reached)) left_ascends greater
      ∙ ap (λ f. is_le f (drop (suc j) (zip others reached))) (sym left)

-- where the one front is at its end
pub at_end : (names : List (List ℕ)) (counters : List ℕ) (len : length names ≡ length counters) (k : ℕ) (others : List (List ℕ × ℕ)) → length names ≤ k
    → is_le (drop k (zip names counters)) others ≡ true
at_end names counters len k others past =
    ap (λ f. is_le f others) (drop_all k (zip names counters) (omega (arith, length-pairs names counters len, len, past)))

-- where the other one is
pub other_at_end : (names : List (List ℕ)) (counters : List ℕ) (len : length names ≡ length counters) (k : ℕ) → k < length names
    → is_le (drop k (zip names counters)) [] ≡ false
other_at_end names counters len k within =
    ap (λ f. is_le f []) (drop_pair names counters len k (get_or names k []) within (get_or_default names k [] (get_or names k []) within))

-- a walk is at its end, or not
pub ends_there : (names : List (List ℕ)) (counters : List ℕ) (len : length names ≡ length counters) (k : ℕ) → nat_le (length names) k ≡ is_le (drop k (zip names counters)) []
ends_there names counters len k = go (nat_le (length names) k) refl
  where
    go : (b : Bool) → nat_le (length names) k ≡ b → nat_le (length names) k ≡ is_le (drop k (zip names counters)) []
    go true is = is ∙ sym (at_end names counters len k [] (leb-true (length names) k is))
    go false is = is ∙ sym (other_at_end names counters len k (leb-false (length names) k is))

-- the front of an operation ascends
pub shaped_ascending : (op : Op) → is_shaped op ≡ true → is_ascending op.front ≡ true
shaped_ascending op h =
    let front = (and_parts (is_shallow op.cursor.path && has_form op) (has_front op) h).1 in
    (and_parts (is_ascending op.front) (op.id.counter == max_counter op.front + 1) front).0

-- counters that are read, compared
pub reaches_less : (counter reached a b : ℕ) → a ≡ reached → b ≡ counter → a < b → nat_le counter reached ≡ false
reaches_less counter reached a b is other less = lt-leb _ _ (omega (arith, is, other, less))

pub reaches_it : (counter reached a b : ℕ) → a ≡ reached → b ≡ counter → b ≤ a → nat_le counter reached ≡ true
reaches_it counter reached a b is other at_most = le-leb _ _ (omega (arith, is, other, at_most))
