-- How many nodes growth adds on the way to a place.
use Rattle.std.proofs.Common.{◌≡◌, suc, ◌+◌, ◌≤◌, List, [], ◌∷◌, length, Option, Some, None, refl, sym, ap, ◌∙◌, subst, arith}
use Rattle.std.specs.Prelude.{IsSome, unwrap_or, option_map}
use Rattle.op_core.specs.declared.cursor.Key.{Key}
use Rattle.doc_nodes.specs.declared.node.NodeNumber.{NodeNumber}
use Rattle.doc_nodes.specs.declared.node.Node.{Node}
use Rattle.doc_nodes.specs.Walk.{walk}
use Rattle.doc_nodes.specs.Nodes.{child_of}
use Rattle.doc_nodes.specs.Growth.{Grows, missing_along}
use Rattle.doc_nodes.proofs.Walks.{parts_of}

-- no more than there are keys
missing_few : (nodes : List Node) (n : NodeNumber) (keys : List Key) → missing_along nodes n keys ≤ length keys
missing_few nodes n [] = omega arith
missing_few nodes n (k ∷ keys) = by (child_of nodes n k) (λ m. missing_few nodes m keys)
  where
    by : (o : Option NodeNumber) → ((m : NodeNumber) → missing_along nodes m keys ≤ length keys)
        → unwrap_or (option_map (λ m. missing_along nodes m keys) o) (suc (length keys)) ≤ suc (length keys)
    by None few = omega arith
    by (Some m) few = omega (arith, few m)

-- growth leaves no more
missing_grown : (old new : List Node) → Grows old new → (n : NodeNumber) (keys : List Key) → missing_along new n keys ≤ missing_along old n keys
missing_grown old new grows n [] = omega arith
missing_grown old new grows n (k ∷ keys) = by (child_of old n k) refl (λ m. missing_grown old new grows m keys)
  where
    by : (o : Option NodeNumber) → child_of old n k ≡ o → ((m : NodeNumber) → missing_along new m keys ≤ missing_along old m keys)
        → missing_along new n (k ∷ keys) ≤ unwrap_or (option_map (λ m. missing_along old m keys) o) (suc (length keys))
    by None e fewer = missing_few new n (k ∷ keys)
    by (Some m) e fewer =
        subst (λ o. unwrap_or (option_map (λ z. missing_along new z keys) o) (suc (length keys)) ≤ missing_along old m keys)
        (sym (grows.forward n k m e)) (fewer m)

-- where all nodes are there, none is missing
pub missing_none : (nodes : List Node) (n c : NodeNumber) (keys : List Key) → walk (child_of nodes) n keys ≡ Some c → missing_along nodes n keys ≡ 0
missing_none nodes n c [] e = refl
missing_none nodes n c (k ∷ keys) e =
    let step = parts_of (child_of nodes) (λ m. walk (child_of nodes) m keys) (child_of nodes n k) c e in
    rw step.1 (missing_none nodes step.0 c keys step.2)

-- the first step on the way
pub first_missing : (old new : List Node) (n : NodeNumber) (k : Key) (keys : List Key) → length new ≤ length old + 1
    → (IsSome (child_of old n k) → length new ≡ length old) → length new ≤ length old + missing_along old n (k ∷ keys)
first_missing old new n k keys few there = by (child_of old n k) there
  where
    by : (o : Option NodeNumber) → (IsSome o → length new ≡ length old)
        → length new ≤ length old + unwrap_or (option_map (λ m. missing_along old m keys) o) (suc (length keys))
    by None stays = omega (arith, few)
    by (Some m) stays = omega (arith, stays refl)

-- a step, and those behind it
pub step_missing : (old between new : List Node) → Grows old between → (n m : NodeNumber) (k : Key) (keys : List Key) → child_of between n k ≡ Some m
    → length between ≤ length old + 1 → (IsSome (child_of old n k) → length between ≡ length old)
    → length new ≤ length between + missing_along between m keys → length new ≤ length old + missing_along old n (k ∷ keys)
step_missing old between new grows n m k keys down few there rest = by (child_of old n k) refl there
  where
    by : (o : Option NodeNumber) → child_of old n k ≡ o → (IsSome o → length between ≡ length old)
        → length new ≤ length old + unwrap_or (option_map (λ z. missing_along old z keys) o) (suc (length keys))
    by None e stays = omega (arith, few, rest, missing_few between m keys)
    by (Some c) e stays =
        let both : ◌≡◌ {A = Option NodeNumber} (Some m) (Some c) = sym down ∙ grows.forward n k c e in
        let same : m ≡ c = cc in
        omega (arith, stays refl, rest, ap (λ z. missing_along between z keys) same, missing_grown old between grows c keys)

-- and those behind nodes that grew in no number
pub same_missing : (old between new : List Node) → Grows old between → length between ≡ length old → (n : NodeNumber) (keys : List Key)
    → length new ≤ length between + missing_along between n keys → length new ≤ length old + missing_along old n keys
same_missing old between new grows same n keys rest = omega (arith, same, rest, missing_grown old between grows n keys)
