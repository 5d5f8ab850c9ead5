-- Laws of walks in a tree of numbered nodes.
use Rattle.std.proofs.Common.{◌≡◌, ℕ, ◌<◌, ◌≤◌, List, [], ◌∷◌, ◌++◌, Option, Some, None, refl, sym, ap, ◌∙◌, arith}
use Rattle.std.specs.Prelude.{option_and_then, reverse}
use Rattle.std.proofs.lemmas.List.{reverse-append, reverse-reverse}
use Rattle.op_core.specs.declared.cursor.Key.{Key}
use Rattle.doc_nodes.specs.declared.node.NodeNumber.{NodeNumber}
use Rattle.doc_nodes.specs.Walk.{walk, root, IsTree}

module _ (child : NodeNumber → Key → Option NodeNumber) where
  -- a walk goes by one node after another
  pub walk-append : (n : NodeNumber) (xs ys : List Key) → walk child n (xs ++ ys) ≡ option_and_then (λ m. walk child m ys) (walk child n xs)
  walk-append n [] ys = refl
  walk-append n (k ∷ xs) ys = at (child n k) (λ m. walk-append m xs ys)
    where
      at : (o : Option NodeNumber) → ((m : NodeNumber) → walk child m (xs ++ ys) ≡ option_and_then (λ z. walk child z ys) (walk child m xs))
          → option_and_then (λ m. walk child m (xs ++ ys)) o ≡ option_and_then (λ m. walk child m ys) (option_and_then (λ m. walk child m xs) o)
      at None ih = refl
      at (Some m) ih = ih m

  pub walk_join : (n m c : NodeNumber) (xs ys : List Key) → walk child n xs ≡ Some m → walk child m ys ≡ Some c → walk child n (xs ++ ys) ≡ Some c
  walk_join n m c xs ys first second = walk-append n xs ys ∙ ap (option_and_then (λ z. walk child z ys)) first ∙ second

  -- what a step of a chain of two options comes from
  pub parts_of : {X Y : Type 0} (f : X → Option Y) (o : Option X) (y : Y) → option_and_then f o ≡ Some y → (x : X) × (o ≡ Some x) × (f x ≡ Some y)
  parts_of f None y e = cc
  parts_of f (Some x) y e = (x, refl, e)

  pub walk_split : (n c : NodeNumber) (xs ys : List Key) → walk child n (xs ++ ys) ≡ Some c
      → (m : NodeNumber) × (walk child n xs ≡ Some m) × (walk child m ys ≡ Some c)
  walk_split n c xs ys e = parts_of (λ m. walk child m ys) (walk child n xs) c (sym (walk-append n xs ys) ∙ e)

  module _ {size : ℕ} (tree : IsTree child size) where
    -- numbers do not fall along a walk, and rise along one that goes anywhere
    pub walk_rises : (n c : NodeNumber) (xs : List Key) → walk child n xs ≡ Some c → n.0 ≤ c.0
    walk_rises n c [] e = let same : n ≡ c = cc in let le : n.0 ≤ c.0 = omega (arith, ap (λ z. z.0) same) in le
    walk_rises n c (k ∷ xs) e =
        let step = parts_of (λ m. walk child m xs) (child n k) c e in
        omega (arith, tree.rising n k step.0 step.1, walk_rises step.0 c xs step.2)

    pub walk_rises_more : (n c : NodeNumber) (k : Key) (xs : List Key) → walk child n (k ∷ xs) ≡ Some c → n.0 < c.0
    walk_rises_more n c k xs e =
        let step = parts_of (λ m. walk child m xs) (child n k) c e in
        omega (arith, tree.rising n k step.0 step.1, walk_rises step.0 c xs step.2)

    pub walk_within : (n c : NodeNumber) (xs : List Key) → n.0 < size → walk child n xs ≡ Some c → c.0 < size
    walk_within n c [] inside e = let same : n ≡ c = cc in omega (arith, ap (λ z. z.0) same)
    walk_within n c (k ∷ xs) inside e =
        let step = parts_of (λ m. walk child m xs) (child n k) c e in
        walk_within step.0 c xs (tree.within n k step.0 step.1) step.2

    -- the last step of a walk
    last_step : (c : NodeNumber) (xs : List Key) (k : Key) → walk child root (reverse (k ∷ xs)) ≡ Some c
        → (m : NodeNumber) × (walk child root (reverse xs) ≡ Some m) × (child m k ≡ Some c)
    last_step c xs k e =
        let step = walk_split root c (reverse xs) (k ∷ []) (ap (walk child root) (sym (reverse-append (k ∷ []) xs)) ∙ e) in
        let down = parts_of (λ m. walk child m []) (child step.0 k) c step.2 in
        (step.0, step.1, down.1 ∙ down.2)

    same_reversed : (c : NodeNumber) (xs ys : List Key) → walk child root (reverse xs) ≡ Some c → walk child root (reverse ys) ≡ Some c → xs ≡ ys
    same_reversed c [] [] e f = refl
    same_reversed c [] (j ∷ ys) e f =
        let step = last_step c ys j f in let same : root ≡ c = cc in
        absurd (omega (arith, tree.rising step.0 j c step.2, ap (λ z. z.0) same))
    same_reversed c (k ∷ xs) [] e f =
        let step = last_step c xs k e in let same : root ≡ c = cc in
        absurd (omega (arith, tree.rising step.0 k c step.2, ap (λ z. z.0) same))
    same_reversed c (k ∷ xs) (j ∷ ys) e f =
        let one = last_step c xs k e in
        let other = last_step c ys j f in
        let alike = tree.unique one.0 other.0 k j c one.2 other.2 in
        let rest = same_reversed one.0 xs ys one.1 (other.1 ∙ ap Some (sym alike.0)) in
        λ i. alike.1 i ∷ rest i

    -- one way leads from the root to a node
    pub one_way : (c : NodeNumber) (xs ys : List Key) → walk child root xs ≡ Some c → walk child root ys ≡ Some c → xs ≡ ys
    one_way c xs ys e f =
        sym (reverse-reverse xs)
        ∙ ap reverse (same_reversed c (reverse xs) (reverse ys) (ap (walk child root) (reverse-reverse xs) ∙ e) (ap (walk child root) (reverse-reverse ys) ∙ f))
        ∙ reverse-reverse ys
