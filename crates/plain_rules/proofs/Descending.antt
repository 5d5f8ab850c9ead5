-- An operation on its way down through plain contexts.
use Rattle.std.proofs.Common.{◌≡◌, ℤ, suc, ◌+◌, ◌<◌, ◌≤◌, List, [], ◌∷◌, length, get_or, Bool, true, false, not, if◌then◌else◌, refl, sym, ap, ◌∙◌, subst, arith}
use Rattle.std.specs.List.{remove}
use Rattle.lamport_id.specs.declared.id.Id.{Id}
use Rattle.json_scalar.specs.declared.scalar.Scalar.{Scalar}
use Rattle.op_core.specs.declared.cursor.Key.{Key}
use Rattle.op_core.specs.declared.cursor.Tagged.{Tagged}
use Rattle.op_core.specs.declared.mutation.Mutation.{Mutation}
use Rattle.op_core.specs.declared.mutation.Mutation.TheVariants.{Assign, Insert, Delete, Add}
use Rattle.op_core.specs.Op.{Op}
use Rattle.op_core.specs.Shape.{key_of}
use Rattle.crdt_rules.specs.Same.{tagged_eq}
use Rattle.crdt_rules.specs.Context.{Context, empty, node, child, register, counter, present, order, mutate, descend}
use Rattle.crdt_rules.proofs.SameLaws.{tagged_decides}
use Rattle.plain_rules.specs.Plain.{child_in, whole, blank_context, made, passed_key, context_of, contexts_of, place_of_child}
use Rattle.plain_rules.specs.declared.context.PlainContext.{PlainContext}
use Rattle.plain_rules.proofs.Contexts.{context_of-out}

pub made-context : (p : PlainContext) → context_of p ≡ made (context_of p)
made-context p = subst (λ c. c ≡ made c) (sym (context_of-out p)) refl

module _ (key : Tagged) where
  -- the place of a key among the children leads to the first child at that key
  pub child_at : (children : List (Tagged × PlainContext)) (d : Tagged × PlainContext) → place_of_child children key < length children
      → context_of (get_or children (place_of_child children key) d).1 ≡ child_in (contexts_of children) key
  child_at [] d within = absurd (omega arith)
  child_at (c ∷ children) d within = by (tagged_eq c.0 key) (child_at children d) within
    where
      by : (here : Bool)
          → (place_of_child children key < length children → context_of (get_or children (place_of_child children key) d).1 ≡ child_in (contexts_of children) key)
          → (if not here then 1 + place_of_child children key else 0) < length (c ∷ children)
          → context_of (get_or (c ∷ children) (if not here then 1 + place_of_child children key else 0) d).1
          ≡ (if here then context_of c.1 else child_in (contexts_of children) key)
      by true ih inside = refl
      by false ih inside =
          let one : 1 + place_of_child children key ≡ suc (place_of_child children key) = omega arith in
          rw one (ih (omega arith))

  pub child_missing : (children : List (Tagged × PlainContext)) → length children ≤ place_of_child children key
      → child_in (contexts_of children) key ≡ empty
  child_missing [] within = refl
  child_missing (c ∷ children) within = by (tagged_eq c.0 key) (child_missing children) within
    where
      by : (here : Bool) → (length children ≤ place_of_child children key → child_in (contexts_of children) key ≡ empty)
          → length (c ∷ children) ≤ (if not here then 1 + place_of_child children key else 0)
          → (if here then context_of c.1 else child_in (contexts_of children) key) ≡ empty
      by true ih inside = absurd (omega arith)
      by false ih inside = ih (omega arith)

  -- without it, the other children are as they were
  pub others_stay : (children : List (Tagged × PlainContext)) → (t : Tagged) → tagged_eq key t ≡ false
      → child_in (contexts_of (remove children (place_of_child children key))) t ≡ child_in (contexts_of children) t
  others_stay [] t other = refl
  others_stay (c ∷ children) t other = by (tagged_eq c.0 key) (tagged_decides.same c.0 key) (others_stay children t other)
    where
      by : (here : Bool) → (here ≡ true → c.0 ≡ key)
          → child_in (contexts_of (remove children (place_of_child children key))) t ≡ child_in (contexts_of children) t
          → child_in (contexts_of (remove (c ∷ children) (if not here then 1 + place_of_child children key else 0))) t
          ≡ (if tagged_eq c.0 t then context_of c.1 else child_in (contexts_of children) t)
      by true same ih = rw (same refl) (rw other refl)
      by false same ih =
          let one : 1 + place_of_child children key ≡ suc (place_of_child children key) = omega arith in
          rw one (ap (λ x. if tagged_eq c.0 t then context_of c.1 else x) ih)

module _ (deps : Id → Bool) (op : Op) where
  -- in a missing context an operation does what it does in one that was made
  pub descend-made : (path : List Tagged) (ctx : Context) → descend deps op path (made ctx) ≡ descend deps op path ctx
  descend-made path (node c r n p o) = refl
  descend-made [] empty = by op.mutation
    where
      by : (m : Mutation) → mutate deps op.id op.cursor.key m blank_context ≡ mutate deps op.id op.cursor.key m empty
      by (Assign v) = refl
      by (Insert v) = refl
      by Delete = refl
      by (Add n) = refl
  descend-made (t ∷ path) empty = refl

  -- one key of the way: it is passed, and its child taken out, changed and put first
  pub descended : (first : Tagged) (rest : List Tagged) (ctx : Context) (children others : List (Tagged × Context))
      (scalars : List (Key × Id × Scalar)) (numbers : List (Key × Id × ℤ)) (marks : List (Key × Id)) (ids : List Id) (taken changed : Context)
      → whole children scalars numbers marks ids ≡ passed_key op.id (key_of first) op.mutation ctx
      → taken ≡ made (child_in children first)
      → ((t : Tagged) → tagged_eq first t ≡ false → child_in others t ≡ child_in children t)
      → changed ≡ descend deps op rest taken
      → whole ((first, changed) ∷ others) scalars numbers marks ids ≡ descend deps op (first ∷ rest) ctx
  descended first rest ctx children others scalars numbers marks ids taken changed pass take stay change = λ x.
      node (λ s. by s (tagged_eq first s) refl x) (register (pass x)) (counter (pass x)) (present (pass x)) (order (pass x))
    where
      by : (s : Tagged) (here : Bool) → tagged_eq first s ≡ here
          → (if here then changed else child_in others s) ≡ (if here then descend deps op rest (child ctx first) else child ctx s)
      by s true h = change ∙ ap (descend deps op rest) take ∙ descend-made rest (child_in children first) ∙ ap (λ c. descend deps op rest (child c first)) pass
      by s false h = stay s h ∙ ap (λ c. child c s) pass
