-- The step of an operation, from what it does at one place.
use Rattle.std.proofs.Common.{true, ◌≡◌, ◌<◌, ℤ, List, length, set, Bool, ◌&&◌, ◌||◌, not, if◌then◌else◌, Option, Some, None, refl, sym, ap, ◌∙◌, subst}
use Rattle.std.specs.Prelude.{IsSome, option_and_then}
use Rattle.std.proofs.Math.Bool.{or-false, and-true}
use Rattle.doc_api.specs.Words.{Id, Scalar, Val, Key, Tagged, Mutation, Assign, Insert, Delete, Add, Op, id_cmp}
use Rattle.op_core.specs.declared.cursor.Key.TheVariants.{Element}
use Rattle.crdt_rules.specs.Same.{id_eq, key_eq, path_eq}
use Rattle.crdt_rules.specs.Within.{is_within}
use Rattle.list_laws.specs.Order.{insert_after}
use Rattle.crdt_rules.specs.Effect.{scalar_in, path_of}
use Rattle.crdt_rules.specs.Context.{reference, entered}
use Rattle.crdt_rules.specs.Facts.{Facts, step_facts}
use Rattle.doc_api.specs.declared.role.Role.{Role}
use Rattle.doc_api.specs.declared.role.Role.TheVariants.{Counter}
use Rattle.doc_nodes.specs.declared.node.NodeNumber.{NodeNumber}
use Rattle.doc_nodes.specs.declared.node.Node.{Node}
use Rattle.doc_nodes.specs.Walk.{root, walk, trail}
use Rattle.doc_nodes.specs.Nodes.{node_of, child_of, node_at}
use Rattle.doc_tree.specs.Changes.{clear_facts_at}
use Rattle.doc_nodes.specs.Writes.{with_entry}
use Rattle.doc_tree.specs.Changes.{put_facts, put_role, add_facts, add_role, order_facts}
use Rattle.doc_tree.specs.Prepared.{IsReadyFor}
use Rattle.doc_rules.specs.Role.{step_roles, role_of}
use Rattle.doc_nodes.proofs.AddingPresence.{shape-set}
use Rattle.doc_nodes.proofs.AddingPresence.{unwritten}

-- an operation with a known mutation
abbrev with_mutation : Op → Mutation → Op
with_mutation op m = record { id = op.id; front = op.front; cursor = op.cursor; mutation = m }

pub known_mutation : (op : Op) (m : Mutation) → op.mutation ≡ m → op ≡ with_mutation op m
known_mutation op m e = λ i. record { id = op.id; front = op.front; cursor = op.cursor; mutation = e i }

put_is : (f : Facts) (p : List Tagged) (k : Key) (deps : Id → Bool) (id : Id) (s : Option Scalar)
    → put_facts f p k deps id s
    ≡ record {
      present = λ q j i. (f.present q j i && not (is_within q j p k && deps i)) || (is_within p k q j && id_eq id i);
      register = λ q j i. entered (path_eq p q && key_eq k j && id_eq id i) s (if is_within q j p k && deps i then None else f.register q j i);
      counter = λ q j i. if is_within q j p k && deps i then None else f.counter q j i;
      order = f.order;
    }
put_is f p k deps id None = refl
put_is f p k deps id (Some s) = refl

pub insert_step : (f : Facts) (op : Op) (v : Val) (deps : Id → Bool) → op.mutation ≡ Insert v
    → put_facts (order_facts f (path_of op) (λ ids. insert_after id_cmp ids (reference op.cursor.key) op.id)) (path_of op) (Element op.id) deps op.id (scalar_in v) ≡ step_facts f op deps
insert_step f op v deps e =
    put_is (order_facts f (path_of op) (λ ids. insert_after id_cmp ids (reference op.cursor.key) op.id)) (path_of op) (Element op.id) deps op.id (scalar_in v)
    ∙ ap (λ o. step_facts f o deps) (sym (known_mutation op (Insert v) e))

pub delete_step : (f : Facts) (op : Op) (deps : Id → Bool) → op.mutation ≡ Delete → clear_facts_at f (path_of op) op.cursor.key deps ≡ step_facts f op deps
delete_step f op deps e = same ∙ ap (λ o. step_facts f o deps) (sym (known_mutation op Delete e))
  where
    same : clear_facts_at f (path_of op) op.cursor.key deps ≡ step_facts f (with_mutation op Delete) deps
    same = λ x. record {
      present = λ q j i. sym (or-false (f.present q j i && not (is_within q j (path_of op) op.cursor.key && deps i))) x;
      register = λ q j i. if is_within q j (path_of op) op.cursor.key && deps i then None else f.register q j i;
      counter = λ q j i. if is_within q j (path_of op) op.cursor.key && deps i then None else f.counter q j i;
      order = f.order;
    }

pub add_step : (f : Facts) (op : Op) (n : ℤ) (deps : Id → Bool) → op.mutation ≡ Add n → add_facts f (path_of op) op.cursor.key op.id n ≡ step_facts f op deps
add_step f op n deps e = same ∙ ap (λ o. step_facts f o deps) (sym (known_mutation op (Add n) e))
  where
    same : add_facts f (path_of op) op.cursor.key op.id n ≡ step_facts f (with_mutation op (Add n)) deps
    same = λ x. record {
      present = λ q j i. sym (and-true (f.present q j i)) x || (is_within (path_of op) op.cursor.key q j && id_eq op.id i);
      register = f.register;
      counter = λ q j i. if path_eq (path_of op) q && key_eq op.cursor.key j && id_eq op.id i then Some n else f.counter q j i;
      order = f.order;
    }

module _ (before : List Tagged → Key → Id → Option Role) (op : Op) (deps : Id → Bool) (q : List Tagged) (j : Key) (i : Id) where
  pub assign_role : (v : Val) → op.mutation ≡ Assign v → put_role before (path_of op) op.cursor.key deps op.id (role_of v) q j i ≡ step_roles before op deps q j i
  assign_role v e = ap (λ o. step_roles before o deps q j i) (sym (known_mutation op (Assign v) e))

  pub insert_role : (v : Val) → op.mutation ≡ Insert v → put_role before (path_of op) (Element op.id) deps op.id (role_of v) q j i ≡ step_roles before op deps q j i
  insert_role v e = ap (λ o. step_roles before o deps q j i) (sym (known_mutation op (Insert v) e))

  pub delete_role : op.mutation ≡ Delete → (if is_within q j (path_of op) op.cursor.key && deps i then None else before q j i) ≡ step_roles before op deps q j i
  delete_role e = ap (λ o. step_roles before o deps q j i) (sym (known_mutation op Delete e))

  pub add_role_step : (n : ℤ) → op.mutation ≡ Add n → add_role before (path_of op) op.cursor.key op.id Counter q j i ≡ step_roles before op deps q j i
  add_role_step n e = ap (λ o. step_roles before o deps q j i) (sym (known_mutation op (Add n) e))

-- a change of the order of a list leaves the room at a place
pub ready-linked : (nodes : List Node) (n : NodeNumber) (after : Option Id) (id : Id) → n.0 < length nodes → (p : List Tagged) (k : Key) (adds : Bool)
    → IsReadyFor nodes p k adds → IsReadyFor (set nodes n.0 (with_entry after id (node_of nodes n))) p k adds
ready-linked nodes n after id within p k adds ready = record {
  found = subst IsSome (sym same_node) ready.found;
  along = λ begin rest j e w.
      subst (λ r. r.1 ≡ true) (sym (unwritten nodes n within (λ z. z.presence) (with_entry after id (node_of nodes n)) refl j))
      (ready.along begin rest j e (ap (λ g. walk g root begin) (sym shape) ∙ w));
  register = λ which m e.
      subst (λ r. length r.0 < r.1) (sym (unwritten nodes n within (λ z. z.register) (with_entry after id (node_of nodes n)) refl m))
      (ready.register which m (sym same_node ∙ e));
  counter = λ which m e.
      subst (λ r. r.1 ≡ true) (sym (unwritten nodes n within (λ z. z.counter) (with_entry after id (node_of nodes n)) refl m))
      (ready.counter which m (sym same_node ∙ e));
}
  where
    shape : child_of (set nodes n.0 (with_entry after id (node_of nodes n))) ≡ child_of nodes
    shape = shape-set nodes n (with_entry after id (node_of nodes n)) within refl

    same_node : node_at (set nodes n.0 (with_entry after id (node_of nodes n))) p k ≡ node_at nodes p k
    same_node = ap (λ g. option_and_then (walk g root) (trail p k)) (shape-set nodes n (with_entry after id (node_of nodes n)) within refl)
