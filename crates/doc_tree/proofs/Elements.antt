-- The elements of a list, as children of the list's node.
use Rattle.std.proofs.Common.{◌≡◌, inl, inr, List, [], ◌∷◌, ◌++◌, filter, Contains, Bool, true, false, if◌then◌else◌, Option, Some, None, refl, sym, ap, ◌∙◌}
use Rattle.std.specs.Prelude.{option_and_then}
use Rattle.std.specs.Option.{option_map}
use Rattle.doc_api.specs.Words.{Id, Key, Tagged}
use Rattle.op_core.specs.declared.cursor.Key.TheVariants.{Doc, Element}
use Rattle.op_core.specs.declared.cursor.Tagged.TheVariants.{Map as MapAt, List as ListAt}
use Rattle.op_core.specs.Shape.{key_of, is_list, may_follow}
use Rattle.crdt_rules.specs.Same.{id_eq, key_eq}
use Rattle.list_laws.proofs.Members.{Contains-nil, Contains-here, Contains-there, Contains-cases}
use Rattle.list_order.specs.Entries.{ids_of, present_of, up_to}
use Rattle.list_order.proofs.Entries.{present_of-holding}
use Rattle.doc_nodes.specs.declared.node.NodeNumber.{NodeNumber}
use Rattle.doc_nodes.specs.declared.node.Node.{Node}
use Rattle.doc_nodes.specs.Walk.{trail, trail_below, list_trail, list_trail_below, walk, root}
use Rattle.doc_nodes.specs.Nodes.{node_of, child_of, node_at, list_node_at}
use Rattle.doc_tree.specs.Facts.{facts_of}
use Rattle.doc_nodes.specs.ListPresence.{is_node_present, ListsShowPresence}
use Rattle.doc_rules.specs.Index.{ids_up_to}
use Rattle.doc_nodes.proofs.Walks.{parts_of, walk-append}
use Rattle.doc_tree.proofs.Reading.{ids_read}
use Rattle.doc_tree.proofs.Below.{one_step}

-- the way to an element goes by its list
trail-element_below : (t : Tagged) (p : List Tagged) (i : Id) (front : List Key) → list_trail_below t p ≡ Some front → trail_below t p (Element i) ≡ Some (front ++ Element i ∷ [])
trail-element_below t [] i front e = go t e
  where
    go : (t : Tagged) → (if is_list t then Some [] else None) ≡ Some front → trail_below t [] (Element i) ≡ Some (front ++ Element i ∷ [])
    go (ListAt k) f = let none : [] ≡ front = cc in ap (λ l. Some (l ++ Element i ∷ [])) none
    go (MapAt k) f = absurd (cc)
trail-element_below t (s ∷ p) i front e = go (may_follow t (key_of s)) (list_trail_below s p) (trail-element_below s p i) e
  where
    go : (b : Bool) (o : Option (List Key)) → ((l : List Key) → o ≡ Some l → trail_below s p (Element i) ≡ Some (l ++ Element i ∷ []))
        → (if b then option_map (λ l. key_of s ∷ l) o else None) ≡ Some front
        → (if b then option_map (λ l. key_of s ∷ l) (trail_below s p (Element i)) else None) ≡ Some (front ++ Element i ∷ [])
    go true (Some l) ih f =
        let one : key_of s ∷ l ≡ front = cc in
        ap (option_map (λ x. key_of s ∷ x)) (ih l refl) ∙ ap (λ x. Some (x ++ Element i ∷ [])) one
    go true None ih f = absurd (cc)
    go false o ih f = absurd (cc)

trail-element : (p : List Tagged) (i : Id) (front : List Key) → list_trail p ≡ Some front → trail p (Element i) ≡ Some (front ++ Element i ∷ [])
trail-element [] i front e = absurd (cc)
trail-element (t ∷ p) i front e = go (key_eq (key_of t) Doc) e
  where
    go : (b : Bool) → (if b then list_trail_below t p else None) ≡ Some front → (if b then trail_below t p (Element i) else None) ≡ Some (front ++ Element i ∷ [])
    go true f = trail-element_below t p i front f
    go false f = absurd (cc)

-- so its node is a child of the list's
pub element_child : (nodes : List Node) (p : List Tagged) (n : NodeNumber) (i : Id) → list_node_at nodes p ≡ Some n → node_at nodes p (Element i) ≡ child_of nodes n (Element i)
element_child nodes p n i e =
    let way = parts_of (child_of nodes) (walk (child_of nodes) root) (list_trail p) n e in
    ap (option_and_then (walk (child_of nodes) root)) (trail-element p i way.0 way.1)
    ∙ walk-append (child_of nodes) root way.0 (Element i ∷ [])
    ∙ ap (option_and_then (λ m. walk (child_of nodes) m (Element i ∷ []))) way.2
    ∙ one_step (child_of nodes n (Element i))

-- the list of a node shows which of its elements are present
pub present_by_number : (nodes : List Node) → ListsShowPresence nodes → (n : NodeNumber)
    → present_of (node_of nodes n).order.0 ≡ filter (λ i. is_node_present nodes (child_of nodes n (Element i))) (ids_of (node_of nodes n).order.0)
present_by_number nodes right n = present_of-holding (λ i. is_node_present nodes (child_of nodes n (Element i))) (node_of nodes n).order.0 (λ i is c. right.0 n i is c)

-- and these are the present elements of the list that leads to it
pub elements_listed : (nodes : List Node) (p : List Tagged) (n : NodeNumber) → list_node_at nodes p ≡ Some n
    → filter (λ i. is_node_present nodes (child_of nodes n (Element i))) (ids_of (node_of nodes n).order.0)
    ≡ filter (λ i. is_node_present nodes (node_at nodes p (Element i))) ((facts_of nodes).order p)
elements_listed nodes p n e =
    λ k. filter (λ i. is_node_present nodes (sym (element_child nodes p n i e) k)) (ids_read nodes p n e k)

-- ---- those up to an element

same_up_to : (i : Id) (entries : List (Id × Bool)) → ids_of (up_to i entries) ≡ ids_up_to i (ids_of entries)
same_up_to i [] = refl
same_up_to i (e ∷ entries) = go (id_eq e.0 i) (same_up_to i entries)
  where
    go : (b : Bool) → ids_of (up_to i entries) ≡ ids_up_to i (ids_of entries)
        → ids_of (if b then e ∷ [] else e ∷ up_to i entries) ≡ (if b then e.0 ∷ [] else e.0 ∷ ids_up_to i (ids_of entries))
    go true ih = refl
    go false ih = ap (λ l. e.0 ∷ l) ih

within_all : (i : Id) (entries : List (Id × Bool)) (x : Id × Bool) → Contains (up_to i entries) x → Contains entries x
within_all i [] x c = c
within_all i (e ∷ entries) x c = go (id_eq e.0 i) (within_all i entries x) c
  where
    go : (b : Bool) → (Contains (up_to i entries) x → Contains entries x) → Contains (if b then e ∷ [] else e ∷ up_to i entries) x → Contains (e ∷ entries) x
    go true ih c = elim (Contains-cases e [] c) [ inl is ↦ Contains-here entries is | inr none ↦ absurd (Contains-nil none) ]
    go false ih c =
        elim (Contains-cases e (up_to i entries) c) [ inl is ↦ Contains-here entries is | inr there ↦ Contains-there e entries (ih there) ]

-- the list of a node shows which of its elements up to one are present
pub present_up_to : (nodes : List Node) → ListsShowPresence nodes → (n : NodeNumber) (i : Id)
    → present_of (up_to i (node_of nodes n).order.0)
    ≡ filter (λ j. is_node_present nodes (child_of nodes n (Element j))) (ids_up_to i (ids_of (node_of nodes n).order.0))
present_up_to nodes right n i =
    present_of-holding (λ j. is_node_present nodes (child_of nodes n (Element j))) (up_to i (node_of nodes n).order.0)
    (λ j is c. right.0 n j is (within_all i (node_of nodes n).order.0 (j, is) c))
    ∙ ap (filter (λ j. is_node_present nodes (child_of nodes n (Element j)))) (same_up_to i (node_of nodes n).order.0)

-- and these are those of the list that leads to it
pub elements_up_to : (nodes : List Node) (p : List Tagged) (n : NodeNumber) (i : Id) → list_node_at nodes p ≡ Some n
    → filter (λ j. is_node_present nodes (child_of nodes n (Element j))) (ids_up_to i (ids_of (node_of nodes n).order.0))
    ≡ filter (λ j. is_node_present nodes (node_at nodes p (Element j))) (ids_up_to i ((facts_of nodes).order p))
elements_up_to nodes p n i e =
    λ k. filter (λ j. is_node_present nodes (sym (element_child nodes p n j e) k)) (ids_up_to i (ids_read nodes p n e k))
