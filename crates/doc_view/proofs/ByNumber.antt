-- What is at a place, read by the number of its node.
use Rattle.std.proofs.Common.{◌≡◌, ℕ, ℤ, ◌+◌, ◌<◌, List, [], ◌∷◌, ◌++◌, length, get_or, take, map, filter, true, true≢false, inl, inr, Some, None, is_some, refl, sym, ap, ◌∙◌, subst, Contains}
use Rattle.std.specs.Prelude.{option_and_then}
use Rattle.std.proofs.lemmas.List.{map-append}
use Rattle.serde_json.specs.Data.{Data}
use Rattle.doc_api.specs.Words.{Id, Scalar, Key, Tagged}
use Rattle.op_core.specs.declared.cursor.Key.TheVariants.{Doc, Text, Element, Head}
use Rattle.op_core.specs.declared.cursor.Tagged.TheVariants as tagged
use Rattle.op_core.specs.Wire.{list_data}
use Rattle.crdt_rules.specs.Facts.{Facts}
use Rattle.doc_api.specs.declared.role.Role.{Role}
use Rattle.presence_set.specs.ById.{get, IsAscending}
use Rattle.list_order.specs.Entries.{ids_of}
use Rattle.doc_tree.specs.Nodes.{TreeValue}
use Rattle.doc_nodes.specs.declared.node.NodeNumber.{NodeNumber}
use Rattle.doc_nodes.specs.Nodes.{node_of, child_of}
use Rattle.doc_nodes.specs.ListPresence.{is_node_present}
use Rattle.crdt_rules.proofs.Tests.{same_found}
use Rattle.doc_tree.specs.Nodes.{tree_facts, tree_number}
use Rattle.doc_tree.proofs.Below.{list-into, number-into, present_child}
use Rattle.doc_tree.proofs.Reading.{role_read, role_absent, scalar_read, scalar_absent, number_read, number_absent, ids_read, ids_absent}
use Rattle.doc_rules.specs.Views.{AreElements, AreEntries, AreItems, AreTerms, HaveValues, IsPresent, into_map, into_list}
use Rattle.doc_rules.specs.Shown.{Shown, shown_data, no_map, no_list, total_shown, value_entry_data, count_branch}
use Rattle.doc_rules.specs.Sorted.{AreThose}
use Rattle.doc_rules.specs.Sorted.AreThose.{none, keep}
use Rattle.list_laws.proofs.Members.{Contains-here, Contains-there}
use Rattle.doc_view.specs.Members.{is_present_text, texts_at, texts_in}
use Rattle.doc_view.specs.ByNumber.{AreIn, AtNode, HasItems, IsTextAt, ShowsThose}
use Rattle.doc_view.specs.Showing.{EachElement, IsShown, IsMapShown, IsListShown}
use Rattle.doc_view.proofs.Entries.{are_all}
use Rattle.list_laws.proofs.Reading.{take_read}
use Rattle.doc_view.proofs.MapLaws.{those_append}
use Rattle.doc_view.proofs.Presence.{AreRoles, present_role, tree_decides}
use Rattle.doc_view.proofs.Lists.{those_filtered}
use Rattle.doc_view.proofs.ShowLaws.{shown_from}

-- where each of these children is a present text, all texts among them are present
pub all_present : (tree : TreeValue) (map : List Tagged) (children : List (Key × NodeNumber))
    → ((e : Key × NodeNumber) → Contains children e → is_present_text tree e ≡ true) → AreIn tree map children
    → AreThose (λ t. IsPresent (tree_facts tree) map (Text t)) (texts_in children) (texts_in children)
all_present tree map [] each in_map = none
all_present tree map ((k, n) ∷ children) each in_map =
    go k refl (all_present tree map children (λ e c. each e (Contains-there (k, n) children c)) (λ t m c. in_map t m (Contains-there (k, n) children c)))
  where
    go : (j : Key) → k ≡ j → AreThose (λ t. IsPresent (tree_facts tree) map (Text t)) (texts_in children) (texts_in children)
        → AreThose (λ t. IsPresent (tree_facts tree) map (Text t)) (texts_at j ++ texts_in children) (texts_at j ++ texts_in children)
    go (Text t) is rest =
        let here : Contains ((k, n) ∷ children) (Text t, n) = Contains-here children (ap (λ (j : Key). (j, n)) is) in
        keep ((tree_decides tree map (Text t)).0 (ap (is_node_present tree.0) (in_map t n here) ∙ each (Text t, n) here)) rest
    go Doc is rest = rest
    go (Element i) is rest = rest
    go Head is rest = rest

-- where a place has no node it isn't present
pub absent_place : (tree : TreeValue) (p : List Tagged) (k : Key) → tree_number tree p k ≡ None → ¬ (IsPresent (tree_facts tree) p k)
absent_place tree p k e = λ here. true≢false (sym here.1 ∙ present_role tree p k here.0 ∙ ap is_some (sym (role_absent tree.0 p k e here.0)))

-- nor is any below it
pub absent_below : (tree : TreeValue) (p : List Tagged) (k : Key) → tree_number tree p k ≡ None → (text : List ℕ) → ¬ (IsPresent (tree_facts tree) (into_map p k) (Text text))
absent_below tree p k e text =
    absent_place tree (into_map p k) (Text text)
    (number-into tree.0 p (tagged.Map k) (Text text) refl ∙ ap (option_and_then (λ n. child_of tree.0 n (Text text))) e)

-- and its list has no elements
pub no_elements : (tree : TreeValue) (p : List Tagged) (k : Key) → tree_number tree p k ≡ None → AreElements (tree_facts tree) p k []
no_elements tree p k e =
    subst (λ (ids : List Id). AreThose (λ i. IsPresent (tree_facts tree) (into_list p k) (Element i)) ids [])
    (ids_absent tree.0 (into_list p k) (list-into tree.0 p k ∙ e)) none

pub no_items : (tree : TreeValue) (p : List Tagged) (k : Key) → tree_number tree p k ≡ None → AreItems (tree_facts tree) p k []
no_items tree p k e = ([], no_elements tree p k e, tt)

module _ (tree : TreeValue) (p : List Tagged) (k : Key) (n : NodeNumber) (at : tree_number tree p k ≡ Some n) where
  -- what a node has is at its place
  pub roles_by_number : (roles : List (Id × Role)) → roles ≡ (node_of tree.0 n).presence.0 → IsAscending roles → AreRoles tree p k roles
  roles_by_number roles is ascending = record { value = λ i. ap (λ l. get l i) is ∙ role_read tree.0 p k n at i; ascending = ascending }

  pub entries_by_number : (entries : List (Id × Scalar)) → entries ≡ (node_of tree.0 n).register.0 → IsAscending entries → AreEntries (tree_facts tree) p k entries
  entries_by_number entries is ascending = are_all entries ((tree_facts tree).register p k) ascending (λ i. ap (λ l. get l i) is ∙ scalar_read tree.0 p k n at i)

  pub terms_by_number : (terms : List (Id × ℤ)) → terms ≡ (node_of tree.0 n).counter.0 → IsAscending terms → AreTerms (tree_facts tree) p k terms
  terms_by_number terms is ascending = are_all terms ((tree_facts tree).counter p k) ascending (λ i. ap (λ l. get l i) is ∙ number_read tree.0 p k n at i)

  order_by_number : (ids : List Id) → ids ≡ ids_of (node_of tree.0 n).order.0 → ids ≡ (tree_facts tree).order (into_list p k)
  order_by_number ids is = is ∙ ids_read tree.0 (into_list p k) n (list-into tree.0 p k ∙ at)

  -- a child of the node has the place below
  pub element_number : (i : Id) → tree_number tree (into_list p k) (Element i) ≡ child_of tree.0 n (Element i)
  element_number i = number-into tree.0 p (tagged.List k) (Element i) refl ∙ ap (option_and_then (λ m. child_of tree.0 m (Element i))) at

  -- what is kept of the node's present elements is what is present in the list
  pub elements_by_number : (ids kept : List Id) → ids ≡ filter (λ i. is_node_present tree.0 (child_of tree.0 n (Element i))) (ids_of (node_of tree.0 n).order.0)
      → AreThose (λ i. IsPresent (tree_facts tree) (into_list p k) (Element i)) ids kept → AreElements (tree_facts tree) p k kept
  elements_by_number ids kept is those =
      let all : List Id = ids_of (node_of tree.0 n).order.0 in
      subst (λ (l : List Id). AreThose (λ i. IsPresent (tree_facts tree) (into_list p k) (Element i)) l kept) (order_by_number all refl)
      (those_filtered (λ i. is_node_present tree.0 (child_of tree.0 n (Element i)))
      (λ i e here. true≢false (sym ((tree_decides tree (into_list p k) (Element i)).1 here) ∙ ap (is_node_present tree.0) (element_number i) ∙ e))
      all ids kept (sym is) those)

  module _ (children : List (Key × NodeNumber)) where
    pub text_place : ((q : Key) (c : NodeNumber) → Contains children (q, c) → child_of tree.0 n q ≡ Some c) → (i : ℕ) (child : Key × NodeNumber) → i < length children → child ≡ get_or children i child
        → IsTextAt tree (into_map p k) child.0 child.1
    text_place found i child within is = λ text e.
        number-into tree.0 p (tagged.Map k) (Text text) refl
        ∙ ap (option_and_then (λ m. child_of tree.0 m (Text text))) at
        ∙ ap (child_of tree.0 n) (sym e)
        ∙ found child.0 child.1 (i, within, sym is)

    -- each present key of the map is among the children
    pub has_child : ((q : Key) (c : NodeNumber) → child_of tree.0 n q ≡ Some c → is_node_present tree.0 (Some c) ≡ true → Contains children (q, c)) → (text : List ℕ) (i : Id) → (tree_facts tree).present (into_map p k) (Text text) i ≡ true → (c : NodeNumber) × Contains children (Text text, c)
    has_child present text i here =
        let below = present_child tree.0 p (tagged.Map k) (Text text) refl i here in
        let same = same_found below.2 at in (
          below.1,
          present (Text text) below.1 (subst (λ m. child_of tree.0 m (Text text) ≡ Some below.1) same below.3) below.4,
        )

-- ---- elements of a list, one after another

items_join : (f : Facts) (list : List Tagged) (ids more : List Id) (items others : List (Id × List Scalar))
    → HaveValues f list ids items → HaveValues f list more others → HaveValues f list (ids ++ more) (items ++ others)
items_join f list [] more [] others h g = g
items_join f list (i ∷ ids) more (item ∷ items) others h g = (h.0, h.1, items_join f list ids more items others h.2 g)
items_join f list [] more (item ∷ items) others h g = absurd h
items_join f list (i ∷ ids) more [] others h g = absurd h

pub items_step : (f : Facts) (list : List Tagged) (ids : List Id) (i : ℕ) (id : Id) (items more new : List (Id × List Scalar)) → i < length ids → id ≡ get_or ids i id
    → HasItems f list (take i ids) items → HasItems f list (id ∷ []) more → new ≡ items ++ more → HasItems f list (take (i + 1) ids) new
items_step f list ids i id items more new within is h g e =
    subst (λ (l : List (Id × List Scalar)). HasItems f list (take (i + 1) ids) l) (sym e)
    (subst (λ (l : List Id). HasItems f list l (items ++ more)) (sym (take_read ids i id within is))
    (h.0 ++ g.0, those_append h.1 g.1, items_join f list h.0 g.0 items more h.2 g.2))

each_join : (tree : TreeValue) (list : List Tagged) (ids more : List Id) (es others : List Shown)
    → EachElement tree list ids es → EachElement tree list more others → EachElement tree list (ids ++ more) (es ++ others)
each_join tree list [] more [] others h g = g
each_join tree list (i ∷ ids) more (e ∷ es) others h g = (h.0, each_join tree list ids more es others h.1 g)
each_join tree list [] more (e ∷ es) others h g = absurd h
each_join tree list (i ∷ ids) more [] others h g = absurd h

pub shows_step : (tree : TreeValue) (list : List Tagged) (ids : List Id) (i : ℕ) (id : Id) (ds more new : List Data) → i < length ids → id ≡ get_or ids i id
    → ShowsThose tree list (take i ids) ds → ShowsThose tree list (id ∷ []) more → new ≡ ds ++ more → ShowsThose tree list (take (i + 1) ids) new
shows_step tree list ids i id ds more new within is h g e =
    subst (λ (l : List Data). ShowsThose tree list (take (i + 1) ids) l) (sym e)
    (subst (λ (l : List Id). ShowsThose tree list l (ds ++ more)) (sym (take_read ids i id within is)) (
      h.0 ++ g.0,
      those_append h.1 g.1,
      record {
        elements = h.2.elements ++ g.2.elements;
        each = each_join tree list h.0 g.0 h.2.elements g.2.elements h.2.each g.2.each;
        is = (λ j. h.2.is j ++ g.2.is j) ∙ sym (map-append shown_data h.2.elements g.2.elements);
      },
    ))

-- ---- whole elements

pub shown_by_number : (tree : TreeValue) (n : NodeNumber) (ms ls : List Data) (entries : List (Id × Scalar)) (terms : List (Id × ℤ))
    → AtNode tree n (λ p k. IsMapShown tree p k ms) → AtNode tree n (λ p k. IsListShown tree p k ls)
    → AtNode tree n (λ p k. AreEntries (tree_facts tree) p k entries) → AtNode tree n (λ p k. AreTerms (tree_facts tree) p k terms)
    → AtNode tree n (λ p k. IsShown tree p k (list_data (ms ++ ls ++ map value_entry_data entries ++ count_branch (total_shown terms))))
shown_by_number tree n ms ls entries terms m l e t = λ p k at. shown_from tree p k ms ls entries terms (m p k at) (l p k at) (e p k at) (t p k at)

-- nothing is shown where there is no node
pub nothing_shown : (tree : TreeValue) (p : List Tagged) (k : Key) → tree_number tree p k ≡ None → IsShown tree p k (list_data [])
nothing_shown tree p k e = shown_from tree p k [] [] [] [] map_part list_part
    (are_all [] ((tree_facts tree).register p k) tt (scalar_absent tree.0 p k e))
    (are_all [] ((tree_facts tree).counter p k) tt (number_absent tree.0 p k e))
  where
    map_part : IsMapShown tree p k []
    map_part = record {
      shown = no_map;
      shows = λ h. elim h [
        | inl key ↦ absent_below tree p k e key.0 key.1
        | inr put ↦ absent_place tree p k e (put.0, put.1)
      ];
      is = refl;
    }

    list_part : IsListShown tree p k []
    list_part = record {
      shown = no_list;
      shows = ([], no_elements tree p k e, λ h. elim h [ inl some ↦ absurd (some refl) | inr put ↦ absent_place tree p k e (put.0, put.1) ]);
      is = refl;
    }
