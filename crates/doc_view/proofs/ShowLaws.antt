-- What the parts of a shown element make together.
use Rattle.std.proofs.Common.{◌≡◌, ℕ, ℤ, ◌+◌, ◌<◌, List, [], ◌∷◌, ◌++◌, length, get_or, take, map, codes, Bool, true, false, true≢false, Decides, Option, Some, None, option_and_then, inl, inr, refl, sym, ap, ◌∙◌, subst, Contains}
use Rattle.std.specs.List.{list_any}
use Rattle.std.proofs.lemmas.List.{map-append}
use Rattle.serde_json.specs.Data.{Data, string, array}
use Rattle.serde_json.specs.View.{items_of}
use Rattle.doc_api.specs.Words.{Id, Scalar, Val, Key, Tagged}
use Rattle.json_scalar.specs.declared.scalar.Val.TheVariants.{EmptyMap, EmptyList}
use Rattle.op_core.specs.declared.cursor.Key.TheVariants.{Doc, Text, Element, Head}
use Rattle.op_core.specs.Wire.{list_data}
use Rattle.list_laws.proofs.Members.{Contains-nil, Contains-here, Contains-cases}
use Rattle.crdt_rules.proofs.Tests.{any_at, any_from}
use Rattle.doc_api.specs.declared.role.Role.{Role}
use Rattle.doc_api.specs.declared.role.Role.TheVariants as role
use Rattle.doc_tree.specs.Nodes.{TreeValue}
use Rattle.doc_nodes.specs.declared.node.NodeNumber.{NodeNumber}
use Rattle.key_map.specs.KeyOrder as key_order
use Rattle.doc_tree.specs.Nodes.{tree_facts}
use Rattle.doc_rules.specs.Views.{AreKeys, AreEntries, AreTerms, AreElements, IsPresent, into_map, into_list}
use Rattle.doc_rules.specs.Role.{value_in}
use Rattle.doc_rules.specs.Shown.{Shown, Fields, Elements, shown, no_map, a_map, no_list, a_list, no_fields, field, no_elements, element, names, IsPut, HasMap, HasList, total_shown, Shows, ShowsFields, ShowsElements, value_entry_data, count_branch, shown_data, fields_data, elements_data}
use Rattle.doc_rules.specs.Sorted.{AreThose}
use Rattle.doc_rules.proofs.Resolved.{those_from}
use Rattle.doc_view.specs.Members.{texts_at, texts_in}
use Rattle.presence_set.specs.EmptyPut.{puts_map, puts_list}
use Rattle.doc_view.specs.Showing.{field_data, IsShown, IsMapShown, IsListShown, EachField, AreFields, EachElement, AreShown}
use Rattle.doc_view.specs.TreeValues.{tree_values}
use Rattle.doc_view.proofs.Presence.{AreRoles, role_of, present_from, entry_from}
use Rattle.doc_view.proofs.MapLaws.{those_append, those_hold, are_keys, texts_in-next}
use Rattle.doc_view.proofs.Writing.{branch_of}

-- ---- which values are put

put_is_map : (r : Role) (s : Option Scalar) → value_in r s ≡ Some EmptyMap → puts_map r ≡ true
put_is_map role.Through s e = cc
put_is_map role.Map s e = refl
put_is_map role.List s e = cc
put_is_map role.Scalar None e = cc
put_is_map role.Scalar (Some s) e = cc
put_is_map role.Counter s e = cc

map_is_put : (r : Role) (s : Option Scalar) → puts_map r ≡ true → value_in r s ≡ Some EmptyMap
map_is_put role.Through s e = absurd (true≢false (sym e))
map_is_put role.Map s e = refl
map_is_put role.List s e = absurd (true≢false (sym e))
map_is_put role.Scalar s e = absurd (true≢false (sym e))
map_is_put role.Counter s e = absurd (true≢false (sym e))

put_is_list : (r : Role) (s : Option Scalar) → value_in r s ≡ Some EmptyList → puts_list r ≡ true
put_is_list role.Through s e = cc
put_is_list role.Map s e = cc
put_is_list role.List s e = refl
put_is_list role.Scalar None e = cc
put_is_list role.Scalar (Some s) e = cc
put_is_list role.Counter s e = cc

list_is_put : (r : Role) (s : Option Scalar) → puts_list r ≡ true → value_in r s ≡ Some EmptyList
list_is_put role.Through s e = absurd (true≢false (sym e))
list_is_put role.Map s e = absurd (true≢false (sym e))
list_is_put role.List s e = refl
list_is_put role.Scalar s e = absurd (true≢false (sym e))
list_is_put role.Counter s e = absurd (true≢false (sym e))

puts_decides : (tree : TreeValue) (p : List Tagged) (k : Key) (roles : List (Id × Role)) → AreRoles tree p k roles
    → (test : Role → Bool) (v : Val) → ((r : Role) (s : Option Scalar) → test r ≡ true → value_in r s ≡ Some v)
    → ((r : Role) (s : Option Scalar) → value_in r s ≡ Some v → test r ≡ true)
    → Decides (list_any (λ (e : Id × Role). test e.1) roles) (IsPut (tree_facts tree) (tree_values tree) p k v)
puts_decides tree p k roles are test v puts is_put = (
  λ h. let e = any_from (λ (e : Id × Role). test e.1) roles h in
      (e.0.0, present_from are e.0 e.1, ap (seen e.0.0) (role_of are e.0 e.1) ∙ puts e.0.1 (entry e.0.0) e.2),
  λ put. let e = entry_from are put.0 put.1 in
      any_at (λ (e : Id × Role). test e.1) roles e.1
      (is_put e.0 (entry put.0) (sym (ap (seen put.0) (role_of are (put.0, e.0) e.1)) ∙ put.2)),
)
  where
    entry : Id → Option Scalar
    entry i = (tree_facts tree).register p k i

    seen : Id → Option Role → Option Val
    seen i o = option_and_then (λ r. value_in r ((tree_facts tree).register p k i)) o

pub puts_map_decides : (tree : TreeValue) (p : List Tagged) (k : Key) (roles : List (Id × Role)) → AreRoles tree p k roles
    → Decides (list_any (λ (e : Id × Role). puts_map e.1) roles) (IsPut (tree_facts tree) (tree_values tree) p k EmptyMap)
puts_map_decides tree p k roles are = puts_decides tree p k roles are puts_map EmptyMap map_is_put put_is_map

pub puts_list_decides : (tree : TreeValue) (p : List Tagged) (k : Key) (roles : List (Id × Role)) → AreRoles tree p k roles
    → Decides (list_any (λ (e : Id × Role). puts_list e.1) roles) (IsPut (tree_facts tree) (tree_values tree) p k EmptyList)
puts_list_decides tree p k roles are = puts_decides tree p k roles are puts_list EmptyList list_is_put put_is_list

-- ---- fields

abbrev fields_of : List (List ℕ × Shown) → Fields
fields_of [] = no_fields
fields_of (x ∷ xs) = field x.0 x.1 (fields_of xs)

names-fields_of : (xs : List (List ℕ × Shown)) → names (fields_of xs) ≡ map (λ (x : List ℕ × Shown). x.0) xs
names-fields_of [] = refl
names-fields_of (x ∷ xs) = ap (λ ts. x.0 ∷ ts) (names-fields_of xs)

data-fields_of : (xs : List (List ℕ × Shown)) → items_of (map field_data xs) ≡ fields_data (fields_of xs)
data-fields_of [] = refl
data-fields_of (x ∷ xs) = rw (data-fields_of xs) refl

each_append : (tree : TreeValue) (p : List Tagged) (xs ys : List (List ℕ × Shown)) → EachField tree p xs → EachField tree p ys
    → EachField tree p (xs ++ ys)
each_append tree p [] ys h g = g
each_append tree p (x ∷ xs) ys h g = (h.0, each_append tree p xs ys h.1 g)

pub no_field : (tree : TreeValue) (p : List Tagged) (texts : List (List ℕ)) → AreThose (λ t. IsPresent (tree_facts tree) p (Text t)) texts []
    → AreFields tree p texts []
no_field tree p texts those = record { fields = []; kept = those; each = tt; is = refl }

pub one_field : (tree : TreeValue) (p : List Tagged) (texts : List (List ℕ)) (t : List ℕ) (k : Key) (d e : Data)
    → AreThose (λ t. IsPresent (tree_facts tree) p (Text t)) texts (t ∷ []) → k ≡ Text t → IsShown tree p k e
    → d ≡ list_data (string t ∷ e ∷ []) → AreFields tree p texts (d ∷ [])
one_field tree p texts t k d e those same seen is = record {
  fields = (t, seen.shown) ∷ [];
  kept = those;
  each = (subst (λ j. Shows (tree_facts tree) (tree_values tree) p j seen.shown) same seen.shows, tt);
  is = ap (λ x. x ∷ []) (is ∙ ap (λ y. list_data (string t ∷ y ∷ [])) seen.is);
}

fields_append : (tree : TreeValue) (p : List Tagged) (texts more : List (List ℕ)) (ds es : List Data)
    → AreFields tree p texts ds → AreFields tree p more es → AreFields tree p (texts ++ more) (ds ++ es)
fields_append tree p texts more ds es a b = record {
  fields = a.fields ++ b.fields;
  kept = subst (λ ts. AreThose (λ t. IsPresent (tree_facts tree) p (Text t)) (texts ++ more) ts)
      (sym (map-append (λ (x : List ℕ × Shown). x.0) a.fields b.fields)) (those_append a.kept b.kept);
  each = each_append tree p a.fields b.fields a.each b.each;
  is = (λ j. a.is j ++ b.is j) ∙ sym (map-append field_data a.fields b.fields);
}

pub fields_step : (tree : TreeValue) (p : List Tagged) (children : List (Key × NodeNumber)) (i : ℕ) (child : Key × NodeNumber) (ds es new : List Data)
    → i < length children → child ≡ get_or children i child → AreFields tree p (texts_in (take i children)) ds → AreFields tree p (texts_at child.0) es
    → new ≡ ds ++ es → AreFields tree p (texts_in (take (i + 1) children)) new
fields_step tree p children i child ds es new within is a b e =
    subst (λ (ts : List (List ℕ)). AreFields tree p ts new) (sym (texts_in-next children i child within is))
    (subst (λ (xs : List Data). AreFields tree p (texts_in (take i children) ++ texts_at child.0) xs) (sym e)
    (fields_append tree p (texts_in (take i children)) (texts_at child.0) ds es a b))

-- a key with one present text is that text
pub one_text : {holds : List ℕ → Type 0} (k : Key) (t : List ℕ) → AreThose holds (texts_at k) (t ∷ []) → (k ≡ Text t) × holds t
one_text k t those = (same k (those_from those t (Contains-here [] refl)), those_hold those t (Contains-here [] refl))
  where
    same : (k : Key) → Contains (texts_at k) t → k ≡ Text t
    same Doc c = absurd (Contains-nil c)
    same (Text s) c = elim (Contains-cases s [] c) [ inl is ↦ ap Text is | inr there ↦ absurd (Contains-nil there) ]
    same (Element i) c = absurd (Contains-nil c)
    same Head c = absurd (Contains-nil c)

fields_shown : (tree : TreeValue) (p : List Tagged) (xs : List (List ℕ × Shown)) → EachField tree p xs
    → ShowsFields (tree_facts tree) (tree_values tree) p (fields_of xs)
fields_shown tree p [] h = tt
fields_shown tree p (x ∷ xs) h = (h.0, fields_shown tree p xs h.1)

module _ (tree : TreeValue) (p : List Tagged) (k : Key) (children : List (Key × NodeNumber)) (rising : key_order.IsInKeyOrder children)
    (has : (t : List ℕ) (i : Id) → (tree_facts tree).present (into_map p k) (Text t) i ≡ true → (n : NodeNumber) × Contains children (Text t, n)) where
  keys_shown : (fields : List (List ℕ × Shown))
      → AreThose (λ t. IsPresent (tree_facts tree) (into_map p k) (Text t)) (texts_in children) (map (λ (x : List ℕ × Shown). x.0) fields)
      → AreKeys (tree_facts tree) p k (names (fields_of fields))
  keys_shown fields kept =
      subst (λ (ts : List (List ℕ)). AreKeys (tree_facts tree) p k ts) (sym (names-fields_of fields))
      (are_keys (tree_facts tree) p k children (map (λ (x : List ℕ × Shown). x.0) fields) rising has kept)

  a_map_shown : (fields : List (List ℕ × Shown))
      → AreThose (λ t. IsPresent (tree_facts tree) (into_map p k) (Text t)) (texts_in children) (map (λ (x : List ℕ × Shown). x.0) fields)
      → EachField tree (into_map p k) fields → HasMap (tree_facts tree) (tree_values tree) p k
      → IsMapShown tree p k (list_data (string (codes "map") ∷ list_data (map field_data fields) ∷ []) ∷ [])
  a_map_shown fields kept each there = record {
    shown = a_map (fields_of fields);
    shows = (there, keys_shown fields kept, fields_shown tree (into_map p k) fields each);
    is = ap (λ items. list_data (string (codes "map") ∷ array items ∷ []) ∷ []) (data-fields_of fields);
  }

  map_of : (put : Bool) → Decides put (IsPut (tree_facts tree) (tree_values tree) p k EmptyMap) → (fields : List (List ℕ × Shown))
      → AreThose (λ t. IsPresent (tree_facts tree) (into_map p k) (Text t)) (texts_in children) (map (λ (x : List ℕ × Shown). x.0) fields)
      → EachField tree (into_map p k) fields → IsMapShown tree p k (branch_of (codes "map") put (map field_data fields))
  map_of false d [] kept each = record {
    shown = no_map;
    shows = λ h. elim h [
      | inl key ↦ absurd (Contains-nil ((are_keys (tree_facts tree) p k children [] rising has kept).all key.0 key.1))
      | inr put ↦ absurd (true≢false (sym (d.1 put)))
    ];
    is = refl;
  }
  map_of true d [] kept each = a_map_shown [] kept each (inr (d.0 refl))
  map_of false d (x ∷ fields) kept each = a_map_shown (x ∷ fields) kept each (inl (x.0, those_hold kept x.0 (Contains-here (map (λ (x : List ℕ × Shown). x.0) fields) refl)))
  map_of true d (x ∷ fields) kept each = a_map_shown (x ∷ fields) kept each (inr (d.0 refl))

  pub map_from : (put : Bool) (ds : List Data) → Decides put (IsPut (tree_facts tree) (tree_values tree) p k EmptyMap)
      → AreFields tree (into_map p k) (texts_in children) ds → IsMapShown tree p k (branch_of (codes "map") put ds)
  map_from put ds d a = subst (λ (xs : List Data). IsMapShown tree p k (branch_of (codes "map") put xs)) (sym a.is) (map_of put d a.fields a.kept a.each)

-- ---- elements

abbrev elements_of : List Shown → Elements
elements_of [] = no_elements
elements_of (e ∷ es) = element e (elements_of es)

data-elements_of : (es : List Shown) → items_of (map shown_data es) ≡ elements_data (elements_of es)
data-elements_of [] = refl
data-elements_of (e ∷ es) = rw (data-elements_of es) refl

elements_shown : (tree : TreeValue) (p : List Tagged) (ids : List Id) (es : List Shown) → EachElement tree p ids es
    → ShowsElements (tree_facts tree) (tree_values tree) p ids (elements_of es)
elements_shown tree p [] [] h = refl
elements_shown tree p (i ∷ ids) (e ∷ es) h = (i, ids, refl, h.0, elements_shown tree p ids es h.1)
elements_shown tree p [] (e ∷ es) h = absurd h
elements_shown tree p (i ∷ ids) [] h = absurd h

module _ (tree : TreeValue) (p : List Tagged) (k : Key) where
  a_list_shown : (ids : List Id) (es : List Shown) → AreElements (tree_facts tree) p k ids → EachElement tree (into_list p k) ids es
      → HasList (tree_facts tree) (tree_values tree) p k ids
      → IsListShown tree p k (list_data (string (codes "list") ∷ list_data (map shown_data es) ∷ []) ∷ [])
  a_list_shown ids es those each there = record {
    shown = a_list (elements_of es);
    shows = (ids, those, there, elements_shown tree (into_list p k) ids es each);
    is = ap (λ items. list_data (string (codes "list") ∷ array items ∷ []) ∷ []) (data-elements_of es);
  }

  list_of : (put : Bool) → Decides put (IsPut (tree_facts tree) (tree_values tree) p k EmptyList) → (ids : List Id) (es : List Shown)
      → AreElements (tree_facts tree) p k ids → EachElement tree (into_list p k) ids es
      → IsListShown tree p k (branch_of (codes "list") put (map shown_data es))
  list_of false d [] [] those each = record {
    shown = no_list;
    shows = ([], those, λ h. elim h [ inl some ↦ absurd (some refl) | inr put ↦ absurd (true≢false (sym (d.1 put))) ]);
    is = refl;
  }
  list_of true d [] [] those each = a_list_shown [] [] those each (inr (d.0 refl))
  list_of false d (i ∷ ids) (e ∷ es) those each = a_list_shown (i ∷ ids) (e ∷ es) those each (inl (λ h. absurd (nil h)))
    where
      nil : ◌≡◌ {A = List Id} (i ∷ ids) [] → ⊥
      nil h = cc
  list_of true d (i ∷ ids) (e ∷ es) those each = a_list_shown (i ∷ ids) (e ∷ es) those each (inr (d.0 refl))
  list_of put d [] (e ∷ es) those each = absurd each
  list_of put d (i ∷ ids) [] those each = absurd each

  pub list_from : (put : Bool) (ids : List Id) (ds : List Data) → Decides put (IsPut (tree_facts tree) (tree_values tree) p k EmptyList)
      → AreElements (tree_facts tree) p k ids → AreShown tree (into_list p k) ids ds → IsListShown tree p k (branch_of (codes "list") put ds)
  list_from put ids ds d those a = subst (λ (xs : List Data). IsListShown tree p k (branch_of (codes "list") put xs)) (sym a.is) (list_of put d ids a.elements those a.each)

  -- all branches together
  pub shown_from : (ms ls : List Data) (entries : List (Id × Scalar)) (terms : List (Id × ℤ)) → IsMapShown tree p k ms → IsListShown tree p k ls
      → AreEntries (tree_facts tree) p k entries → AreTerms (tree_facts tree) p k terms
      → IsShown tree p k (list_data (ms ++ ls ++ map value_entry_data entries ++ count_branch (total_shown terms)))
  shown_from ms ls entries terms m l e t = record {
    shown = shown m.shown l.shown entries (total_shown terms);
    shows = (m.shows, l.shows, e, (terms, t, refl));
    is = λ j. list_data (m.is j ++ l.is j ++ map value_entry_data entries ++ count_branch (total_shown terms));
  }
