-- The values that roles put, in id order.
use Rattle.std.proofs.Common.{◌≡◌, List, [], ◌∷◌, ◌++◌, Option, Some, None, option_and_then, ◌⊎◌, inl, inr, refl, sym, ap, subst, ◌∙◌, Contains}
use Rattle.doc_api.specs.Words.{Id, id_cmp, Scalar, Val, Key, Tagged}
use Rattle.list_laws.proofs.Members.{Contains-nil, Contains-here, Contains-there, Contains-cases}
use Rattle.crdt_rules.proofs.Tests.{some_same}
use Rattle.doc_api.specs.declared.role.Role.{Role}
use Rattle.presence_set.specs.ById.{get}
use Rattle.doc_tree.specs.Nodes.{TreeValue}
use Rattle.doc_tree.specs.Nodes.{tree_facts, tree_role}
use Rattle.doc_rules.specs.Views.{AreConflicts}
use Rattle.doc_rules.specs.Role.{value_in}
use Rattle.doc_rules.specs.Sorted.{IsRising}
use Rattle.doc_view.specs.TreeValues.{tree_values, with_value, values_of_roles}
use Rattle.doc_view.proofs.Presence.{AreRoles, role_of, present_from, entry_from}

pub with_value-append : (i : Id) (v : Option Val) (values : List (Id × Val)) → with_value i v values ≡ with_value i v [] ++ values
with_value-append i None values = refl
with_value-append i (Some v) values = refl

-- the role of an id that puts a value
record HasValueRole (scalars : List (Id × Scalar)) (roles : List (Id × Role)) (x : Id × Val) : Type 0 where
  role : Role
  has : Contains roles (x.0, role)
  value : value_in role (get scalars x.0) ≡ Some x.1

none_some : {X : Type 0} {x : X} → ◌≡◌ {A = Option X} None (Some x) → ⊥
none_some e = cc

module _ (scalars : List (Id × Scalar)) where
  role_of_value : (roles : List (Id × Role)) (x : Id × Val) → Contains (values_of_roles scalars roles) x → HasValueRole scalars roles x
  role_of_value [] x c = absurd (Contains-nil c)
  role_of_value (e ∷ roles) x c = go (value_in e.1 (get scalars e.0)) refl (role_of_value roles x) c
    where
      go : (v : Option Val) → value_in e.1 (get scalars e.0) ≡ v → (Contains (values_of_roles scalars roles) x → HasValueRole scalars roles x)
          → Contains (with_value e.0 v (values_of_roles scalars roles)) x → HasValueRole scalars (e ∷ roles) x
      go None is ih c = record { role = (ih c).role; has = Contains-there e roles (ih c).has; value = (ih c).value }
      go (Some v) is ih c = elim (Contains-cases (e.0, v) (values_of_roles scalars roles) c) [
        | inl same ↦ record {
          role = e.1;
          has = Contains-here roles (λ j. ((same j).0, e.1));
          value = subst (λ (z : Id × Val). value_in e.1 (get scalars z.0) ≡ Some z.1) same is;
        }
        | inr there ↦ record { role = (ih there).role; has = Contains-there e roles (ih there).has; value = (ih there).value }
      ]

  value_with_role : (roles : List (Id × Role)) (i : Id) (role : Role) (v : Val) → Contains roles (i, role) → value_in role (get scalars i) ≡ Some v
      → Contains (values_of_roles scalars roles) (i, v)
  value_with_role [] i role v c is = absurd (Contains-nil c)
  value_with_role (e ∷ roles) i role v c is = go (value_in e.1 (get scalars e.0)) refl (Contains-cases e roles c) (λ there. value_with_role roles i role v there is)
    where
      go : (o : Option Val) → value_in e.1 (get scalars e.0) ≡ o → ((e ≡ (i, role)) ⊎ Contains roles (i, role))
          → (Contains roles (i, role) → Contains (values_of_roles scalars roles) (i, v)) → Contains (with_value e.0 o (values_of_roles scalars roles)) (i, v)
      go None at (inr there) ih = ih there
      go (Some w) at (inr there) ih = Contains-there (e.0, w) (values_of_roles scalars roles) (ih there)
      go None at (inl same) ih = absurd (none_some (sym at ∙ subst (λ (z : Id × Role). value_in z.1 (get scalars z.0) ≡ Some v) (sym same) is))
      go (Some w) at (inl same) ih =
          Contains-here (values_of_roles scalars roles)
          (λ j. ((same j).0, some_same (sym at ∙ subst (λ (z : Id × Role). value_in z.1 (get scalars z.0) ≡ Some v) (sym same) is) j))

  values_rising : (roles : List (Id × Role)) → IsRising id_cmp (λ (e : Id × Role). e.0) roles
      → IsRising id_cmp (λ (e : Id × Val). e.0) (values_of_roles scalars roles)
  values_rising [] h = tt
  values_rising (e ∷ roles) h = go (value_in e.1 (get scalars e.0)) (values_rising roles h.1)
    where
      go : (o : Option Val) → IsRising id_cmp (λ (e : Id × Val). e.0) (values_of_roles scalars roles)
          → IsRising id_cmp (λ (e : Id × Val). e.0) (with_value e.0 o (values_of_roles scalars roles))
      go None ih = ih
      go (Some v) ih = (λ y c. h.0 (y.0, (role_of_value roles y c).role) ((role_of_value roles y c).has), ih)

-- roles and register of a place give its values
pub are_conflicts : (tree : TreeValue) (p : List Tagged) (k : Key) (roles : List (Id × Role)) (scalars : List (Id × Scalar))
    → AreRoles tree p k roles → ((i : Id) → get scalars i ≡ (tree_facts tree).register p k i)
    → AreConflicts (tree_facts tree) (tree_values tree) p k (values_of_roles scalars roles)
are_conflicts tree p k roles scalars are register = record {
  rising = values_rising scalars roles are.ascending;
  each = λ x c. let t = role_of_value scalars roles x c in (
    present_from are (x.0, t.role) t.has,
    ap (λ s. option_and_then (λ role. value_in role s) (tree_role tree p k x.0)) (sym (register x.0))
        ∙ ap (λ o. option_and_then (λ role. value_in role (get scalars x.0)) o) (role_of are (x.0, t.role) t.has) ∙ t.value,
  );
  all = λ x h. let e = entry_from are x.0 h.0 in
      value_with_role scalars roles x.0 e.0 x.1 e.1
      (sym (ap (λ o. option_and_then (λ role. value_in role (get scalars x.0)) o) (role_of are (x.0, e.0) e.1))
      ∙ ap (λ s. option_and_then (λ role. value_in role s) (tree_role tree p k x.0)) (register x.0) ∙ h.1);
}
