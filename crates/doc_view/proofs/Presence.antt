-- Which ids make a place present, read from what is there.
use Rattle.std.proofs.Common.{◌≡◌, List, [], ◌∷◌, true, true≢false, Decides, ◌⊎◌, inl, inr, Option, Some, None, refl, sym, ap, ◌∙◌, Contains, is_some}
use Rattle.doc_api.specs.Words.{Id, Key, Tagged}
use Rattle.crdt_rules.proofs.SameLaws.{id_decides}
use Rattle.doc_api.specs.declared.role.Role.{Role}
use Rattle.presence_set.specs.ById.{get, IsAscending}
use Rattle.doc_tree.specs.Nodes.{TreeValue}
use Rattle.doc_nodes.specs.declared.node.NodeNumber.{NodeNumber}
use Rattle.doc_nodes.specs.Nodes.{node_at, node_of}
use Rattle.doc_tree.specs.Facts.{facts_of}
use Rattle.doc_nodes.specs.ListPresence.{is_some_entry, is_node_present}
use Rattle.doc_tree.specs.Nodes.{tree_facts, tree_present, tree_role}
use Rattle.doc_tree.proofs.Reading.{role_read, role_absent}
use Rattle.doc_rules.specs.Views.{IsPresent}
use Rattle.list_laws.proofs.Bisection.{get-own, get-Contains}
use Rattle.presence_set.proofs.Ascending.{ids_ordered}

pub present_role : (tree : TreeValue) (p : List Tagged) (k : Key) (i : Id)
    → (tree_facts tree).present p k i ≡ is_some (tree_role tree p k i)
unfolding facts_of
present_role tree p k i = refl

-- the ids and roles at a place
pub record AreRoles (tree : TreeValue) (p : List Tagged) (k : Key) (roles : List (Id × Role)) : Type 0 where
  pub value : (i : Id) → get roles i ≡ tree_role tree p k i
  pub ascending : IsAscending roles

module _ {tree : TreeValue} {p : List Tagged} {k : Key} {roles : List (Id × Role)} (are : AreRoles tree p k roles) where
  pub role_of : (e : Id × Role) → Contains roles e → tree_role tree p k e.0 ≡ Some e.1
  role_of e c = sym (are.value e.0) ∙ get-own ids_ordered roles are.ascending e c

  pub present_from : (e : Id × Role) → Contains roles e → (tree_facts tree).present p k e.0 ≡ true
  present_from e c = present_role tree p k e.0 ∙ ap is_some (role_of e c)

  pub entry_from : (i : Id) → (tree_facts tree).present p k i ≡ true → (role : Role) × Contains roles (i, role)
  entry_from i here = go (get roles i) refl (ap is_some (are.value i) ∙ sym (present_role tree p k i) ∙ here)
    where
      go : (o : Option Role) → get roles i ≡ o → is_some o ≡ true → (role : Role) × Contains roles (i, role)
      go None is some = absurd (cc)
      go (Some role) is some = (role, get-Contains ids_ordered roles i role is)

-- some ids and roles are at each place
roles_there : (tree : TreeValue) (p : List Tagged) (k : Key) → (roles : List (Id × Role)) × ((i : Id) → get roles i ≡ tree_role tree p k i)
roles_there tree p k = go (node_at tree.0 p k) refl
  where
    go : (o : Option NodeNumber) → node_at tree.0 p k ≡ o → (roles : List (Id × Role)) × ((i : Id) → get roles i ≡ tree_role tree p k i)
    go None e = ([], role_absent tree.0 p k e)
    go (Some n) e = ((node_of tree.0 n).presence.0, role_read tree.0 p k n e)

-- so each place is present or isn't
pub present_or_not : (tree : TreeValue) (p : List Tagged) (k : Key) → IsPresent (tree_facts tree) p k ⊎ ¬ (IsPresent (tree_facts tree) p k)
present_or_not tree p k = let there = roles_there tree p k in go there.0 there.1
  where
    go : (roles : List (Id × Role)) → ((i : Id) → get roles i ≡ tree_role tree p k i) → IsPresent (tree_facts tree) p k ⊎ ¬ (IsPresent (tree_facts tree) p k)
    go [] is = inr (λ w. true≢false (sym w.1 ∙ present_role tree p k w.0 ∙ ap is_some (sym (is w.0))))
    go (e ∷ roles) is = inl (e.0, present_role tree p k e.0 ∙ ap is_some (sym (is e.0)) ∙ (rw (id_decides.itself e.0) refl))

-- the roles at a place decide it
pub tree_decides : (tree : TreeValue) (p : List Tagged) (k : Key) → Decides (tree_present tree p k) (IsPresent (tree_facts tree) p k)
tree_decides tree p k = go (node_at tree.0 p k) refl
  where
    of : (roles : List (Id × Role)) → ((i : Id) → get roles i ≡ tree_role tree p k i) → Decides (is_some_entry roles) (IsPresent (tree_facts tree) p k)
    of [] is = (λ h. absurd (true≢false (sym h)), λ w. absurd (true≢false (sym w.1 ∙ present_role tree p k w.0 ∙ ap is_some (sym (is w.0)))))
    of (e ∷ roles) is = (λ h. (e.0, present_role tree p k e.0 ∙ ap is_some (sym (is e.0)) ∙ (rw (id_decides.itself e.0) refl)), λ w. refl)

    go : (o : Option NodeNumber) → node_at tree.0 p k ≡ o → Decides (is_node_present tree.0 o) (IsPresent (tree_facts tree) p k)
    go None e = of [] (role_absent tree.0 p k e)
    go (Some n) e = of (node_of tree.0 n).presence.0 (role_read tree.0 p k n e)
