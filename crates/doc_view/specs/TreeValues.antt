-- The values that the roles and registers of a tree give.
use Rattle.std.specs.Prelude.{List, [], ◌∷◌, Option, Some, None, option_and_then}
use Rattle.doc_api.specs.Words.{Id, Scalar, Val}
use Rattle.doc_api.specs.declared.role.Role.{Role}
use Rattle.json_scalar.specs.declared.scalar.Val.TheVariants as val
use Rattle.presence_set.specs.ById.{get}
use Rattle.doc_tree.specs.Nodes.{TreeValue}
use Rattle.doc_tree.specs.Nodes.{tree_facts, tree_role}
use Rattle.doc_rules.specs.Views.{Values}
use Rattle.doc_rules.specs.Role.{value_in}
use Rattle.doc_view.specs.declared.roles.PutValue.{PutValue}
use Rattle.doc_view.specs.declared.roles.PutValue.TheVariants as put

-- what the operation of each id put at each place
abbrev pub tree_values : TreeValue → Values
tree_values tree p k i =
    option_and_then
    (λ role. value_in role ((tree_facts tree).register p k i)) (tree_role tree p k i)

-- the pair of an id and its value, if it has one
abbrev pub with_value : Id → Option Val → List (Id × Val) → List (Id × Val)
with_value i None values = values
with_value i (Some value) values = (i, value) ∷ values

-- the ids of these roles that put a value, each with that value
abbrev pub values_of_roles : List (Id × Scalar) → List (Id × Role) → List (Id × Val)
values_of_roles scalars [] = []
values_of_roles scalars (e ∷ roles) = with_value e.0 (value_in e.1 (get scalars e.0)) (values_of_roles scalars roles)

-- the value that was put, if one was
abbrev pub value_of_put : PutValue → Option Val
value_of_put put.Nothing = None
value_of_put put.EmptyMap = Some val.EmptyMap
value_of_put put.EmptyList = Some val.EmptyList
value_of_put (put.Scalar scalar) = Some (val.Scalar scalar.now)
