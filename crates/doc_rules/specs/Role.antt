-- What the operation of an id did at a place.
use Rattle.std.specs.Prelude.{◌≡◌, List, [], ◌∷◌, Bool, ◌&&◌, Option, Some, None, option_map}
use Rattle.std.specs.Prelude.{option_and_then}
use Rattle.std.specs.Prelude.{if◌then◌else◌}
use Rattle.doc_api.specs.Words.{Id, Scalar, Val, Key, Tagged, Mutation, Assign, Insert, Delete, Add}
use Rattle.doc_api.specs.Words.{Op}
use Rattle.json_scalar.specs.declared.scalar.Val.TheVariants.{Scalar as Plain, EmptyMap, EmptyList}
use Rattle.doc_api.specs.declared.role.Role.{Role}
use Rattle.doc_api.specs.declared.role.Role.TheVariants as role
use Rattle.crdt_rules.specs.Same.{id_eq, key_eq, path_eq}
use Rattle.crdt_rules.specs.Effect.{value_put, clears, marks, path_of, end_key}
use Rattle.crdt_rules.specs.Facts.{Facts, facts, ends_here}
use Rattle.crdt_rules.specs.Log.{replay}

-- the value that the operation of this id put at this very place
abbrev pub value_put_at : List Op → List Tagged → Key → Id → Option Val
value_put_at [] p k i = None
value_put_at (o ∷ log) p k i = if ends_here o p k i then value_put o.mutation else value_put_at log p k i

-- the role of an operation where it puts a value
abbrev pub role_of : Val → Role
role_of (Plain s) = role.Scalar
role_of EmptyMap = role.Map
role_of EmptyList = role.List

-- what a mutation does where it ends
abbrev pub role_put : Mutation → Role
role_put (Assign v) = role_of v
role_put (Insert v) = role_of v
role_put Delete = role.Through
role_put (Add n) = role.Counter

-- what the operation of this id did at this very place
abbrev pub logged_role : List Op → List Tagged → Key → Id → Role
logged_role [] p k i = role.Through
logged_role (o ∷ log) p k i = if ends_here o p k i then role_put o.mutation else logged_role log p k i

-- what an operation does at a place
abbrev pub role_here : Op → List Tagged → Key → Role
role_here op p k = if path_eq (path_of op) p && key_eq (end_key op) k then role_put op.mutation
    else role.Through

-- the value that a role and a register's entry give
abbrev pub value_in : Role → Option Scalar → Option Val
value_in role.Through entry = None
value_in role.Map entry = Some EmptyMap
value_in role.List entry = Some EmptyList
value_in role.Scalar entry = option_map Plain entry
value_in role.Counter entry = None

-- each present id with its role
abbrev pub roles_of : Facts → List Op → List Tagged → Key → Id → Option Role
roles_of f log p k i = if f.present p k i then Some (logged_role log p k i) else None

-- the facts are those of the log, and each present id has its role
pub record AreOf (log : List Op) (f : Facts) (roles : List Tagged → Key → Id → Option Role) : Type 0 where
  pub facts_are : f ≡ facts (replay log)
  pub roles_are : (p : List Tagged) (k : Key) (i : Id) → roles p k i ≡ roles_of f log p k i

-- the values that roles give, with the entries of the registers
abbrev pub values_in : Facts → (List Tagged → Key → Id → Option Role) → List Tagged → Key → Id
    → Option Val
values_in f roles p k i = option_and_then (λ role. value_in role (f.register p k i)) (roles p k i)

-- the roles after one more operation, which clears what deps covers
abbrev pub step_roles : (List Tagged → Key → Id → Option Role) → Op → (Id → Bool) → List Tagged
    → Key → Id → Option Role
step_roles roles op deps p k i =
    if marks op p k && id_eq op.id i then Some (role_here op p k) else
    (if clears op p k && deps i then None else roles p k i)
